-- Laws that the proofs of the rounds cite.
mod Orders
mod Passes
mod Roots
mod Alike
mod Picking
mod Covering
mod Choosing
