-- Laws that the proofs of the seed cite.
mod Nearest
