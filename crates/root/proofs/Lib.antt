-- Laws that the proofs of the numbers cite.
mod Whole
mod Cases
