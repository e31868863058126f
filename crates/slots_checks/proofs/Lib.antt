-- Laws that the proofs of the checks cite.
mod Judged
mod Groups
