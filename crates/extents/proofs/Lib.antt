-- Laws of bounds, which their proofs cite.
mod Firsts
