-- Laws of distances and places, which their proofs cite.
pub mod Turns
mod Firsts
