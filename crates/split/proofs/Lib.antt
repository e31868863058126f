-- Laws of the depth-first cut.
pub mod Turns
