-- Laws of the cut.
pub mod Turns
pub mod Cutting
