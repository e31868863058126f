-- Laws of the numbering.
pub mod Entries
pub mod Turns
pub mod Passes
