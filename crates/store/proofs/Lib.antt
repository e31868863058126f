-- Laws of the writer.
pub mod Lengths
pub mod Held
pub mod Sized
pub mod Outcomes
