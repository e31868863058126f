-- Laws of the cut.
pub mod Stretch
pub mod Halves
