-- Laws of a level's leaves.
pub mod Place
pub mod Recorded
pub mod Turns
