-- Laws of one level.
pub mod Columns
pub mod Stages
pub mod Sent
pub mod Halves
