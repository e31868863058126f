-- Laws of the index.
pub mod Positions
pub mod Makes
pub mod Files
pub mod Level
pub mod Packed
pub mod Rows
