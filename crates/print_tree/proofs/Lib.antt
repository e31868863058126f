-- Laws on the lines of a tree.
pub mod Lines
pub mod Grow
pub mod Levels
