-- The tests of a tree, one row and one record after the other.
pub mod InTurn
pub mod Whole
pub mod Size
