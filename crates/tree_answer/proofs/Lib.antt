-- Laws on the counts of a tree.
pub mod Zeros
