-- What the laws of the root and the contracts of its code are said with.
pub mod Sorts
pub mod Steps
