-- What is said of a leaf that is tested.
pub mod Passed
