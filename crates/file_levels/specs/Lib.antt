-- What is said of levels that are tested.
pub mod Levels
