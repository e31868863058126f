-- What the contracts of the writer cite beside the format.
pub mod Runs
