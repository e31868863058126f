-- Laws of the pairs.
pub mod Sends
pub mod Collects
