-- Definitions that the laws are stated with.
pub mod Shape
