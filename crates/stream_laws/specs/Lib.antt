-- Definitions that the laws of the job are stated with.
pub mod Sizes
