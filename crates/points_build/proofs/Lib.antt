-- The law of the build over all points.
pub mod Outcomes
