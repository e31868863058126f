-- Laws of the outcome of a build over slots.
pub mod Outcomes
