-- What the contract of the build over all points cites.
pub mod Outcome
