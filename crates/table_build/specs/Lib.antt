-- What the contract of the build over slots cites.
pub mod Outcome
