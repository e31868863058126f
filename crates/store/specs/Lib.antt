-- What the contracts of the writer cite.
pub mod Outcome
pub mod Limits
