-- What the contracts of closing cite.
pub mod Passed
pub mod Outcome
