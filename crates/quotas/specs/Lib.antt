-- What the contracts of `quotas` cite beside the definition of the build and its laws.
pub mod Answers
pub mod Sharing
pub mod Outcome
