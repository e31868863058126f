-- What the contracts of the public call cite beside the definition.
pub mod Answers
pub mod Outcome
