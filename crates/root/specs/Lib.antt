-- What the contracts of the numbers cite beside the definition.
pub mod Answers
