-- What the contracts of the rounds cite beside the definition.
pub mod Rounds
