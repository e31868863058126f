-- What the contracts of bounds cite beside the definition.
pub mod Bests
