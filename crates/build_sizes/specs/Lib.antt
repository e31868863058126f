-- What the contracts of the lengths cite beside the definition.
pub mod Sizes
