-- What the contracts of the front cite beside the definition.
pub mod Fronts
pub mod Reading
