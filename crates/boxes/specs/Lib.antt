-- What the contracts of boxes cite beside the definition.
pub mod Boxes
