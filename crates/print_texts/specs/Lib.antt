-- What the contracts of the texts cite beside the definition.
pub mod Texts
pub mod Refusals
