-- What the contracts of a reload cite beside the definition.
pub mod Loading
