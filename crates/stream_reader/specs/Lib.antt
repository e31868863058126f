-- What the contracts of the reader cite beside the definition.
pub mod Reading
