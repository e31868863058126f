-- What the contracts of the writers cite beside the definition.
pub mod Unpack
