-- What the contracts of the exported functions cite beside the definition.
pub mod Slots
pub mod Settings
pub mod Told
