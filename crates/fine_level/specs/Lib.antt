-- What the contracts of a level cite.
pub mod Fine
pub mod Planned
