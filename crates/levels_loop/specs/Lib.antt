-- What the contracts of the levels cite.
pub mod After
pub mod Records
pub mod Planned
