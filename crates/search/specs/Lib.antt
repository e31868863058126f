-- What the contracts of a search cite.
pub mod Ranks
pub mod Visits
