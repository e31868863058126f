-- What the contracts of the index, and of the search, cite.
pub mod Filed
pub mod Recorded
pub mod Level
pub mod Indexed
