-- Laws of a search.
pub mod Slots
pub mod Places
pub mod Offering
pub mod Visiting
pub mod Searching
