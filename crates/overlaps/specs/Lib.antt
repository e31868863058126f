-- What the contracts of the overlaps cite.
pub mod Codes
pub mod Borrowed
pub mod Searched
