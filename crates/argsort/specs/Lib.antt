-- What the contracts of the ordering cite.
pub mod Rows
pub mod Merge
