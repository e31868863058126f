-- What the contracts of the pairs cite.
pub mod Pairs
