-- What the laws of the gap, and the contracts of the search, cite.
pub mod Boxed
