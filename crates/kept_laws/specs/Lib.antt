-- What the laws of a search, and its contracts, are stated with.
pub mod First
