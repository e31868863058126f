-- Laws of the ordering.
pub mod Orders
pub mod Costs
pub mod Merges
pub mod Turns
pub mod Halves
