-- What the contracts of sorting cite.
pub mod Order
