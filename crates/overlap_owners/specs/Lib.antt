-- What the contracts of the owners cite.
pub mod Own
