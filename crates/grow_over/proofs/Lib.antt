-- Laws of the tree over given rows.
pub mod Over
