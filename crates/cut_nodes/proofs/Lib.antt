-- Laws of what the depth-first cut writes.
pub mod Laws
