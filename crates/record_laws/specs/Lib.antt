-- What the contracts of the depth-first engine and the laws of the record cite.
pub mod ByDepth
pub mod Table
