-- What the contracts of those who append bytes one part after the other cite.
pub mod Writing
