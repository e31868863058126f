-- What the contracts of the depth-first cut cite.
pub mod Written
