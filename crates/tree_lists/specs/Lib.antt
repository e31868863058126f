-- What the contracts over lent lists cite.
pub mod Lent
