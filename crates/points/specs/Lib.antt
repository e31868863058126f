-- What the contracts over columns cite.
pub mod Columns
