-- What the contracts of the numbering cite.
pub mod Numbering
