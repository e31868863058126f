-- What the contracts of the edits cite.
pub mod Edits
