-- What the contracts of keeping a tree cite.
pub mod Keeping
