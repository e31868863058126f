-- What the contracts of a level's covers cite.
pub mod Covered
