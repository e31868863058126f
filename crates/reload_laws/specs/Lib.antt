-- The sizes that suffice for every file.
pub mod Sizes
