-- A tree of the build against the tests of a stored tree.
pub mod FineLeaves
pub mod BuiltLevels
pub mod BuiltSound
pub mod Held
pub mod Written
