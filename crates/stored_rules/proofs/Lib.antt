-- A tree that passes the tests, and the rules of a loaded tree.
pub mod LevelRows
pub mod LastLevel
pub mod SoundTree
pub mod LoadedRules
pub mod FileRules
