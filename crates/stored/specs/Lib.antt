-- The stored tree (document 02, request 1).
pub mod File
pub mod Sound
pub mod Stored
pub mod Outcome
pub mod Programs
