-- The laws of the loader.
pub mod FileTests
pub mod SameFile
pub mod Outcomes
