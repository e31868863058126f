-- Laws on the bytes that are written, and that they read back.
pub mod Nan
pub mod Bytes
pub mod Back
pub mod Writing
pub mod Each
