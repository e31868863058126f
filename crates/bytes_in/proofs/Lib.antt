-- Laws on numbers, floats and marks of bytes.
pub mod Bytes
pub mod Floats
pub mod Turns
pub mod Fields
