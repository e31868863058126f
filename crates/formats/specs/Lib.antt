-- Bytes in and bytes out: numbers, the job stream, the printout.
pub mod Bytes
pub mod Stream
pub mod Printout
