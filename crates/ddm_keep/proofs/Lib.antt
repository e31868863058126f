-- That what is kept of the bytes read is what is kept of the stream.
pub mod Decided
