-- That what is printed for the bytes read is what is printed for the stream and the file.
pub mod Decided
