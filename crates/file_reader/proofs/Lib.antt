-- Laws of a record that is fetched, of its floats and of its end.
pub mod Fetches
pub mod LastFloats
