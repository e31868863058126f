-- How packed lists are read and written.
pub mod Reading
pub mod Rows
pub mod View
