-- The table of files.
pub mod WorkedFiles
