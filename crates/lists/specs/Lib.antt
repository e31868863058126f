-- Definitions on lists.
pub mod Lists
pub mod Ascends
pub mod Times
pub mod Same
pub mod Columns
pub mod Found
