-- Laws of the overlaps.
pub mod Codes
pub mod Drops
pub mod Rows
pub mod Reaches
pub mod Columns
pub mod Lends
pub mod Borrows
pub mod Stages
