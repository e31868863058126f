-- Laws on the fields of a record.
pub mod Widths
pub mod Same
