-- Laws of rows that stand in bytes.
pub mod InBytes
