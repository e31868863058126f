-- Rows marked, one bit each.
pub mod Bits
