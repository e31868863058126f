-- Rows that can be marked, the order of rows, the sets that are lent, and the test of a domain's rows.
pub mod Lent
pub mod Markable
pub mod Order
pub mod Tested
