-- Laws of loops over rows, of their order, of rows that are put back, and of a domain's rows.
pub mod Loops
pub mod Order
pub mod PutBack
pub mod RowTests
