-- What the contracts over rows cite.
pub mod Rows
