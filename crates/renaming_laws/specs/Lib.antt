-- What the laws of renaming are stated in.
pub mod Renaming
