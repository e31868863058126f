-- Laws of what a search keeps.
pub mod Half
pub mod First
pub mod Kept
pub mod Rows
pub mod Held
pub mod Searches
