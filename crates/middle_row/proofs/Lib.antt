-- Laws of the search for the middle row.
pub mod Ranks
pub mod Turns
pub mod Rounds
