-- Laws of the levels.
pub mod Spaces
pub mod Fine
pub mod Coarse
pub mod Loop
pub mod Records
pub mod Noted
