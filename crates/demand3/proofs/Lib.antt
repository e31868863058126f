-- Laws and the theorem.
pub mod Unpack
pub mod Shares
pub mod Levels
pub mod Fine
pub mod Depths
pub mod Answered
pub mod Demand
pub mod Loaded
