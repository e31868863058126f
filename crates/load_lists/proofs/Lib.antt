-- Laws of writing a stored tree to the lists.
pub mod Domain
pub mod Writing
pub mod Ahead
pub mod DomainsLoop
pub mod Level
pub mod LevelsLoop
pub mod Fitted
