-- The laws that belong to no one function.
pub mod Sending
pub mod Covering
pub mod Stages
pub mod Given
