-- Laws of the owners.
pub mod Bisect
pub mod Marks
pub mod Places
pub mod Read
