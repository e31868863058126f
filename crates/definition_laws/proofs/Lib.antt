-- Laws of the definition of the build that rest on those of its numbers, and of its calls.
pub mod Finite
pub mod Covers
pub mod Shape
pub mod Depths
pub mod Overlaps
pub mod OwnFirst
pub mod Accepted
pub mod Fit
pub mod Choice
