-- Laws of the square root.
pub mod Squares
pub mod Rounding
pub mod Patterns
pub mod Digits
pub mod Scaling
pub mod Rooted
pub mod Nearest
pub mod Monotone
pub mod Order
pub mod Operations
pub mod Refusal
pub mod Values
