-- Laws of boxes.
pub mod Boxed
mod Halves
