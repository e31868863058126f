-- Laws of covered boxes.
pub mod Moved
