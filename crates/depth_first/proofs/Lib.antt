-- Laws of the depth-first engine.
pub mod Level
