-- Laws of the job stream, of the tree's shape, and of the printout's length.
pub mod Shape
pub mod Stream
pub mod Front
pub mod Long
