-- Laws of the queue.
pub mod Nodes
pub mod Kind
pub mod Stretches
pub mod State
pub mod Loop
pub mod View
pub mod Columns
