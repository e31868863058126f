-- What the queue's contracts cite.
pub mod Rows
pub mod Nodes
