-- What the contracts of a node cite.
pub mod Nodes
