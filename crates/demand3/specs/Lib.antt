-- What a build hands back, demand 3 of it, the part of the demand that a loaded tree has, and the depths of both.
pub mod Handed
pub mod Demand3
pub mod LoadedTree
pub mod Depths
