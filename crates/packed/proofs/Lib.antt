-- A packed tree read back.
pub mod Counts
pub mod OwnRows
pub mod Unpacked
pub mod Packing
pub mod Standing
pub mod Leaves
