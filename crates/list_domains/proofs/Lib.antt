-- Laws of leaves that stand in packed lists.
pub mod AsPacked
pub mod Held
pub mod Each
mod Boxes
mod OneDomain
mod Between
