-- Laws of the cut record.
pub mod Domains
pub mod Steps
pub mod ByDepth
pub mod Depths
pub mod Entries
pub mod Numbers
pub mod Long
pub mod Under
pub mod Placed
pub mod QueueNumbers
pub mod Filled
