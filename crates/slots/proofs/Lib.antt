-- Laws of a result slot, and the whole outcome of each exported call.
pub mod Slots
pub mod Told
