-- Laws of both builds together, of the build over slots where all are live, and of two of them around a closing.
pub mod BothBuilds
pub mod AllSlots
pub mod AroundClosing
