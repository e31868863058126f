-- The tables of examples.
pub mod WorkedStreams
