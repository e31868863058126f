-- What the contracts of the records cite beside the format.
pub mod Records
