-- Laws on the parts of a stored tree's records.
pub mod Parts
