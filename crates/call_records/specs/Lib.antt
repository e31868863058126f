-- What the contracts of the reader of records cite.
pub mod Reads
pub mod Nines
