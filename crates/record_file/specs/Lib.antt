-- What the contracts of record_file cite.
pub mod Tallies
