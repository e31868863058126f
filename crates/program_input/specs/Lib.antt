-- What the contracts of reading cite.
pub mod Input
