-- What the contracts of a level's leaves cite.
pub mod Room
