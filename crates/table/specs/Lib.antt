-- What the contracts of the calls on a table cite.
pub mod Answers
