-- What the contracts of a tree's answer cite.
pub mod Answers
