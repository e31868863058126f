-- The levels of a tree that stands in lists, tested in turn.
pub mod InLists
pub mod Passed
