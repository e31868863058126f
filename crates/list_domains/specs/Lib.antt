-- Leaves that stand in packed lists, tested in turn.
pub mod Boxes
pub mod InLists
pub mod Passed
