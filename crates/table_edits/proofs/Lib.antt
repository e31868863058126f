-- Laws of the edits.
-- TableTests: what a table has that passes 1, 11 and 27. Adds, Retires: the answer of an edit case by case, and the table after it.
pub mod TableTests
mod Adds
mod Retires
