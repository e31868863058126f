-- Laws of a bit of a word, and of sets of rows as bits.
pub mod Words
pub mod Bits
pub mod Marks
