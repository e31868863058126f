-- The texts of a list's numbers.
pub mod NumberTexts
