-- Laws on digits, and on the texts.
pub mod Digits
pub mod Texts
