-- What the contracts of those who read bytes cite, and the laws of the trait of fields.
pub mod Each
pub mod Marks
