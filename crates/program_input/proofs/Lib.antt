-- Where reading stands.
pub mod Fronts
