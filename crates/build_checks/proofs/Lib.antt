-- The laws of the checks.
pub mod Laws
