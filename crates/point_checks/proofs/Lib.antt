-- The laws of the tests.
pub mod Laws
