-- What the contract cites.
pub mod Tests
