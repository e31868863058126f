-- What the contracts of the tests cite beside the definition.
pub mod Tests
