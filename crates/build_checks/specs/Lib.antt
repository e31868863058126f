-- What the contracts of the checks cite beside the definition.
pub mod Checked
