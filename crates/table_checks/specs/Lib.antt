-- What the contracts over a table of wells cite beside the definition.
pub mod Tables
