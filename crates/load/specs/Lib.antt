-- What the contracts of the loader cite.
pub mod Loading
