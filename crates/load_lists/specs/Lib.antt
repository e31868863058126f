-- What the contracts of writing a stored tree to the lists cite.
pub mod Places
