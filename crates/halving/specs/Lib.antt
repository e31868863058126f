-- What the contracts of the cut cite.
pub mod Cuts
