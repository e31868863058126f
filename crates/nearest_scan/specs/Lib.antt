-- What the contracts of the scan cite.
pub mod OneProof
pub mod Near
pub mod Finds
