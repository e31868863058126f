-- What the contracts on a leaf's rows cite beside the definition.
pub mod Asked
