-- What the contracts of the next level's rows cite.
pub mod Sent
