-- What is said of domain records that are tested.
pub mod Domains
