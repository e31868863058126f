-- Laws of domain records that are tested.
pub mod OneDomain
pub mod DomainsInTurn
