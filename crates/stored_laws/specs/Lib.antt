-- Definitions that the laws of the stored tree are stated with.
pub mod Writable
pub mod RoundTrip
