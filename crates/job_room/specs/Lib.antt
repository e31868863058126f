-- What the contracts cite of calls that print into a lent list, and of the lists for the largest job.
pub mod Printing
pub mod Room
