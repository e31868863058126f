-- Laws of an accepted call, and of the outcome of both builds.
pub mod Grown
pub mod Outcomes
