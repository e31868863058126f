-- What the contracts of `levels` cite beside the definition of the build.
pub mod Answers
