-- Laws of refusals and answers.
pub mod Answers
pub mod Told
