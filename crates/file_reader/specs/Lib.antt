-- What is said of a record that is fetched.
pub mod Fetch
