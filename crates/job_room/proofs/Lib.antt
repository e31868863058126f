-- That the room suffices for every job, what the reader's answer says of the job, and the outcome of printing its text.
pub mod Lists
pub mod JobRead
pub mod Printing
