-- From the answers of the reader, the build and the writer to what is kept of a stream, and what a caller finds.
pub mod Outcomes
pub mod JobKept
pub mod StreamKept
pub mod Numbered
pub mod Found
