-- From the build's outcome to the printout, and from the reader's answer to it.
pub mod Joins
