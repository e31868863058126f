-- From the loader's outcome to the text of a load, and from the reader's answer to what is printed.
pub mod LoadsAsStated
pub mod LoadedText
pub mod Reloads
