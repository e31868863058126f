-- How long what the programs print and write can be, and which bytes of a stream decide it.
pub mod SoundRows
pub mod SoundLong
pub mod ReloadedLong
pub mod KeptFits
pub mod FrontDecides
