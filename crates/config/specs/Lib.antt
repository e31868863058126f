-- What the settings stand for.
pub mod Params
