-- The laws of the stored tree: what is written reads back; what stands whole is what is written; which bytes are well-formed; and
-- the loader and the writer as whole calls.
pub mod Fields
pub mod Domains
pub mod Levels
pub mod Front
pub mod Stowed
pub mod ReadBack
pub mod WorkedBack
pub mod WrittenWhole
pub mod WrittenBytes
pub mod FieldsAgain
pub mod LevelsAgain
pub mod FrontAgain
pub mod FileIsWhole
pub mod WellFormed
pub mod Verdicts
pub mod Loaded
pub mod Writes
pub mod Fronts
pub mod RoundTrip
