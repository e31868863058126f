-- Several tests that all pass: laws of crate lists, under this name too.
pub use Rattle.lists.proofs.Tests.{three-pass, four-pass}
