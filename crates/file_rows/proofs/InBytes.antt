-- The rows that stand in bytes: how many they are, and which stands where, by laws of crate bytes_in.
pub use Rattle.bytes_in.proofs.Fields.{length-numbers-at as length_rows, number-which as row_at}
