-- The complete outcome of a sampling, as one record. What is named with a prime is as the call leaves it. Definitions only.
use Rattle.std.specs.Prelude.{ℕ, ◌≡◌, List, Float}
use Rattle.definition.specs.Outcome.{Answer, Sampled, RoomAfter, sample_call, sample_answer, sample_output}

-- its answer, the output, and the working room, which an accepted call leaves free but for its length
pub record RowsSampled (d : ℕ) (cs : List Float) (wanted seed : ℕ) (out out' : List ℕ) (floats floats' : List Float) (wholes wholes' : List ℕ) (answer : Answer Sampled) : Type 0 where
  pub answers : answer ≡ sample_answer d cs wanted seed out floats wholes
  pub output : out' ≡ sample_output d cs wanted seed out floats wholes
  pub floats_free : RoomAfter (sample_call d cs wanted seed out floats wholes) floats floats'
  pub wholes_free : RoomAfter (sample_call d cs wanted seed out floats wholes) wholes wholes'
