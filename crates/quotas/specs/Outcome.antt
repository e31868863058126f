-- The complete outcome of a call for quotas, as one record. What is named with a prime is as the call leaves it. Definitions only.
use Rattle.std.specs.Prelude.{ℕ, ◌≡◌, List}
use Rattle.definition.specs.Outcome.{Answer, Shared, RoomAfter, quota_call, quota_answer, quota_output}

-- its answer, the output, and the working room, which an accepted call leaves free but for its length
pub record SeatsShared (sizes : List ℕ) (wanted : ℕ) (out out' wholes wholes' : List ℕ) (answer : Answer Shared) : Type 0 where
  pub answers : answer ≡ quota_answer sizes wanted out wholes
  pub output : out' ≡ quota_output sizes wanted out wholes
  pub wholes_free : RoomAfter (quota_call sizes out wholes) wholes wholes'
