-- The outcome of keeping a tree, by what is kept and by the room in the lent list. Assumes nothing.
-- Holds: answer-short, output-short, answer-refused, output-refused, answer-file, output-file
use mathlib.Core.Path.{◌≡◌}
use Prim.Native.Nat.{ℕ, ◌≤◌, ◌<◌}
use mathlib.Core.List.{List}
use lib.ListN.{length}
use borrow.Author.Tests.{le-ltb, lt-ltb}
use Rattle.definition.specs.Refusals.{Refusal, refused}
use Rattle.definition.specs.Outcome.{number_of, place_of, value_of, written, list_after}
use Rattle.stored.specs.Programs.{Kept, file, nothing}
use Rattle.reload_laws.specs.Sizes.{most_file_bytes}
use Rattle.keep.specs.Keeping.{kept_verdict, kept_bytes, keep_call, keep_answer, keep_output}

-- ---- a list that is too short
module _ (k : Kept) (lent : List ℕ) (h : length lent < most_file_bytes) where
  call-short : keep_call k lent ≡ refused (record { number = 11; place = 0 })
  unfolding keep_call
  call-short = rw (lt-ltb (length lent) most_file_bytes h)

  pub answer-short : record { number = 11; place = 0; value = 0 } ≡ keep_answer k lent
  unfolding keep_answer number_of place_of value_of
  answer-short = rw call-short

  pub output-short : lent ≡ keep_output k lent
  unfolding keep_output list_after
  output-short = rw call-short

-- ---- a list that is long enough
module _ (lent : List ℕ) (h : most_file_bytes ≤ length lent) where
  call_long : (k : Kept) → keep_call k lent ≡ kept_verdict k
  unfolding keep_call
  call_long k = rw (le-ltb (length lent) most_file_bytes h)

  -- of a refusal
  pub answer-refused : (r : Refusal) → keep_answer (nothing r) lent ≡ record { number = r.number; place = r.place; value = 0 }
  unfolding keep_answer kept_verdict number_of place_of value_of
  answer-refused r = rw (call_long (nothing r))

  pub output-refused : (r : Refusal) → keep_output (nothing r) lent ≡ lent
  unfolding keep_output kept_verdict list_after
  output-refused r = rw (call_long (nothing r))

  -- of a file
  pub answer-file : (bytes : List ℕ) → keep_answer (file bytes) lent ≡ record { number = 0; place = 0; value = length bytes }
  unfolding keep_answer kept_verdict kept_bytes number_of place_of value_of
  answer-file bytes = rw (call_long (file bytes))

  pub output-file : (bytes : List ℕ) → keep_output (file bytes) lent ≡ written bytes lent
  unfolding keep_output kept_verdict kept_bytes list_after
  output-file bytes = rw (call_long (file bytes))
