-- The outcome of a call that prints a text into a lent list, from what it wrote; and what a caller finds there. Assumes nothing.
-- Holds: text-room, refusal-room, refusal-numbered, answer-short, output-short, answer-long, output-long, count_fits, taken,
--   found
use mathlib.Core.Path.{◌≡◌, refl, ap, ◌∙◌}
use mathlib.Core.Logic.{⊎_elim}
use Prim.Native.Nat.{ℕ, ◌+◌, ◌≤◌, ◌<◌}
use native.Mathlib.Nat.{zero-add}
use native.Mathlib.Omega.{arith}
use mathlib.Core.List.{List, ◌++◌}
use lib.ListN.{length, take, drop, length-append}
use lib.Seq.{take_at}
use borrow.Author.Tests.{le-ltb, lt-ltb}
use Rattle.std.specs.Prelude.{Result, Ok, Err, IsOk}
use Rattle.lists.proofs.Put.{put-zero}
use Rattle.lists.proofs.Tests.{le-or-lt}
use Rattle.definition.specs.Refusals.{accepted, refused, verdict}
use Rattle.definition.specs.Outcome.{Answer, number_of, place_of, value_of, written, list_after}
use Rattle.formats.specs.Printout.{refusal_text}
use Rattle.stream_laws.specs.Sizes.{most_bytes}
use Rattle.stream_laws.proofs.Long.{refusal-long}
use Rattle.bytes_out.specs.declared.writer.Writer.{Writer}
use Rattle.bytes_out.specs.Writing.{Takes, Appends}
use Rattle.refusal.specs.declared.Refusal.{Refusal}
use Rattle.refusal.specs.declared.Refusal.TheVariants.{WrongDimension, ZeroLeafThreshold, SmallFactor, ZeroThreshold, ManyNeighbours, NoPoints, MissingCoordinate, ManyPoints, WrongReductions, NotFinite, ShortList, StretchPastList, WrongChoice, NotAboveThreshold, NoRoot, BrokenRecord, LargeJob, OtherSettings, OtherPoints, NoSoundTree, FullTable, NoLiveSlot, UnsoundTable}
use Rattle.refusal.specs.Refusals.{refusal_number, as_refusal}
use Rattle.job_room.specs.Printing.{print_call, print_answer_lem, print_output, printed_answer}

-- ---- room for a text
pub text-room : (text : List ℕ) {w : Writer} → length text ≤ most_bytes → w.at + most_bytes ≤ length w.bytes.now → Takes w text
text-room text h g = record { fits = omega arith }

pub refusal-room : (r : Refusal) {w : Writer} → w.at + most_bytes ≤ length w.bytes.now → Takes w (refusal_text (as_refusal r))
refusal-room r h = record { fits = omega (arith, refusal-long (as_refusal r)) }

-- no refusal has the number 0
pub refusal-numbered : (r : Refusal) → 1 ≤ refusal_number r
refusal-numbered WrongDimension = omega arith
refusal-numbered ZeroLeafThreshold = omega arith
refusal-numbered SmallFactor = omega arith
refusal-numbered ZeroThreshold = omega arith
refusal-numbered ManyNeighbours = omega arith
refusal-numbered NoPoints = omega arith
refusal-numbered MissingCoordinate = omega arith
refusal-numbered ManyPoints = omega arith
refusal-numbered WrongReductions = omega arith
refusal-numbered (NotFinite x) = omega arith
refusal-numbered ShortList = omega arith
refusal-numbered StretchPastList = omega arith
refusal-numbered WrongChoice = omega arith
refusal-numbered NotAboveThreshold = omega arith
refusal-numbered NoRoot = omega arith
refusal-numbered (BrokenRecord x) = omega arith
refusal-numbered LargeJob = omega arith
refusal-numbered OtherSettings = omega arith
refusal-numbered OtherPoints = omega arith
refusal-numbered NoSoundTree = omega arith
refusal-numbered FullTable = omega arith
refusal-numbered NoLiveSlot = omega arith
refusal-numbered UnsoundTable = omega arith

-- ---- the outcome
module _ (text output : List ℕ) where
  call-short : length output < most_bytes → print_call output ≡ refused (as_refusal ShortList)
  unfolding print_call verdict
  call-short h = rw (lt-ltb (length output) most_bytes h)

  call_long : most_bytes ≤ length output → print_call output ≡ accepted
  unfolding print_call verdict
  call_long h = rw (le-ltb (length output) most_bytes h)

  -- of a list that is too short
  pub answer-short : length output < most_bytes → record { number = 11; place = 0; value = 0 } ≡ print_answer_lem text output
  unfolding print_answer_lem number_of place_of value_of
  answer-short h = rw (call-short h)

  pub output-short : length output < most_bytes → output ≡ print_output text output
  unfolding print_output list_after
  output-short h = rw (call-short h)

  -- of one that is long enough, to which the text was written
  module _ (h : most_bytes ≤ length output) {w v : Writer} (start : w.at ≡ 0) (lent : w.bytes.now ≡ output) (a : Appends w v text) where
    pub answer-long : record { number = 0; place = 0; value = v.at } ≡ print_answer_lem text output
    unfolding print_answer_lem number_of place_of value_of
    answer-long = rw (call_long h, a.place, start, zero-add (length text))

    pub output-long : v.bytes.now ≡ print_output text output
    unfolding print_output list_after written
    output-long = rw (a.same, start, lent, put-zero output text, call_long h)

  -- ---- what a caller finds
  module _ (r : Answer ℕ) (e : r ≡ print_answer_lem text output) where
    -- a count within the list
    pub count_fits : length text ≤ most_bytes → r.value ≤ length output
    unfolding print_answer_lem value_of
    count_fits short =
        ⊎_elim
        (λ (long : most_bytes ≤ length output).
        let v : r.value ≡ length text = ap (λ (a : Answer ℕ). a.value) e ∙ rw (call_long long) in
        omega arith)
        (λ (less : length output < most_bytes).
        let v : r.value ≡ 0 = ap (λ (a : Answer ℕ). a.value) e ∙ rw (call-short less) in
        omega arith)
        (le-or-lt most_bytes (length output))

    -- and the text at the front of a list that is long enough
    module _ (long : most_bytes ≤ length output) (after : List ℕ) (f : after ≡ print_output text output) where
      text-counted : r.value ≡ length text
      unfolding print_answer_lem value_of
      text-counted = ap (λ (a : Answer ℕ). a.value) e ∙ rw (call_long long)

      text-written : after ≡ text ++ drop (length text) output
      unfolding print_output list_after written
      text-written = f ∙ rw (call_long long)

      text-fits : r.value ≤ length after
      text-fits = omega (arith, text-counted, ap length text-written, length-append text (drop (length text) output))

      text-printed : take r.value after ≡ text
      text-printed = rw (text-counted, text-written) (take_at text (drop (length text) output) (length text) refl)

  -- ---- the same by the result: of a list that is long enough the call is not refused
  long-taken : (x : Refusal) → printed_answer (Err x) ≡ print_answer_lem text output → most_bytes ≤ length output → ⊥
  unfolding print_answer_lem number_of
  long-taken x e long =
      let n : refusal_number x ≡ 0 = ap (λ (a : Answer ℕ). a.number) e ∙ rw (call_long long) in
      omega (arith, refusal-numbered x)

  pub taken : (r : Result ℕ Refusal) → printed_answer r ≡ print_answer_lem text output → most_bytes ≤ length output → IsOk r
  taken (Ok n) e long = refl
  taken (Err x) e long = absurd (long-taken x e long)

  -- and its text is at the front
  pub found : (r : Result ℕ Refusal) (n : ℕ) → r ≡ Ok n → printed_answer r ≡ print_answer_lem text output → most_bytes ≤ length output
      → (after : List ℕ) → after ≡ print_output text output → (n ≤ length after) × (take n after ≡ text)
  found r n is e long after f =
      let q = rw is at e in
      (text-fits (printed_answer (Ok n)) q long after f, text-printed (printed_answer (Ok n)) q long after f)
