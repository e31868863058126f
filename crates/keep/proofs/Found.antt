-- What a caller finds that lends a list of the length that suffices: the refusal by its number, or the file at the front. Assumes nothing.
use mathlib.Core.Path.{◌≡◌, refl, ap, ◌∙◌}
use Prim.Native.Nat.{ℕ, ◌≤◌}
use native.Mathlib.Omega.{arith}
use mathlib.Core.List.{List, ◌++◌}
use lib.ListN.{length, drop, length-append}
use lib.Seq.{take_at}
use Rattle.definition.specs.Outcome.{Answer, written}
use Rattle.stored.specs.Programs.{Kept, file, nothing}
use Rattle.reload_laws.specs.Sizes.{most_file_bytes}
use Rattle.std.specs.Prelude.{Result, Ok, Err}
use Rattle.refusal.specs.declared.Refusal.{Refusal}
use Rattle.refusal.specs.Refusals.{refusal_number, refusal_place}
use Rattle.job_room.proofs.Printing.{refusal-numbered}
use Rattle.keep.specs.Keeping.{keep_answer, keep_output, keep_report, Found}
use Rattle.keep.proofs.Outcomes.{answer-refused, answer-file, output-file}
use Rattle.keep.proofs.Numbered.{Numbered}

module _ (lent : List ℕ) (long : most_file_bytes ≤ length lent) (after : List ℕ) where
  pub found : (r : Result ℕ Refusal) (k : Kept) → Numbered k → keep_report r ≡ keep_answer k lent → after ≡ keep_output k lent → Found k after r
  unfolding written
  found (Ok m) (file bytes) some e f =
      let v : m ≡ length bytes = ap (λ (x : Answer ℕ). x.value) (e ∙ answer-file lent long bytes) in
      let w : after ≡ bytes ++ drop (length bytes) lent = f ∙ output-file lent long bytes in
      (omega (arith, v, ap length w, length-append bytes (drop (length bytes) lent)), ap file (rw (v, w) (take_at bytes (drop (length bytes) lent) (length bytes) refl)))
  found (Ok m) (nothing r) some e f =
      let n : 0 ≡ r.number = ap (λ (x : Answer ℕ). x.number) (e ∙ answer-refused lent long r) in
      absurd (omega (arith, some))
  found (Err x) (file bytes) some e f =
      let n : refusal_number x ≡ 0 = ap (λ (a : Answer ℕ). a.number) (e ∙ answer-file lent long bytes) in
      absurd (omega (arith, refusal-numbered x))
  found (Err x) (nothing r) some e f =
      let all = e ∙ answer-refused lent long r in
      let n : refusal_number x ≡ r.number = ap (λ (a : Answer ℕ). a.number) all in
      let p : refusal_place x ≡ r.place = ap (λ (a : Answer ℕ). a.place) all in
      rw (n, p)
