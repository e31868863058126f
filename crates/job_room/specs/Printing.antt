-- The complete outcome of printing a text into a lent list. Definitions only.
use Rattle.std.specs.Prelude.{ℕ, List, [], ◌∷◌, length, ltb, Result}
use Rattle.definition.specs.Refusals.{Verdict, on, verdict}
use Rattle.definition.specs.Outcome.{Answer, answered, list_after}
use Rattle.stream_laws.specs.Sizes.{most_bytes}
use Rattle.refusal.specs.declared.Refusal.{Refusal}
use Rattle.refusal.specs.Refusals.{answer_of}

-- 11: the lent list is shorter than what suffices for every job
unfoldable pub print_call : List ℕ → Verdict
print_call output = verdict (on (ltb (length output) most_bytes) 11 ∷ [])

-- the bytes written
unfoldable pub print_answer_lem : List ℕ → List ℕ → Answer ℕ
print_answer_lem text output = answered (print_call output) (length text) 0

unfoldable pub print_output : List ℕ → List ℕ → List ℕ
print_output text output = list_after (print_call output) text output

-- the answer that a result stands for: how many bytes were written, or the refusal
abbrev pub printed_answer : Result ℕ Refusal → Answer ℕ
printed_answer = answer_of (λ n. n) 0
