-- The complete outcome of keeping the tree of a job in a lent list. Definitions only.
use Rattle.std.specs.Prelude.{◌≡◌, ℕ, ◌≤◌, cond, List, [], length, take, ltb, Result, Ok, Err}
use Rattle.definition.specs.Refusals.{Verdict, accepted, refused}
use Rattle.definition.specs.Outcome.{Answer, answered, list_after}
use Rattle.stored.specs.Programs as programs
use Rattle.reload_laws.specs.Sizes.{most_file_bytes}
use Rattle.refusal.specs.declared.Refusal.{Refusal}
use Rattle.refusal.specs.Refusals.{as_refusal, answer_of}

-- the verdict on a stream, and the bytes of its file
unfoldable pub kept_verdict : programs.Kept → Verdict
kept_verdict (programs.file bytes) = accepted
kept_verdict (programs.nothing r) = refused r

unfoldable pub kept_bytes : programs.Kept → List ℕ
kept_bytes (programs.file bytes) = bytes
kept_bytes (programs.nothing r) = []

-- 11: the lent list is shorter than what suffices for every file; else the verdict on the stream
unfoldable pub keep_call : programs.Kept → List ℕ → Verdict
keep_call k file = cond (ltb (length file) most_file_bytes) (refused (record { number = 11; place = 0 })) (kept_verdict k)

-- the bytes written
unfoldable pub keep_answer : programs.Kept → List ℕ → Answer ℕ
keep_answer k file = answered (keep_call k file) (length (kept_bytes k)) 0

unfoldable pub keep_output : programs.Kept → List ℕ → List ℕ
keep_output k file = list_after (keep_call k file) (kept_bytes k) file

-- the answer that a result stands for: how many bytes the file has, or the refusal
abbrev pub keep_report : Result ℕ Refusal → Answer ℕ
keep_report = answer_of (λ n. n) 0

-- what a caller finds in a list that suffices for every file: the file at its front, or the refusal and no more
abbrev pub Found : programs.Kept → List ℕ → Result ℕ Refusal → Type 0
Found k after (Ok n) = (n ≤ length after) × (programs.file (take n after) ≡ k)
Found k after (Err r) = programs.nothing (as_refusal r) ≡ k
