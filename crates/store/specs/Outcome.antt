-- The outcome of a call of the writer. Definitions only.
use Rattle.std.specs.Prelude.{ℕ, ◌≡◌, List, Float, Result}
use Rattle.definition.specs.Tree.{Settings}
use Rattle.definition.specs.Packed.{Counts}
use Rattle.definition.specs.Outcome.{Answer, TreeLists}
use Rattle.refusal.specs.declared.Refusal.{Refusal}
use Rattle.refusal.specs.Refusals.{answer_of}
use Rattle.stored.specs.Outcome.{write_answer, write_output}

-- the answer: number and place of a refusal, and the number of bytes written
abbrev pub store_report : Result ℕ Refusal → Answer ℕ
store_report = answer_of (λ bytes. bytes) 0

-- The complete outcome of a call of the writer: its answer, and the file list. What is named with a prime is as the call leaves it.
pub record Stored (s : Settings) (cs : List Float) (c : Counts) (l : TreeLists) (file file' : List ℕ) (answer : Answer ℕ) : Type 0 where
  pub answers : answer ≡ write_answer s cs c l file
  pub output : file' ≡ write_output s cs c l file
