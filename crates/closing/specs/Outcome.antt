-- The complete outcome of closing a table's gaps. Definitions only.
use Rattle.std.specs.Prelude.{ℕ, ◌≡◌, List, Result}
use Rattle.definition.specs.Outcome.{Answer}
use Rattle.definition.specs.Table.{Table}
use Rattle.definition.specs.Closing.{close_answer, close_table, close_rename}
use Rattle.refusal.specs.declared.Refusal.{Refusal}
use Rattle.refusal.specs.Refusals.{answer_of}
use Rattle.table_checks.specs.declared.Head.{Head}

-- number and place of a refusal, and the slot count of the head after a closing
abbrev pub count_answer : Result Head Refusal → Answer ℕ
count_answer = answer_of (λ h. h.slots) 0

-- the answer; the table after the call, head, flags and coordinates; and the rename list after it
pub record Closed (d : ℕ) (t t' : Table) (rename rename' : List ℕ) (answer : Answer ℕ) : Type 0 where
  pub answers : answer ≡ close_answer d t rename
  pub table : t' ≡ close_table d t rename
  pub renamed : rename' ≡ close_rename d t rename
