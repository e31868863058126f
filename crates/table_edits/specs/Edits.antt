-- The code's answers to an edit as those of the definition, and the complete outcome of an edit. Definitions only.
use Rattle.std.specs.Prelude.{ℕ, ◌≡◌, List, Float, Result, Ok, Err}
use Rattle.definition.specs.Outcome.{Answer}
use Rattle.definition.specs.Table.{Head, Table, add_answer_lem, add_table, retire_answer_lem, retire_table}
use Rattle.refusal.specs.declared.Refusal.{Refusal}
use Rattle.refusal.specs.Refusals.{answer_of}
use Rattle.table_checks.specs.declared.Head.{Head as Counters}
use Rattle.table_checks.specs.Tables.{head_in}
use Rattle.table_edits.specs.declared.Edited.{Edited}

-- number and place of a refusal, and the slot that an add takes
abbrev pub edit_answer : Result Edited Refusal → Answer ℕ
edit_answer = answer_of (λ e. e.slot) 0

-- number and place of a refusal alone: a retirement reports nothing but the head
abbrev pub head_answer : Result Counters Refusal → Answer ℕ
head_answer = answer_of (λ h. 0) 0

-- the head after an edit: that of its answer, and after a refused one the given one
abbrev pub head_after : {A : Type 0} → (A → Counters) → Counters → Result A Refusal → Head
head_after next h (Ok e) = head_in (next e)
head_after next h (Err r) = head_in h

-- the table after it
abbrev pub table_after : {A : Type 0} → (A → Counters) → Counters → List ℕ → List Float → Result A Refusal → Table
table_after next h flags coordinates r = record { head = head_after next h r; flags = flags; coordinates = coordinates }

-- The complete outcome of a call: its answer, and the table after it, head, flags and coordinates.
pub record Added (d : ℕ) (t t' : Table) (point : List Float) (answer : Answer ℕ) : Type 0 where
  pub answers : answer ≡ add_answer_lem d t point
  pub table : t' ≡ add_table d t point

pub record Retired (d : ℕ) (t t' : Table) (slot : ℕ) (answer : Answer ℕ) : Type 0 where
  pub answers : answer ≡ retire_answer_lem d t slot
  pub table : t' ≡ retire_table d t slot
