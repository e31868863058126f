-- Sequences of edits of a table of wells: adding, retiring (document 02, request 7) and closing (request 8). Definitions only.
use Rattle.std.specs.Prelude.{ℕ, List, [], ◌∷◌, length, Float}
use Rattle.definition.specs.Refusals.{Verdict}
use Rattle.definition.specs.Table.{Table, add_verdict, add_table, retire_verdict, retire_table}
use Rattle.definition.specs.Closing.{close_verdict, close_table}

-- A call, with the dimension and the coordinates that the caller lends to it, and closing's rename list: between calls these are the caller's,
-- and head and flags are changed by nothing else.
pub data Edit : Type 0 where
  adding : ℕ → List Float → List Float → Edit
  retiring : ℕ → List Float → ℕ → Edit
  closing : ℕ → List Float → List ℕ → Edit

-- the table with these coordinates lent
abbrev pub lending : Table → List Float → Table
lending t cs = record { head = t.head; flags = t.flags; coordinates = cs }

-- the coordinates that a call is lent, and what its tests come to
abbrev pub lent_by : Edit → List Float
lent_by (adding d cs point) = cs
lent_by (retiring d cs slot) = cs
lent_by (closing d cs rename) = cs

unfoldable pub edit_verdict : Table → Edit → Verdict
edit_verdict t (adding d cs point) = add_verdict d (lending t cs) point
edit_verdict t (retiring d cs slot) = retire_verdict d (lending t cs) slot
edit_verdict t (closing d cs rename) = close_verdict d (lending t cs) (length rename)

-- the table after a call, and after a list of calls
unfoldable pub edited : Table → Edit → Table
edited t (adding d cs point) = add_table d (lending t cs) point
edited t (retiring d cs slot) = retire_table d (lending t cs) slot
edited t (closing d cs rename) = close_table d (lending t cs) rename

unfoldable pub after_all : Table → List Edit → Table
after_all t [] = t
after_all t (e ∷ es) = after_all (edited t e) es
