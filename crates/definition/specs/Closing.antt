-- Closing the gaps of a table of wells (document 02, request 8): the list from old slot to new, the refusals, and what a call answers and
-- leaves. Definitions only.
use Rattle.std.specs.Prelude.{ℕ, ◌-◌, ◌*◌, cond, ◌||◌, List, [], ◌∷◌, ◌++◌, map, length, replicate, ltb, Float}
use Rattle.lists.specs.Lists.{count, from, joined, part}
use Rattle.definition.specs.Number.{plus_zero}
use Rattle.definition.specs.Refusals.{Verdict, verdict}
use Rattle.definition.specs.Outcome.{Answer, answered, value_of, written, list_after}
use Rattle.definition.specs.Table.{Head, Table, flagged, coordinates_short, edit_tests}
use Rattle.definition.specs.Slots.{rows_of}

-- from old slot to new: a live slot goes to the number of live slots below it; a retired one gives the slot count before the move
unfoldable pub rename_list : Head → List ℕ → List ℕ
rename_list h flags = map (λ i. cond (flagged flags i) (count (flagged flags) (from 0 i)) h.slots) (from 0 h.slots)

-- the coordinates of the live slots, in slot order
unfoldable pub live_coordinates : ℕ → Table → List Float
live_coordinates d t = joined (map (λ i. part t.coordinates (i * d) d) (rows_of t))

-- closing: 1, 11 (also for a rename list under the slot count), 27
unfoldable pub close_verdict : ℕ → Table → ℕ → Verdict
close_verdict d t lent = verdict (edit_tests d t (ltb lent t.head.slots || coordinates_short d t))

-- The live wells moved down, in order. From the live count to the old slot count coordinates become +0 and flags 0; below, flags become 1.
-- The slot count is then the live count.
unfoldable pub closed : ℕ → Table → Table
closed d t =
    let n = t.head.live in
    let gone = t.head.slots - n in
    record {
      head = record { slots = n; live = n };
      flags = written (replicate n 1 ++ replicate gone 0) t.flags;
      coordinates = written (live_coordinates d t ++ replicate (gone * d) plus_zero) t.coordinates;
    }

-- the new slot count is the answer
unfoldable pub close_answer : ℕ → Table → List ℕ → Answer ℕ
close_answer d t rename = answered (close_verdict d t (length rename)) t.head.live 0

-- a refused call alters neither head nor slots, nor the rename list
unfoldable pub close_table : ℕ → Table → List ℕ → Table
close_table d t rename = value_of (close_verdict d t (length rename)) (closed d t) t

unfoldable pub close_rename : ℕ → Table → List ℕ → List ℕ
close_rename d t rename = list_after (close_verdict d t (length rename)) (rename_list t.head t.flags) rename
