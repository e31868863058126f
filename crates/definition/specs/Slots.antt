-- The build over the live slots of a table (document 02, request 7): its refusals, and the complete outcome of a call. Definitions only.
use Rattle.std.specs.Prelude.{ℕ, ◌*◌, Bool, false, not, ◌||◌, List, ◌∷◌, map, get_or, Float}
use Rattle.std.specs.Float.{nan}
use Rattle.std.specs.Float.Ieee.Scale.{finite}
use Rattle.lists.specs.Lists.{keep, any_of, from, joined}
use Rattle.definition.specs.Tree.{Settings, Level, levels_over}
use Rattle.definition.specs.Packed.{BuildSizes, build_stated, Counts, counts_of}
use Rattle.definition.specs.Refusals.{Test, on, Verdict, verdict, build_short, build_tests}
use Rattle.definition.specs.Outcome.{Answer, answered, TreeLists, RecordLists, lent_sizes, zero_counts, tree_lists_after, record_lists_after}
use Rattle.definition.specs.Table.{Table, live_slots_lem, unsound, coordinates_short}

-- the positions of these rows' coordinates in the lent list, in their order
unfoldable pub places_of_rows : ℕ → List ℕ → List ℕ
places_of_rows d rows = joined (map (λ i. from (i * d) d) rows)

-- the coordinate at this position is infinite or not a number
abbrev pub bad_at : List Float → ℕ → Bool
bad_at cs p = not (finite (get_or cs p nan))

-- 10: a coordinate of these rows that is infinite or not a number; place = the first such position in the lent list
abbrev pub rows_not_finite : ℕ → List Float → List ℕ → Test
rows_not_finite d cs rows =
    record {
      holds = any_of (bad_at cs) (places_of_rows d rows);
      refusal = record { number = 10; place = get_or (keep (bad_at cs) (places_of_rows d rows)) 0 0 };
    }

-- the rows of the build: the live slots
abbrev pub rows_of : Table → List ℕ
rows_of t = live_slots_lem t.head t.flags

-- 27, then the build's own with the live count as n: 7 cannot come, 11 counts short coordinates too, 10 judges live slots only
unfoldable pub slots_verdict : Settings → Table → BuildSizes → Verdict
slots_verdict s t lent =
    let d = s.dimension in
    let n = t.head.live in
    verdict
    (on (unsound t.head t.flags) 27
    ∷ build_tests s n false (build_short lent (build_stated d n s.neighbours) || coordinates_short d t) (rows_not_finite d t.coordinates (rows_of t)))

-- the levels: over the coordinates of the live slots in slot order, with slots named as rows
unfoldable pub slot_levels : Settings → Table → List Level
slot_levels s t = levels_over s t.coordinates (rows_of t)

abbrev pub slots_call : Settings → Table → TreeLists → List Float → List ℕ → RecordLists → Verdict
slots_call s t old floats wholes records-old = slots_verdict s t (lent_sizes old floats wholes records-old)

unfoldable pub slots_answer : Settings → Table → TreeLists → List Float → List ℕ → RecordLists → Answer Counts
slots_answer s t old floats wholes records-old =
    answered (slots_call s t old floats wholes records-old) (counts_of (slot_levels s t)) zero_counts

unfoldable pub slots_lists : Settings → Table → TreeLists → List Float → List ℕ → RecordLists → TreeLists
slots_lists s t old floats wholes records-old = tree_lists_after (slots_call s t old floats wholes records-old) (slot_levels s t) old

unfoldable pub slots_records : Settings → Table → TreeLists → List Float → List ℕ → RecordLists → RecordLists
slots_records s t old floats wholes records-old =
    record_lists_after (slots_call s t old floats wholes records-old) s t.coordinates (slot_levels s t) records-old
