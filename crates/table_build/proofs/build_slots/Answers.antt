-- `table_build::build_slots` meets its contract. Assumes nothing.
use mathlib.Core.Path.{◌≡◌, refl, sym, ap, ◌∙◌}
use native.Mathlib.Omega.{arith}
use borrow.Author.Rules.{rules}
use lib.ListN.{length}
use Rattle.lists.specs.Lists.{put, part}
use Rattle.lists.proofs.Put.{part-put-same, length-put}
use Rattle.std.proofs.lemmas.Result.{err_from_is_err_and}
use Rattle.definition.specs.Packed.{counts_of}
use Rattle.definition.specs.Outcome.{lent_sizes, zero_counts}
use Rattle.definition.specs.Slots.{rows_of, slots_call, slot_levels}
use Rattle.config.specs.Params.{settings_of_lem}
use Rattle.refusal.proofs.Answers.{answer-refused, answer-accepted}
use Rattle.tree_answer.specs.Answers.{counts_given}
use Rattle.grow_over.proofs.Over.{lent-space, lent-records, points-whole}
use Rattle.grow.proofs.Outcomes.{room-refused, room-accepted, lists-refused, lists-accepted, whole-lists, records-refused, records-accepted, whole-records}
use Rattle.tree_lists.specs.Lent.{lists_in, records_in}
use Rattle.table_checks.specs.Tables.{table_in}
use Rattle.table_laws.proofs.Slots.{slots-accepted}
use Rattle.table_build.proofs.Outcomes.{slots-given, slots-fit, slots-long, slots-listed, over-slots, built-slots}
use Rattle.table_build.proofs.build_slots.Goals as goal

pub list_live-requires : goal.list_live-requires
list_live-requires c = let P = c.args in
    let s = settings_of_lem P.table.points.dimensions P.params in
    let t = table_in P.table in
    let old = lists_in P.lists.now in
    let a = slots-accepted s t (lent_sizes old P.room.now.floats.now P.room.now.wholes.now (records_in P.records.now)) (sym (rw c.lent-lent.ensures at c.in_ok-check_slots.ensures)) in
    (slots-fit s t old P.room.now.floats.now P.room.now.wholes.now (records_in P.records.now) a, rw (slots-listed t) (slots-long s t old P.room.now.floats.now P.room.now.wholes.now (records_in P.records.now) a))

pub grow_over-requires : goal.grow_over-requires
grow_over-requires c = let P = c.args in
    let s = settings_of_lem P.table.points.dimensions P.params in
    let t = table_in P.table in
    let old = lists_in P.lists.now in
    let a = slots-accepted s t (lent_sizes old P.room.now.floats.now P.room.now.wholes.now (records_in P.records.now)) (sym (rw c.lent-lent.ensures at c.in_ok-check_slots.ensures)) in
    let rows = rows_of t in
    let first : _ ≡ put P.lists.now.level_points.now 0 rows = c.list_live.ensures ∙ ap (put P.lists.now.level_points.now 0) (slots-listed t) in
    let fits = slots-long s t old P.room.now.floats.now P.room.now.wholes.now (records_in P.records.now) a in
    let read : part (put P.lists.now.level_points.now 0 rows) 0 P.table.head.live ≡ rows = part-put-same P.lists.now.level_points.now 0 rows P.table.head.live (omega arith) a.many in
    let long = ap length first ∙ length-put P.lists.now.level_points.now 0 rows (omega (arith, fits)) in record {
      bound = (a.passes-all.coarse-some, a.passes-all.reaches, rw (first, read) (slots-given s t old P.room.now.floats.now P.room.now.wholes.now (records_in P.records.now) a));
      space = lent-space s.dimension s.neighbours P.table.head.live old P.room.now.floats.now P.room.now.wholes.now (records_in P.records.now) a.enough _ long;
      record_room = lent-records s.dimension s.neighbours P.table.head.live old P.room.now.floats.now P.room.now.wholes.now (records_in P.records.now) a.enough;
    }

pub returns-in_err-check_slots-clause-built : goal.returns-in_err-check_slots-clause-built
returns-in_err-check_slots-clause-built c = let P = c.args in
    let s = settings_of_lem P.table.points.dimensions P.params in
    let t = table_in P.table in
    let old = lists_in P.lists.now in
    let v = slots_call s t old P.room.now.floats.now P.room.now.wholes.now (records_in P.records.now) in
    let p = err_from_is_err_and c.from_residual.result c.from_residual.ensures.1 in
    let e = sym (rw c.lent-lent.ensures at c.in_err-check_slots.ensures) in
    rw (p.1, p.2)
    (built-slots s t old P.room.now.floats.now P.room.now.wholes.now (records_in P.records.now) (answer-refused counts_given (counts_of (slot_levels s t)) zero_counts v _ e) (lists-refused v (slot_levels s t) old _ e)
    (records-refused v s t.coordinates (slot_levels s t) (records_in P.records.now) _ e)
    (room-refused v _ P.room.now.floats.now e) (room-refused v _ P.room.now.wholes.now e))

pub returns-clause-built : goal.returns-clause-built
returns-clause-built c = let P = c.args in
    let s = settings_of_lem P.table.points.dimensions P.params in
    let t = table_in P.table in
    let old = lists_in P.lists.now in
    let v = slots_call s t old P.room.now.floats.now P.room.now.wholes.now (records_in P.records.now) in
    let e = sym (rw c.lent-lent.ensures at c.in_ok-check_slots.ensures) in
    let a = slots-accepted s t (lent_sizes old P.room.now.floats.now P.room.now.wholes.now (records_in P.records.now)) e in
    let rows = rows_of t in
    let first : _ ≡ put P.lists.now.level_points.now 0 rows = c.list_live.ensures ∙ ap (put P.lists.now.level_points.now 0) (slots-listed t) in
    let read : part (put P.lists.now.level_points.now 0 rows) 0 P.table.head.live ≡ rows = part-put-same P.lists.now.level_points.now 0 rows P.table.head.live (omega arith) a.many in
    let w = c.grow_over.ensures in
    let points = points-whole s t.coordinates rows P.lists.now.level_points.now _ _ (slots-long s t old P.room.now.floats.now P.room.now.wholes.now (records_in P.records.now) a) refl (rw (first, read) at w.level_points) in
    let lists = whole-lists points (rw (first, read) at w.internals) (rw (first, read) at w.domains) (rw (first, read) at w.boxes) (rw (first, read) at w.borrowed) in
    let taken = whole-records (rw (first, read) at w.cuts) (rw (first, read) at w.planes) in
    let counts = rw (← over-slots s t) at (rw (first, read) at w.counts) in
    built-slots s t old P.room.now.floats.now P.room.now.wholes.now (records_in P.records.now) (answer-accepted counts_given _ (counts_of (slot_levels s t)) zero_counts v e counts) (rw (← over-slots s t) at lists ∙ lists-accepted v (slot_levels s t) old e)
    (rw (← over-slots s t) at taken ∙ records-accepted v s t.coordinates (slot_levels s t) (records_in P.records.now) e)
    (room-accepted v _ _ e (search rules)) (room-accepted v _ _ e (search rules))
