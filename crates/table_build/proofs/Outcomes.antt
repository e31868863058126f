-- What an accepted call over slots has for its levels, and its outcome: demand 3 and the depths follow from its answer and its lists.
-- Assumes nothing.
-- Holds: slots-given, slots-fit, slots-long, slots-listed, over-slots, built-slots
use mathlib.Core.Path.{◌≡◌, refl, sym, subst}
use mathlib.Core.List.{List}
use Prim.Native.Nat.{ℕ, ◌*◌, ◌^◌, ◌≤◌}
use native.Mathlib.Omega.{arith}
use lib.ListN.{length}
use lib.Ieee.{Float}
use Rattle.lists.specs.Lists.{keep, from}
use Rattle.definition.specs.Tree.{Settings, levels_over}
use Rattle.definition.specs.Packed.{Counts, counts_of, tree_stated, build_stated}
use Rattle.definition.specs.Refusals.{accepted}
use Rattle.definition.specs.Outcome.{RecordLists, Answer, TreeLists, lent_sizes, answered, tree_lists_after, record_lists_after, RoomAfter, zero_counts}
use Rattle.definition.specs.Table.{Table, flagged, live_slots_lem}
use Rattle.definition.specs.Slots.{rows_of, slots_call, slot_levels, slots_answer, slots_lists, slots_records}
use Rattle.rows.proofs.Good.{good-good}
use Rattle.demand3.specs.Handed.{handed}
use Rattle.demand3.specs.Demand3.{coarse_at, Demand3Over}
use Rattle.demand3.specs.Depths.{TreeDepths}
use Rattle.demand3.proofs.Demand.{demand-3-over, tree-depths-over}
use Rattle.fine_level.specs.Fine.{Given}
use Rattle.table_laws.proofs.Slots.{SlotsAccepted, slots-accepted}
use Rattle.table_build.specs.Outcome.{BuiltSlots}

module _ (s : Settings) (t : Table) (old : TreeLists) (floats : List Float) (wholes : List ℕ) (records : RecordLists) (a : SlotsAccepted s t (lent_sizes old floats wholes records)) where
  -- its live slots are rows to build a level over
  pub slots-given : Given s.dimension t.coordinates s.leaf s.neighbours (rows_of t)
  slots-given = record {
    axes = a.passes-all.axes;
    axes_few = a.passes-all.axes_few;
    leaf_some = a.passes-all.leaf_some;
    near = a.passes-all.neighbours_few;
    rows_some = omega (arith, a.many, a.passes-all.rows_some);
    good = a.good;
  }

  -- there is a flag for each slot, and room for the live ones in the level points
  pub slots-fit : t.head.slots ≤ length t.flags
  slots-fit = omega (arith, a.sound.within)

  pub slots-long : length (rows_of t) ≤ length old.level_points
  unfolding build_stated tree_stated
  slots-long = omega (arith, a.many, a.enough.tree.level_points)

  coarse-some : 1 ≤ coarse_at s (length (rows_of t))
  coarse-some = subst (λ (i : ℕ). 1 ≤ coarse_at s i) (sym a.many) a.passes-all.coarse-some

  reaches : length (rows_of t) ≤ coarse_at s (length (rows_of t)) * s.factor ^ 3
  reaches = subst (λ (i : ℕ). i ≤ coarse_at s i * s.factor ^ 3) (sym a.many) a.passes-all.reaches

-- the live slots as the listing writes them
pub slots-listed : (t : Table) → keep (flagged t.flags) (from 0 t.head.slots) ≡ rows_of t
unfolding live_slots_lem
slots-listed t = refl

-- the levels over them
pub over-slots : (s : Settings) (t : Table) → slot_levels s t ≡ levels_over s t.coordinates (rows_of t)
unfolding slot_levels
over-slots s t = refl

module _ (s : Settings) (t : Table) (old : TreeLists) (floats : List Float) (wholes : List ℕ) (records : RecordLists) {new : TreeLists} {answer : Answer Counts}
    (answers : answer ≡ answered (slots_call s t old floats wholes records) (counts_of (slot_levels s t)) zero_counts)
    (lists : new ≡ tree_lists_after (slots_call s t old floats wholes records) (slot_levels s t) old) where
  demand : slots_call s t old floats wholes records ≡ accepted → Demand3Over s t.coordinates (rows_of t) (handed answer new) × TreeDepths (handed answer new)
  unfolding slot_levels
  demand e =
      let a = slots-accepted s t (lent_sizes old floats wholes records) e in
      let p = a.passes-all in
      let good = good-good (rows_of t) a.good in
      let some = coarse-some s t old floats wholes records a in
      let reach = reaches s t old floats wholes records a in (
        rw (answers, lists) (demand-3-over s t.coordinates (rows_of t) p.axes p.leaf_some some reach good old (slots_call s t old floats wholes records) e),
        rw (answers, lists) (tree-depths-over s t.coordinates (rows_of t) p.axes p.leaf_some some reach good old (slots_call s t old floats wholes records) e (omega (arith, a.many, p.rows_few))),
      )

  pub built-slots : {floats' : List Float} {wholes' : List ℕ} {records' : RecordLists}
      → records' ≡ record_lists_after (slots_call s t old floats wholes records) s t.coordinates (slot_levels s t) records
      → RoomAfter (slots_call s t old floats wholes records) floats floats' → RoomAfter (slots_call s t old floats wholes records) wholes wholes'
      → BuiltSlots s t old new floats floats' wholes wholes' records records' answer
  unfolding slots_answer slots_lists slots_records
  built-slots r f w =
      record { answers = answers; lists = lists; records = r; floats_free = f; wholes_free = w; demand3 = λ e. (demand e).0; depths = λ e. (demand e).1 }
