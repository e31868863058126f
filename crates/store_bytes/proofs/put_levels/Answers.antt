-- `store_bytes::put_levels` meets its contract. Assumes nothing.
use Rattle.bytes_out.proofs.Writing.{all_left, left_as, takes_part, part_done, nothing_left}
use Rattle.store_bytes.proofs.Levels.{no-level, levels-all, turn-here}
use Rattle.lists.proofs.Sums.{total-nil, total-step}
use Rattle.packed.specs.Reading.{read_level}
use Rattle.packed.specs.View.{packed_of}
use Rattle.packed.proofs.Standing.{rows_inside, row_fits, domains-inside}
use lib.ListN.{get_or}
use Prim.Native.Nat.{ℕ, ◌+◌}
use mathlib.Core.Path.{sym, ap, ◌∙◌}
use mathlib.Core.List.{[]}
use native.Mathlib.Omega.{arith}
use borrow.Author.Rules.{rules}
use Rattle.store_bytes.proofs.put_levels.Goals as goal

pub loop-t-init : goal.loop-t-init
loop-t-init c = let start = c in
    let a = start.args in
    let p = packed_of a.tree.leaves in (
      sym total-nil,
      sym total-nil,
      all_left _ (levels-all p a.tree.level_points.now a.tree.rows.now a.tree.domains.now a.tree.levels) start.requires.room_for,
    )

pub offset_bounds-tree-a : goal.offset_bounds-tree-a
offset_bounds-tree-a c = let start = c in
    let a = start.args in
    let p = packed_of a.tree.leaves in
    let v = c.loop-t in
    omega (arith, rows_inside p a.tree.level_points.now a.tree.rows.now a.tree.domains.now v.t v.a v.j v.invariant.0 v.invariant.1 a.tree.levels start.requires.stands c.loop-t-test.true, start.well_formed)

pub slice_bounds-put_whole_level-end : goal.slice_bounds-put_whole_level-end
slice_bounds-put_whole_level-end c = let start = c in
    let a = start.args in
    let p = packed_of a.tree.leaves in
    let v = c.loop-t in
    rows_inside p a.tree.level_points.now a.tree.rows.now a.tree.domains.now v.t v.a v.j v.invariant.0 v.invariant.1 a.tree.levels start.requires.stands c.loop-t-test.true

pub put_whole_level-requires : goal.put_whole_level-requires
put_whole_level-requires c = let start = c in
    let a = start.args in
    let p = packed_of a.tree.leaves in
    let v = c.loop-t in
    let w = left_as _ (turn-here p a.tree.level_points.now a.tree.rows.now a.tree.domains.now v.t v.a v.j v.invariant.0 v.invariant.1 a.tree.levels start.requires.stands c.loop-t-test.true) v.invariant.2 in record {
      by_index = row_fits p a.tree.level_points.now a.tree.rows.now a.tree.domains.now v.t v.a v.j v.invariant.0 v.invariant.1 a.tree.levels start.requires.stands c.loop-t-test.true;
      room_for = takes_part w;
    }

pub overflow_add-e : goal.overflow_add-e
overflow_add-e c = let start = c in
    let a = start.args in
    let p = packed_of a.tree.leaves in
    let v = c.loop-t in
    omega (arith, rows_inside p a.tree.level_points.now a.tree.rows.now a.tree.domains.now v.t v.a v.j v.invariant.0 v.invariant.1 a.tree.levels start.requires.stands c.loop-t-test.true, start.well_formed)

pub overflow_add-j : goal.overflow_add-j
overflow_add-j c = let start = c in
    let a = start.args in
    let p = packed_of a.tree.leaves in
    let v = c.loop-t in
    omega (arith, domains-inside p a.tree.level_points.now a.tree.rows.now a.tree.domains.now v.t v.a v.j v.invariant.0 v.invariant.1 a.tree.levels start.requires.stands c.loop-t-test.true, start.well_formed)

pub loop-t-preserved : goal.loop-t-preserved
loop-t-preserved c = let start = c in
    let a = start.args in
    let p = packed_of a.tree.leaves in
    let v = c.loop-t in
    let w = left_as _ (turn-here p a.tree.level_points.now a.tree.rows.now a.tree.domains.now v.t v.a v.j v.invariant.0 v.invariant.1 a.tree.levels start.requires.stands c.loop-t-test.true) v.invariant.2 in (
      ap (λ (k : ℕ). k + get_or a.tree.rows.now v.t 0) v.invariant.0 ∙ sym (total-step a.tree.rows.now v.t),
      ap (λ (k : ℕ). k + get_or a.tree.domains.now v.t 0) v.invariant.1 ∙ sym (total-step a.tree.domains.now v.t),
      part_done w c.put_whole_level.ensures,
    )

pub returns : goal.returns
returns c = let start = c in
    let a = start.args in
    let p = packed_of a.tree.leaves in
    let v = c.loop-t in
    nothing_left (left_as [] (no-level (read_level p a.tree.level_points.now a.tree.rows.now a.tree.domains.now) v.t a.tree.levels (search rules)) v.invariant.2)
