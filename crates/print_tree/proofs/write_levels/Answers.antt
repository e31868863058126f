-- `print_tree::write_levels` meets its contract. Assumes nothing.
use Rattle.print_tree.proofs.Levels.{front_text, fine_at, front-none, front-grows, total-none, fine-here, coarse-here, levels-whole}
use Rattle.lists.proofs.Sums.{total-step}
use Rattle.print_tree.proofs.Grow.{grown_room, grown}
use Rattle.packed.specs.View.{packed_of}
use Rattle.packed.proofs.Standing.{rows_inside, row_fits, domains-inside}
use Rattle.bytes_out.proofs.Writing.{spelt_as, takes_as, takes_first, takes_next, nothing_yet, ◌▸◌}
use Rattle.lists.specs.Lists.{total}
use lib.ListN.{take, get_or}
use native.Mathlib.Nat.{add-zero}
use Prim.Native.Nat.{ℕ, ◌+◌, ◌-◌}
use mathlib.Core.Path.{◌≡◌, refl, sym, ap, ◌∙◌}
use native.Mathlib.Omega.{arith}
use Rattle.print_tree.proofs.write_levels.Goals as goal

pub loop-t-init : goal.loop-t-init
loop-t-init c = let start = c in
    let a = start.args in
    let p = packed_of a.tree.leaves in
    let s = start.requires.stands in (
      total-none a.tree.rows.now,
      total-none a.tree.domains.now,
      spelt_as (sym (front-none p a.tree.level_points.now a.tree.rows.now a.tree.domains.now))
          (nothing_yet _ (omega (arith, c.requires.room_for.fits))),
    )

pub overflow_add-e : goal.overflow_add-e
overflow_add-e c = let start = c in
    let a = start.args in
    let p = packed_of a.tree.leaves in
    let s = start.requires.stands in
    let v = c.loop-t in
    omega (
      arith,
      rows_inside p a.tree.level_points.now a.tree.rows.now a.tree.domains.now v.t v.a v.j v.invariant.0 v.invariant.1 a.tree.levels s
          (omega (arith, s.some, c.loop-t-test.true)),
      start.well_formed,
    )

pub offset_bounds-tree-a : goal.offset_bounds-tree-a
offset_bounds-tree-a c = let start = c in
    let a = start.args in
    let p = packed_of a.tree.leaves in
    let s = start.requires.stands in
    let v = c.loop-t in
    omega (
      arith,
      rows_inside p a.tree.level_points.now a.tree.rows.now a.tree.domains.now v.t v.a v.j v.invariant.0 v.invariant.1 a.tree.levels s
          (omega (arith, s.some, c.loop-t-test.true)),
      start.well_formed,
    )

pub slice_bounds-write_fine-end : goal.slice_bounds-write_fine-end
slice_bounds-write_fine-end c = let start = c in
    let a = start.args in
    let p = packed_of a.tree.leaves in
    let s = start.requires.stands in
    let v = c.loop-t in
    rows_inside p a.tree.level_points.now a.tree.rows.now a.tree.domains.now v.t v.a v.j v.invariant.0 v.invariant.1 a.tree.levels s (omega (arith, s.some, c.loop-t-test.true))

pub write_fine-requires : goal.write_fine-requires
write_fine-requires c = let start = c in
    let a = start.args in
    let p = packed_of a.tree.leaves in
    let s = start.requires.stands in
    let v = c.loop-t in
    let r = takes_first _ _ (takes_as (levels-whole p a.tree.level_points.now a.tree.rows.now a.tree.domains.now a.tree.levels (a.tree.levels - 1) s refl) start.requires.room_for) in
    let g = grown_room (front_text p a.tree.level_points.now a.tree.rows.now a.tree.domains.now) (fine_at p a.tree.level_points.now a.tree.rows.now a.tree.domains.now)
    (front-grows p a.tree.level_points.now a.tree.rows.now a.tree.domains.now) (a.tree.levels - 1) v.t (omega arith) r v.invariant.2 in record {
      by_index = row_fits p a.tree.level_points.now a.tree.rows.now a.tree.domains.now v.t v.a v.j v.invariant.0 v.invariant.1 a.tree.levels s
          (omega (arith, s.some, c.loop-t-test.true));
      room_for = takes_as
          (fine-here p a.tree.level_points.now a.tree.rows.now a.tree.domains.now v.t v.a v.j v.invariant.0 v.invariant.1) g;
    }

pub overflow_add-j : goal.overflow_add-j
overflow_add-j c = let start = c in
    let a = start.args in
    let p = packed_of a.tree.leaves in
    let s = start.requires.stands in
    let v = c.loop-t in
    omega (
      arith,
      domains-inside p a.tree.level_points.now a.tree.rows.now a.tree.domains.now v.t v.a v.j v.invariant.0 v.invariant.1 a.tree.levels s
          (omega (arith, s.some, c.loop-t-test.true)),
      start.well_formed,
    )

pub loop-t-preserved : goal.loop-t-preserved
loop-t-preserved c = let start = c in
    let a = start.args in
    let p = packed_of a.tree.leaves in
    let v = c.loop-t in
    let g = grown (front_text p a.tree.level_points.now a.tree.rows.now a.tree.domains.now) (fine_at p a.tree.level_points.now a.tree.rows.now a.tree.domains.now)
    (front-grows p a.tree.level_points.now a.tree.rows.now a.tree.domains.now) v.t v.invariant.2 in (
      ap (λ (k : ℕ). k + get_or a.tree.rows.now v.t 0) v.invariant.0 ∙ sym (total-step a.tree.rows.now v.t),
      ap (λ (k : ℕ). k + get_or a.tree.domains.now
          v.t 0) v.invariant.1 ∙ sym (total-step a.tree.domains.now v.t),
      g (spelt_as
          (sym (fine-here p a.tree.level_points.now a.tree.rows.now a.tree.domains.now v.t v.a v.j v.invariant.0 v.invariant.1))
          c.write_fine.ensures),
    )

pub overflow_add-e-2 : goal.overflow_add-e-2
overflow_add-e-2 c = let start = c in
    let a = start.args in
    let p = packed_of a.tree.leaves in
    let s = start.requires.stands in
    let v = c.loop-t in
    let e : v.t ≡ a.tree.levels - 1 = omega (arith, v.auto.t-end, c.loop-t-test.false) in
    let ea : v.a ≡ total (take (a.tree.levels - 1) a.tree.rows.now) = v.invariant.0 ∙ ap (λ (k : ℕ). total (take k a.tree.rows.now)) e in
    let ej : v.j ≡ total (take (a.tree.levels - 1) a.tree.domains.now) = v.invariant.1 ∙ ap (λ (k : ℕ). total (take k a.tree.domains.now)) e in
    omega (arith, rows_inside p a.tree.level_points.now a.tree.rows.now a.tree.domains.now (a.tree.levels - 1) v.a v.j ea ej a.tree.levels s (omega (arith, s.some)), start.well_formed)

pub offset_bounds-tree-a-2 : goal.offset_bounds-tree-a-2
offset_bounds-tree-a-2 c = let start = c in
    let a = start.args in
    let p = packed_of a.tree.leaves in
    let s = start.requires.stands in
    let v = c.loop-t in
    let e : v.t ≡ a.tree.levels - 1 = omega (arith, v.auto.t-end, c.loop-t-test.false) in
    let ea : v.a ≡ total (take (a.tree.levels - 1) a.tree.rows.now) = v.invariant.0 ∙ ap (λ (k : ℕ). total (take k a.tree.rows.now)) e in
    let ej : v.j ≡ total (take (a.tree.levels - 1) a.tree.domains.now) = v.invariant.1 ∙ ap (λ (k : ℕ). total (take k a.tree.domains.now)) e in
    omega (arith, rows_inside p a.tree.level_points.now a.tree.rows.now a.tree.domains.now (a.tree.levels - 1) v.a v.j ea ej a.tree.levels s (omega (arith, s.some)), start.well_formed)

pub slice_bounds-write_coarse-end : goal.slice_bounds-write_coarse-end
slice_bounds-write_coarse-end c = let start = c in
    let a = start.args in
    let p = packed_of a.tree.leaves in
    let s = start.requires.stands in
    let v = c.loop-t in
    let e : v.t ≡ a.tree.levels - 1 = omega (arith, v.auto.t-end, c.loop-t-test.false) in
    let ea : v.a ≡ total (take (a.tree.levels - 1) a.tree.rows.now) = v.invariant.0 ∙ ap (λ (k : ℕ). total (take k a.tree.rows.now)) e in
    let ej : v.j ≡ total (take (a.tree.levels - 1) a.tree.domains.now) = v.invariant.1 ∙ ap (λ (k : ℕ). total (take k a.tree.domains.now)) e in
    rows_inside p a.tree.level_points.now a.tree.rows.now a.tree.domains.now (a.tree.levels - 1) v.a v.j ea ej a.tree.levels s (omega (arith, s.some))

pub write_coarse-requires : goal.write_coarse-requires
write_coarse-requires c = let start = c in
    let a = start.args in
    let p = packed_of a.tree.leaves in
    let s = start.requires.stands in
    let v = c.loop-t in
    let e : v.t ≡ a.tree.levels - 1 = omega (arith, v.auto.t-end, c.loop-t-test.false) in
    let ea : v.a ≡ total (take (a.tree.levels - 1) a.tree.rows.now) = v.invariant.0 ∙ ap (λ (k : ℕ). total (take k a.tree.rows.now)) e in
    let ej : v.j ≡ total (take (a.tree.levels - 1) a.tree.domains.now) = v.invariant.1 ∙ ap (λ (k : ℕ). total (take k a.tree.domains.now)) e in
    let w = spelt_as (ap (front_text p a.tree.level_points.now a.tree.rows.now a.tree.domains.now) e) v.invariant.2 in
    let r = takes_next w (takes_as (levels-whole p a.tree.level_points.now a.tree.rows.now a.tree.domains.now a.tree.levels (a.tree.levels - 1) s refl) start.requires.room_for) in record {
      row_fits = rw add-zero at (row_fits p a.tree.level_points.now a.tree.rows.now a.tree.domains.now (a.tree.levels - 1) v.a v.j ea ej a.tree.levels s
          (omega (arith, s.some)) 0 (omega (arith, s.coarse)));
      room_for = takes_as (coarse-here p a.tree.level_points.now a.tree.rows.now a.tree.domains.now (a.tree.levels - 1)
          v.a v.j ea ej) r;
    }

pub returns : goal.returns
returns c = let start = c in
    let a = start.args in
    let p = packed_of a.tree.leaves in
    let s = start.requires.stands in
    let v = c.loop-t in
    let e : v.t ≡ a.tree.levels - 1 = omega (arith, v.auto.t-end, c.loop-t-test.false) in
    let ea : v.a ≡ total (take (a.tree.levels - 1) a.tree.rows.now) = v.invariant.0 ∙ ap (λ (k : ℕ). total (take k a.tree.rows.now)) e in
    let ej : v.j ≡ total (take (a.tree.levels - 1) a.tree.domains.now) = v.invariant.1 ∙ ap (λ (k : ℕ). total (take k a.tree.domains.now)) e in
    let w = spelt_as (ap (front_text p a.tree.level_points.now a.tree.rows.now a.tree.domains.now) e) v.invariant.2 in
    spelt_as (sym (levels-whole p a.tree.level_points.now a.tree.rows.now a.tree.domains.now a.tree.levels (a.tree.levels - 1) s refl))
    (w ▸ spelt_as (sym (coarse-here p a.tree.level_points.now a.tree.rows.now a.tree.domains.now (a.tree.levels - 1) v.a v.j ea ej)) c.write_coarse.ensures)
