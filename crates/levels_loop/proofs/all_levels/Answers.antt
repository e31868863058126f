-- `levels_loop::all_levels` meets its contract. The loop's invariant: what is written, with what the levels that are left will write, is what
-- is due. The measure: how many more fine levels may be built. Assumes nothing.
use mathlib.Core.Path.{◌≡◌, sym, ap, ◌∙◌}
use mathlib.Core.List.{List, ◌++◌}
use Prim.Native.Nat.{ℕ}
use native.Mathlib.Omega.{arith}
use borrow.Author.Rules.{rules}
use lib.ListN.{take, drop}
use Rattle.std.proofs.Common.{take-append-drop}
use Rattle.lists.proofs.Put.{part-lent, length_part}
use Rattle.levels_loop.proofs.Spaces.{coarse-fits}
use Rattle.levels_loop.proofs.Loop.{levels-first, levels-next, rows_few, built-below, level-above, level_points_fit, level-fits, level-room, size_few, first_fits, bat-fits, end-points, end-internals, end-domains, end-boxes, end-borrowed, end-rows, end-counts, end-number, end_rest, levels-left, next-rest, next-fewer}
use Rattle.levels_loop.proofs.Noted.{noted-first, noted-fits, noted-next, noted-end}
use Rattle.levels_loop.proofs.all_levels.Goals as goal

pub loop-size-init : goal.loop-size-init
loop-size-init c = (levels-first c.args.c c.args.k c.requires.le_c.2 c.requires.space, noted-first c.requires.record_room, search rules, search rules, search rules)

pub next_size-size-requires : goal.next_size-size-requires
next_size-size-requires c = let v = c.loop-size.invariant.0 in
    let yes = sym c.is_fine.ensures ∙ c.loop-size-test.true in
    (rows_few _ _ v, c.requires.le_c.0, level-above _ _ v yes c.requires.le_c.0, c.requires.le_c.1)

pub fine_level-level-requires : goal.fine_level-level-requires
fine_level-level-requires c = let v = c.loop-size.invariant.0 in
    let yes = sym c.is_fine.ensures ∙ c.loop-size-test.true in
    let some = c.requires.le_c.0 in
    record {
      a_in_bounds = (level_points_fit _ _ v yes some, size_few _ _ v yes some c.next_size-size.ensures, v.given);
      fits_at = level-fits _ _ v yes some;
      room = level-room _ _ v yes some;
      record_fits = noted-fits c.loop-size.invariant.1 (levels-left _ _ v yes some);
    }

pub place_after-place-requires : goal.place_after-place-requires
place_after-place-requires c = let v = c.loop-size.invariant.0 in
    let o = c.loop-size.invariant.1 in
    let yes = sym c.is_fine.ensures ∙ c.loop-size-test.true in
    let some = c.requires.le_c.0 in
    let counts = c.fine_level-level.ensures.counts in
    let good = c.well_formed in (
      omega (arith, (coarse-fits v.space).0, v.long.level_points),
      omega (arith, v.long.domains, first_fits _ _ v yes some _ counts.0),
      omega (arith, v.long.borrowed, bat-fits _ _ v yes some _ counts.1),
      omega (arith, o.cuts.long, (noted-fits o (levels-left _ _ v yes some)).0, counts.3),
    )

pub loop-size-smaller : goal.loop-size-smaller
loop-size-smaller c = let yes = sym c.is_fine.ensures ∙ c.loop-size-test.true in
    omega (arith, built-below _ _ c.loop-size.invariant.0 yes c.requires.le_c.0)

pub loop-size-preserved : goal.loop-size-preserved
loop-size-preserved c = let v = c.loop-size.invariant.0 in
    let yes = sym c.is_fine.ensures ∙ c.loop-size-test.true in
    let some = c.requires.le_c.0 in
    let w = c.fine_level-level.ensures in
    let p = c.place_after-place.ensures in
    let size = c.next_size-size.ensures in
    let rest = next-rest _ _ v yes some size w.counts.0 w.counts.1 w.next w.level_points w.internals w.domains w.boxes w.borrowed in
    let fewer = next-fewer _ _ v yes some size w.counts.0 w.counts.1 w.next w.level_points w.internals w.domains w.boxes w.borrowed in
    rw (p.rows.0, p.rows.1, p.parts.0, p.parts.1, p.parts.2) (
      levels-next _ _ v yes some size w.counts.0 w.counts.1 w.next w.level_points w.internals w.domains w.boxes w.borrowed _ _ w.same.1.floats_len w.same.1.wholes_len,
      noted-next c.loop-size.invariant.1 (levels-left _ _ v yes some) _ rest fewer w.counts.2 w.counts.3 w.cuts w.planes,
      search rules,
      search rules,
      search rules,
    )

pub coarse_level-requires : goal.coarse_level-requires
coarse_level-requires c = let v = c.loop-size.invariant.0 in
    let f = coarse-fits v.space in
    let P = c.loop-size.lists.level_points.now in
    let p = c.loop-size.place in
    rw (part-lent P p.from p.a, length_part P p.from p.a f.0) (f.1, f.2, f.3, v.given.axes_few)

pub offset_bounds-rows-built-2 : goal.offset_bounds-rows-built-2
offset_bounds-rows-built-2 c = omega (arith, c.loop-size.invariant.0.few)

pub bounds-rows-built-2 : goal.bounds-rows-built-2
bounds-rows-built-2 c = omega (arith, c.loop-size.invariant.0.few, c.loop-size.invariant.0.slots)

pub offset_bounds-domains-built-2 : goal.offset_bounds-domains-built-2
offset_bounds-domains-built-2 c = omega (arith, c.loop-size.invariant.0.few)

pub bounds-domains-built-2 : goal.bounds-domains-built-2
bounds-domains-built-2 c = omega (arith, c.loop-size.invariant.0.few, c.loop-size.invariant.0.slots-too)

pub overflow_add-result : goal.overflow_add-result
overflow_add-result c = omega (arith, c.loop-size.invariant.0.few)

pub returns : goal.returns
returns c = let v = c.loop-size.invariant.0 in
    let no = sym c.is_fine.ensures ∙ c.loop-size-test.false in
    let P = c.loop-size.lists.level_points.now in
    let p = c.loop-size.place in
    let w = rw (part-lent P p.from p.a) at c.coarse_level.ensures in
    let rows = rw (length_part P p.from p.a (coarse-fits v.space).0) at w.domains in
    let n = noted-end c.loop-size.invariant.1 (end_rest _ _ v no w.internals rows w.boxes) in
    record {
      same = search rules;
      counts = (end-number _ _ v no w.internals rows w.boxes, end-rows _ _ v no w.internals rows w.boxes, end-counts _ _ v no w.internals rows w.boxes);
      level_points =
          ap (λ (z : List ℕ). take p.from P ++ z) (take-append-drop _ (drop p.from P)) ∙ take-append-drop p.from P ∙ end-points _ _ v no w.internals rows w.boxes;
      internals =
          let back : _ ≡ c.coarse_level.new.lists.internals.now = search rules in
          back ∙ end-internals _ _ v no w.internals rows w.boxes;
      domains =
          let back : _ ≡ c.coarse_level.new.lists.domains.now = search rules in
          back ∙ end-domains _ _ v no w.internals rows w.boxes;
      boxes =
          let back : _ ≡ c.coarse_level.new.lists.boxes.now = search rules in
          back ∙ end-boxes _ _ v no w.internals rows w.boxes;
      borrowed = end-borrowed _ _ v no w.internals rows w.boxes;
      cuts = n.0;
      planes = n.1;
    }
