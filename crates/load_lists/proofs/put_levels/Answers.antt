-- `load_lists::put_levels` meets its contract. The loop's invariant: the levels before the cursor are written and counted. Assumes nothing.
use mathlib.Core.Path.{◌≡◌, refl}
use Prim.Native.Nat.{◌+◌, ◌-◌, ◌<◌}
use native.Mathlib.Omega.{arith}
use borrow.Author.Rules.{rules}
use borrow.Author.Tests.{eq-eqb, ne_eqb}
use Rattle.definition.specs.Packed.{most_levels}
use Rattle.load_lists.specs.Places.{packed_in}
use Rattle.load_lists.proofs.LevelsLoop.{levels-start, level-stands, points-room, level-room, levels-next, end-points, end-internals, end-domains, end-boxes, end-borrowed, end-counts}
use Rattle.load_lists.proofs.put_levels.Goals as goal

pub loop-level-init : goal.loop-level-init
loop-level-init c = let a = c.args in
    (refl, levels-start a.dimensions a.bytes.now a.at a.lists.now.level_points.now (packed_in a.lists.now a.dimensions) c.requires.dimensions_bound.1, search rules)

pub put_level-next-requires : goal.put_level-next-requires
put_level-next-requires c = let v = c.loop-level.invariant.1 in
    let some : 0 < most_levels - c.loop-level.level = omega (arith, c.loop-level-test.true) in
    record {
      dimensions_bound = (c.requires.dimensions_bound.0, level-stands v refl refl c.requires.can_hold some);
      bytes_in_bounds = (points-room v refl refl c.requires.can_hold some, level-room v refl refl c.requires.can_hold some);
    }

pub loop-level-preserved : goal.loop-level-preserved
loop-level-preserved c = let w = c.put_level-next.ensures in
    let some : 0 < most_levels - c.loop-level.level = omega (arith, c.loop-level-test.true) in
    let one_less : most_levels - (c.loop-level.level + 1) ≡ most_levels - c.loop-level.level - 1 = omega arith in
    (refl, rw one_less (levels-next c.loop-level.invariant.1 refl refl c.requires.can_hold some w.next.0 w.next.1 w.level_points w.written (rw (ne_eqb _ 1 c.if-count-eq1.false) refl)), search rules)

pub returns-then-count-eq1 : goal.returns-then-count-eq1
returns-then-count-eq1 c = let w = c.put_level-next.ensures in
    let h = c.requires.can_hold in
    let some : 0 < most_levels - c.loop-level.level = omega (arith, c.loop-level-test.true) in
    let v = levels-next c.loop-level.invariant.1 refl refl h some w.next.0 w.next.1 w.level_points w.written (rw (eq-eqb _ 1 c.if-count-eq1.true) refl) in record {
      same = search rules;
      counts = end-counts v refl refl h refl;
      level_points = end-points v refl refl h refl;
      internals = end-internals v refl refl h refl;
      domains = end-domains v refl refl h refl;
      boxes = end-boxes v refl refl h refl;
      borrowed = end-borrowed v refl refl h refl;
    }

pub returns-after-loop-level : goal.returns-after-loop-level
returns-after-loop-level c = let v = c.loop-level.invariant.1 in
    let h = c.requires.can_hold in
    let none : most_levels - c.loop-level.level ≡ 0 = omega (arith, c.loop-level-test.false) in record {
      same = c.loop-level.invariant.2;
      counts = rw c.loop-level.invariant.0 (end-counts v refl refl h none);
      level_points = end-points v refl refl h none;
      internals = end-internals v refl refl h none;
      domains = end-domains v refl refl h none;
      boxes = end-boxes v refl refl h none;
      borrowed = end-borrowed v refl refl h none;
    }
