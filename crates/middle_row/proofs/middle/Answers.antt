-- `middle_row::middle` meets its contract. Assumes nothing.
use borrow.Author.Rules.{rules}
use mathlib.Core.Path.{refl, sym}
use native.Mathlib.Nat.{mod-lt}
use native.Mathlib.Omega.{arith}
use Rattle.middle_row.proofs.Rounds.{search-first, search-more, end-asks, end-front, end-inside, end-middle}
use Rattle.middle_row.proofs.middle.Goals as goal

pub overflow_mul-left : goal.overflow_mul-left
overflow_mul-left c = let p = c.requires in let s = p.2.few in search rules

pub loop-s-init : goal.loop-s-init
loop-s-init c = let p = c.requires in (search-first _ p.1 p.2, refl, omega arith, p.2.few)

pub narrow-s-requires : goal.narrow-s-requires
narrow-s-requires c = let v = c.loop-s.invariant.0 in
    let n = end-front c.requires.0 c.requires.1 c.requires.2 v in
    record {
      axis_in = c.requires.0;
      below = omega (arith, n, v.below);
      there = rw n (mod-lt _ (omega arith));
      good = v.good;
    }

pub overflow_sub-left : goal.overflow_sub-left
overflow_sub-left c = let h = c.if-s-left.true in omega arith

pub loop-s-smaller : goal.loop-s-smaller
loop-s-smaller c = let h = c.if-s-left.true in omega arith

pub loop-s-preserved : goal.loop-s-preserved
loop-s-preserved c = let h = c.if-s-left.true in
    (search-more c.loop-s.invariant.0 c.narrow-s.ensures, search rules, omega arith, search rules)

pub slice_bounds-argsort-end : goal.slice_bounds-argsort-end
slice_bounds-argsort-end c = c.loop-s.invariant.0.fits

pub slice_bounds-argsort-end-2 : goal.slice_bounds-argsort-end-2
slice_bounds-argsort-end-2 c = let p = c.requires in sym (end-front p.0 p.1 p.2 c.loop-s.invariant.0)

pub argsort-requires : goal.argsort-requires
argsort-requires c = let p = c.requires in end-asks p.0 p.1 p.2 c.loop-s.invariant.0

pub bounds-rows-s : goal.bounds-rows-s
bounds-rows-s c = let p = c.requires in
    let f = c.argsort.ensures in
    omega (arith, end-inside p.0 p.1 p.2 c.loop-s.invariant.0 _ f.rows.0 f.rows.1)

pub returns : goal.returns
returns c = let p = c.requires in
    let f = c.argsort.ensures in
    end-middle p.0 p.1 p.2 c.loop-s.invariant.0 _ f.rows.0 f.rows.1
