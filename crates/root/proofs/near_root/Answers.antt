-- `root::near_root` meets its contract. The invariant: the number looked for is from lo to hi. Nothing is said of
-- the guess. Assumes nothing.
use mathlib.Core.Path.{◌≡◌, sym, ◌∙◌, subst}
use Prim.Native.Nat.{ℕ, ◌+◌, ◌*◌, ◌^◌, ◌≤◌, ◌<◌}
use native.Mathlib.Nat.{le_antisymm}
use native.Mathlib.Omega.{arith}
use borrow.Author.Rules.{rules}
use borrow.Author.Tests.{leb-true, leb-false}
use Rattle.root_laws.proofs.Squares.{sq-one}
use Rattle.root.proofs.near_root.Goals as goal

pub loop-lo-preserved-then-enough : goal.loop-lo-preserved-then-enough
loop-lo-preserved-then-enough c = let n = c.args.n in
    let mid = c.pick-mid.result in
    let h = leb-true (n * 2 ^ 52) (mid * mid + mid) (sym c.enough.ensures ∙ c.if-enough.true) in
    search rules

pub loop-lo-preserved : goal.loop-lo-preserved
loop-lo-preserved c = let n = c.args.n in
    let mid = c.pick-mid.result in
    let h = leb-false (n * 2 ^ 52) (mid * mid + mid) (sym c.enough.ensures ∙ c.if-enough.false) in
    let s = sq-one mid in
    search rules

pub returns : goal.returns
returns c = let i = c.loop-lo.invariant in
    let n = c.args.n in
    let e : c.loop-lo.lo ≡ c.loop-lo.hi = le_antisymm i.1 c.loop-lo-test.false in
    record {
      low = i.3;
      high = subst (λ (z : ℕ). n * 2 ^ 52 ≤ z * z + z) (sym e) i.4;
      least = i.0;
      most = subst (λ (z : ℕ). z < 2 ^ 53) (sym e) i.2;
      large = large n c.requires.0;
      small = small n c.requires.1;
    }
  where
    large : (n : ℕ) → 2 ^ 52 ≤ n → 2 ^ 52 * 2 ^ 52 ≤ n * 2 ^ 52
    large n h = omega arith

    small : (n : ℕ) → n + 2 ≤ 2 ^ 54 → n * 2 ^ 52 < 2 ^ 53 * 2 ^ 53
    small n h = omega arith
