-- `sampling_rounds::look_back` meets its contract. The loop's invariant: `Looked`. Assumes nothing.
use mathlib.Core.Path.{◌≡◌}
use mathlib.Core.List.{List}
use Prim.Native.Nat.{ℕ, ◌<◌}
use native.Mathlib.Omega.{arith}
use lib.ListN.{length, get_or, take}
use lib.Seq.{get_or-take, length-take-le}
use lib.Ieee.{Float, nan}
use Rattle.definition.specs.Number.{square_root_lem}
use Rattle.root_laws.proofs.Values.{root-good}
use Rattle.sampling_rounds.proofs.Orders.{near-good, kept-good}
use Rattle.sampling_rounds.proofs.Roots.{looked-none, looked-near, looked-low, looked-less, looked-here}
use Rattle.sampling_rounds.proofs.look_back.Goals.{then-root-top, else-root-top, then-low-value+then-root-top-2, else-low-value}
use Rattle.sampling_rounds.proofs.look_back.Goals as goal

abbrev value : List Float → ℕ → Float
value floats i = get_or floats i nan

pub loop-i-init : goal.loop-i-init
loop-i-init c = let g = c.requires.nan_value in
    let t = c.root-top.ensures in
    elim c.if-root-top.branch [
      | then-root-top w ↦ rw w.low-is (looked-near _ _ _ (root-good _ g) (near-good _ g) (rw (← c.root.ensures, ← t) w.if-root-top.true))
      | else-root-top w ↦ rw w.low-is (looked-none _ _)
    ]

-- a place before the best stands in the part that is looked through, with the same square
place-in : (floats : List Float) (best i : ℕ) → best < length floats → i < length (take best floats) → i < best
place-in floats best i b h = omega (arith, h, length-take-le best floats (omega (arith, b)))

pub returns-else-root-top-2 : goal.returns-else-root-top-2
returns-else-root-top-2 c = let l = c.loop-i in
    let floats = c.args.floats.now in
    let v = value floats in
    let h = place-in floats c.args.best l.i c.requires.best_in_bounds c.loop-i-test.true in
    let same : get_or (take c.args.best floats) l.i nan ≡ v l.i = get_or-take c.args.best floats l.i nan h in
    looked-here v c.args.best l.i l.low l.invariant (omega (arith, h))
    (kept-good l.low (v l.i) l.invariant.kept (c.requires.by_index l.i h) (rw same at c.if-low-value.true))
    (rw (← same, ← c.root-then-low-value.ensures, ← c.root-top.ensures) c.if-root-top-2.false)

pub loop-i-preserved : goal.loop-i-preserved
loop-i-preserved c = let l = c.loop-i in
    let floats = c.args.floats.now in
    let v = value floats in
    let h = place-in floats c.args.best l.i c.requires.best_in_bounds c.loop-i-test.true in
    let same : get_or (take c.args.best floats) l.i nan ≡ v l.i = get_or-take c.args.best floats l.i nan h in
    let r = square_root_lem (v c.args.best) in
    let q = l.invariant in
    elim c.if-low-value.branch [
      | then-low-value+then-root-top-2 w ↦ rw (w.low-is, same) (looked-less v r l.low l.i q (root-good _ c.requires.nan_value)
          (kept-good l.low (v l.i) q.kept (c.requires.by_index l.i h) (rw same at w.if-low-value.true)) (rw (← same, ← w.root-then-low-value.ensures, ← c.root-top.ensures) w.if-root-top-2.true))
      | else-low-value w ↦ rw w.low-is (looked-low v r l.low l.i q (rw same at w.if-low-value.false))
    ]
