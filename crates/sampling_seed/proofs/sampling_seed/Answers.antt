-- `sampling_seed::sampling_seed` meets its contract. The loop's invariant: `Nearest`. Assumes nothing.
use mathlib.Core.Path.{◌≡◌, refl}
use mathlib.Core.Bool.{true}
use Prim.Native.Nat.{ℕ, ◌≤◌}
use native.Mathlib.Omega.{arith}
use borrow.Author.Rules.{rules}
use lib.ListN.{length, take}
use Rattle.root_laws.specs.Sorts.{good}
use Rattle.rows.proofs.Good.{good-at}
use Rattle.sampling_seed.proofs.Nearest.{from_center, center-square, center-good, nearest-start, nearest-far, nearest-tie, nearest-less, nearest-end}
use Rattle.sampling_seed.proofs.sampling_seed.Goals.{then-square-low+then-apart-near, then-square-low+else-apart-near, else-square-low}
use Rattle.sampling_seed.proofs.sampling_seed.Goals as goal

pub loop-i-init : goal.loop-i-init
loop-i-init c = nearest-start _

pub point-requires : goal.point-requires
point-requires c = (good-at c.args.rows.now c.requires.0 c.loop-i.i c.loop-i-test.true).inside

pub loop-i-preserved : goal.loop-i-preserved
loop-i-preserved c = let a = c.args in
    let d = a.points.dimensions in
    let m = c.get_centroid-center in
    let v = from_center d a.points.coordinates.now a.rows.now in
    let l = c.loop-i in
    let h = c.loop-i-test.true in
    let q = c.distance_sq_between-square in
    let long : length (take d m.result) ≡ d = search rules in
    let e : q.result ≡ v l.i = center-square d _ a.rows.now m.result (take d m.result) c.point.result.now l.i _ m.ensures refl long c.point.ensures.coordinates q.ensures in
    let good-to : (j : ℕ) → j ≤ l.i → good (v j) ≡ true = λ j b. center-good d a.points.coordinates.now a.rows.now c.requires.0 c.requires.2 j (omega (arith, h)) in
    elim c.if-square-low.branch [
      | then-square-low+then-apart-near w ↦ (rw (w.best-is, w.low-is, w.near-is) (nearest-less v l.best l.near l.low l.i q.result l.invariant e good-to w.root-apart.result w.root-apart.ensures w.if-apart-near.true))
      | then-square-low+else-apart-near w ↦ (rw (w.best-is, w.low-is, w.near-is) (nearest-tie v l.best l.near l.low l.i q.result l.invariant e good-to w.root-apart.result w.root-apart.ensures w.if-apart-near.false))
      | else-square-low w ↦ (rw (w.best-is, w.low-is, w.near-is) (nearest-far v l.best l.near l.low l.i q.result l.invariant e good-to w.if-square-low.false))
    ]

pub returns : goal.returns
returns c = let l = c.loop-i in
    nearest-end _ _ _ _ _ _ _ l.invariant (omega arith) c.requires.2
