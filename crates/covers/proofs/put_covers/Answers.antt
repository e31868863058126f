-- `covers::put_covers` meets its contract. The loop's invariant: the boxes from number l on are put to their rows. Assumes nothing.
use mathlib.Core.Path.{◌≡◌, ap, subst}
use Prim.Native.Nat.{ℕ, suc, ◌+◌, ◌-◌, ◌*◌, ◌≤◌}
use native.Mathlib.Omega.{arith}
use native.Mathlib.Nat.{mul-add, mul-le-mul_left}
use lib.ListN.{length}
use Rattle.definition.specs.Packed.{row_floats_lem}
use Rattle.covers.proofs.Moved.{Moved, moved-start, moved-turn, moved-end}
use Rattle.covers.proofs.put_covers.Goals as goal

pub loop-l-init : goal.loop-l-init
loop-l-init c = let P = c.args in
    (c.floats_before-start.ensures, moved-start P.dimensions P.boxes.now c.floats_before-start.result P.covers.now)

pub put_cover-requires : goal.put_cover-requires
put_cover-requires c = let P = c.args in
    let l = c.loop-l in
    let k : l.l ≡ l.l - 1 + 1 = omega (arith, c.loop-l-test.true) in (
      c.requires.0,
      omega (
        arith,
        c.requires.1,
        l.invariant.0,
        l.invariant.1.same,
        mul-add (row_floats_lem P.dimensions) P.first (length P.covers.now),
        mul-le-mul_left (row_floats_lem P.dimensions) l.invariant.1.few,
        ap (λ (i : ℕ). row_floats_lem P.dimensions * i) k,
      ),
    )

pub loop-l-preserved : goal.loop-l-preserved
loop-l-preserved c = let P = c.args in
    let l = c.loop-l in
    let d = P.dimensions in
    let start = c.floats_before-start.result in
    let k : l.l ≡ suc (l.l - 1) = omega (arith, c.loop-l-test.true) in
    let m = subst (λ (i : ℕ). Moved d P.boxes.now start P.covers.now i l.boxes) k l.invariant.1 in
    let fits : start + row_floats_lem d * length P.covers.now ≤ length P.boxes.now =
    omega (arith, c.requires.1, l.invariant.0, mul-add (row_floats_lem d) P.first (length P.covers.now)) in
    (l.invariant.0, moved-turn d P.boxes.now start P.covers.now fits (l.l - 1) l.boxes m _ c.put_cover.ensures)

pub returns : goal.returns
returns c = let P = c.args in
    let l = c.loop-l in
    let d = P.dimensions in
    let start = c.floats_before-start.result in
    let none : l.l ≡ 0 = omega (arith, c.loop-l-test.false) in
    let m = subst (λ (i : ℕ). Moved d P.boxes.now start P.covers.now i l.boxes) none l.invariant.1 in
    let fits : start + row_floats_lem d * length P.covers.now ≤ length P.boxes.now =
    omega (arith, c.requires.1, l.invariant.0, mul-add (row_floats_lem d) P.first (length P.covers.now)) in
    rw (← l.invariant.0) (moved-end d P.boxes.now start P.covers.now l.boxes fits m)
