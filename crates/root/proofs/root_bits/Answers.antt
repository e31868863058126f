-- `root::root_bits` meets its contract, for an odd and an even exponent. Assumes nothing.
use Prim.Native.Nat.{◌*◌}
use Rattle.root_laws.proofs.Scaling.{odd-split, even-split}
use Rattle.root.proofs.Whole.{whole-rooted}
use Rattle.root.proofs.root_bits.Goals.{then-e-eq1, else-e-eq1}
use Rattle.root.proofs.root_bits.Goals as goal

pub returns : goal.returns
returns c = let b = c.args.b in
    let l = c.leading-m in
    let m = l.result.m in
    let e = l.result.e in
    elim c.if-e-eq1.branch [
      | then-e-eq1 w ↦ rw w.q-is (whole-rooted b m e (m * 2) w.near_root-q.result l.ensures
          (odd-split m e l.ensures.least w.if-e-eq1.true) w.near_root-q.ensures)
      | else-e-eq1 w ↦ rw w.q-is (whole-rooted b m e m w.near_root-q-else-e-eq1.result l.ensures
          (even-split m e l.ensures.least w.if-e-eq1.false) w.near_root-q-else-e-eq1.ensures)
    ]
