-- `overlaps::write_columns` meets its contract. The loop has written the columns of the leaves passed: `Columned`. Assumes nothing.
use native.Mathlib.Nat.{add-zero}
use native.Mathlib.Omega.{arith}
use Rattle.overlaps.proofs.Columns.{column-none, column-more, column-all}
use Rattle.overlaps.proofs.write_columns.Goals as goal

pub loop-leaf-init : goal.loop-leaf-init
loop-leaf-init c = let a = c.args in
    (omega arith, λ ls P is. column-none a.codes.now a.m a.first a.bat a.domains.now c.requires.1 ls P is)

pub loop-leaf-preserved : goal.loop-leaf-preserved
loop-leaf-preserved c = let a = c.args in
    let l = c.loop-leaf in
    let f = c.reach-end in (
      f.ensures.inside,
      λ ls P is.
          rw c.put_borrowed.ensures
          (column-more a.codes.now a.m a.first a.bat a.domains.now
          c.requires.1 ls P is l.domains l.leaf l.start f.result (l.invariant.1 ls P is) c.loop-leaf-test.true l.invariant.0 (rw (c.code.ensures, add-zero) at f.ensures)),
    )

pub returns : goal.returns
returns c = let a = c.args in
    let l = c.loop-leaf in
    λ ls P is. column-all a.codes.now a.m a.first a.bat a.domains.now c.requires.1 ls P is l.domains l.leaf l.start (l.invariant.1 ls P is) (omega arith) c.loop-leaf-test.false
