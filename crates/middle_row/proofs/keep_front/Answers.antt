-- `middle_row::keep_front` meets its contract. Assumes nothing.
use mathlib.Core.Path.{sym, ◌∙◌}
use Prim.Native.Nat.{◌<◌}
use lib.ListN.{length}
use Rattle.middle_row.proofs.Turns.{moving-first, moving_row, moving_in, moving_out, kept-first, kept_in, kept_out, kept-number, kept-rows}
use Rattle.middle_row.proofs.keep_front.Goals.{then-passes, else-passes}
use Rattle.middle_row.proofs.keep_front.Goals as goal

pub loop-t-init : goal.loop-t-init
loop-t-init g c = (moving-first _, λ p t. kept-first p _)

pub passes-requires : goal.passes-requires
passes-requires g c = moving_row c.loop-t.invariant.0 (λ i. g.F.Fn.pre c.args.passes (i, tt)) c.loop-t-test.true c.requires

pub loop-t-preserved : goal.loop-t-preserved
loop-t-preserved g c =
    let v = c.loop-t.invariant.0 in
    let h : c.loop-t.t < length c.args.rows.now = c.loop-t-test.true in
    elim c.if-passes.branch [
      | then-passes w ↦
          rw (w.rows-is, w.n-is)
          (moving_in v, λ p t. kept_in v (c.loop-t.invariant.1 p t) h (sym (t _ _ c.passes.ensures) ∙ w.if-passes.true))
      | else-passes w ↦
          rw (w.rows-is, w.n-is)
          (moving_out v, λ p t. kept_out v (c.loop-t.invariant.1 p t) h (sym (t _ _ c.passes.ensures) ∙ w.if-passes.false))
    ]

pub returns : goal.returns
returns g c = record {
  number = λ p t. kept-number (c.loop-t.invariant.1 p t) c.loop-t-test.false;
  rows = λ p t. kept-rows (c.loop-t.invariant.1 p t) c.loop-t-test.false;
}
