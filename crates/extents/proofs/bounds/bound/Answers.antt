-- `extents::bound` meets its contract. The invariant: the bound is that of the rows passed, by any comparison that the calls decide.
-- Assumes nothing.
use mathlib.Core.Path.{◌≡◌, sym, ap, ◌∙◌}
use Prim.Native.Nat.{ℕ, ◌+◌, ◌<◌}
use native.Mathlib.Omega.{arith}
use lib.ListN.{length, get_or}
use lib.Ieee.{Float}
use Rattle.rows.proofs.Good.{row_fits}
use Rattle.points.specs.Columns.{value_of}
use Rattle.extents.proofs.Firsts.{later-below, later-end, later-row, bound-first, bound-yes, bound-no, bound-end}
use Rattle.extents.proofs.bounds.bound.Goals.{then-better, else-better}
use Rattle.extents.proofs.bounds.bound.Goals as goal

pub at-best-requires : goal.at-best-requires
at-best-requires g c = let r = c.requires.rows in
    omega (arith, r.0, row_fits c.args.column.points.dimensions c.args.column.points.coordinates.now c.args.rows.now r.2 0 r.1)

pub loop-row-init : goal.loop-row-init
loop-row-init g c = λ b d. c.at-best.ensures ∙ bound-first b (value_of c.args.column) c.args.rows.now c.requires.rows.1

pub at-v-requires : goal.at-v-requires
at-v-requires g c = let r = c.requires.rows in
    let a = c.args in
    let k = c.loop-row.row-index in
    let t : k + 1 < length a.rows.now = later-below a.rows.now k c.loop-row-test.true in
    let i = row_fits a.column.points.dimensions a.column.points.coordinates.now a.rows.now r.2 (k + 1) t in
    rw (later-row a.rows.now k c.loop-row-test.true) (omega (arith, r.0, i))

pub loop-row-preserved : goal.loop-row-preserved
loop-row-preserved g c = λ b d.
    let a = c.args in
    let k = c.loop-row.row-index in
    let f : ℕ → Float = value_of a.column in
    let t : k + 1 < length a.rows.now = later-below a.rows.now k c.loop-row-test.true in
    let v : c.at-v.result ≡ f (get_or a.rows.now (k + 1) 0) = c.at-v.ensures ∙ ap f (later-row a.rows.now k c.loop-row-test.true) in
    let e = c.loop-row.invariant b d in
    let r = d _ _ _ c.better.ensures in
    elim c.if-better.branch [
      | then-better w ↦ w.best-is ∙ v ∙ bound-yes b f a.rows.now (k + 1) c.loop-row.best t e (rw v at (sym r ∙ w.if-better.true))
      | else-better w ↦ w.best-is ∙ bound-no b f a.rows.now (k + 1) c.loop-row.best t e (rw v at (sym r ∙ w.if-better.false))
    ]

pub returns : goal.returns
returns g c = λ b d.
    let a = c.args in
    bound-end b (value_of a.column) a.rows.now (c.loop-row.row-index + 1) c.loop-row.best c.requires.rows.1
    (later-end a.rows.now c.loop-row.row-index c.loop-row-test.false) (c.loop-row.invariant b d)
