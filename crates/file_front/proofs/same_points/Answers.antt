-- `file_front::same_points` meets its contract: before row i, the rows before it agree. Assumes nothing.
use mathlib.Core.Path.{sym, ◌∙◌}
use native.Mathlib.Omega.{arith}
use borrow.Author.Rules.{rules}
use Rattle.file_front.proofs.Tested.{head-inside}
use Rattle.file_front.proofs.PresentPoints.{front-parts, other-count, comparing-start, comparing-listed, comparing-inside, comparing-found, comparing-next, comparing-end}
use Rattle.file_front.proofs.same_points.Goals as goal

pub number_at-n-requires : goal.number_at-n-requires
number_at-n-requires c =
    omega (arith, head-inside c.args.bytes.now (front-parts c.args.bytes.now c.requires.0).0)

pub returns-then-count-n : goal.returns-then-count-n
returns-then-count-n c =
    let a = c.args in
    other-count a.points.dimensions a.points.coordinates.now a.bytes.now c.requires.0 (λ i. omega (arith, c.type_inv.bytes i)) (omega (arith, c.requires.4)) (λ e. c.if-count-n.true (c.count.ensures ∙ e ∙ sym c.number_at-n.ensures.0))

pub loop-i-init : goal.loop-i-init
loop-i-init c =
    comparing-start c.requires.0 c.requires.1 (λ i. omega (arith, c.type_inv.bytes i)) (omega (arith, c.requires.4)) (sym c.count.ensures ∙ c.if-count-n.false) c.number_at-n.ensures.0

pub point-requires : goal.point-requires
point-requires c = comparing-listed c.loop-i.invariant (search rules)

pub floats_are-requires : goal.floats_are-requires
floats_are-requires c = rw (c.point.ensures.number, c.row_place-at.ensures) (omega (arith, comparing-inside c.loop-i.invariant (search rules)))

pub returns-then-not-floats_are : goal.returns-then-not-floats_are
returns-then-not-floats_are c =
    let told = rw (c.point.ensures.number, c.point.ensures.coordinates, c.row_place-at.ensures) at c.floats_are.ensures in
    comparing-found c.loop-i.invariant (search rules) c.floats_are.result told c.if-not-floats_are.true

pub loop-i-preserved : goal.loop-i-preserved
loop-i-preserved c =
    let told = rw (c.point.ensures.number, c.point.ensures.coordinates, c.row_place-at.ensures) at c.floats_are.ensures in
    comparing-next c.loop-i.invariant (search rules) c.floats_are.result told c.if-not-floats_are.false

pub returns : goal.returns
returns c = comparing-end c.loop-i.invariant (search rules)
