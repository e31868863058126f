-- `file_front::points_pass` meets its contract: before row i, the rows before it pass. Assumes nothing.
use borrow.Author.Rules.{rules}
use native.Mathlib.Omega.{arith}
use Rattle.file_front.proofs.Points.{passing-start, passing-broken, passing-bad, passing-next, passing-end}
use Rattle.file_front.proofs.points_pass.Goals as goal

pub loop-i-init : goal.loop-i-init
loop-i-init c = passing-start _ _ (search rules)

pub record_at-requires : goal.record_at-requires
record_at-requires c = (omega (arith, c.loop-i.invariant.inside, c.row_place-at.ensures), search rules)

pub returns-then-not-record_at : goal.returns-then-not-record_at
returns-then-not-record_at c = let at = c.row_place-at in
    let size = c.point_size-size in
    let stands = c.record_at in
    passing-broken c.loop-i.invariant at.result at.ensures size.result size.ensures stands.result stands.ensures _ (search rules) c.if-not-record_at.true

pub returns-then-not-finite_at : goal.returns-then-not-finite_at
returns-then-not-finite_at c = let at = c.row_place-at in
    let size = c.point_size-size in
    let stands = c.record_at in
    let known = c.finite_at in
    passing-bad c.loop-i.invariant at.result at.ensures size.result size.ensures stands.result stands.ensures c.if-not-record_at.false known.result known.ensures _ (search rules) c.if-not-finite_at.true

pub loop-i-preserved : goal.loop-i-preserved
loop-i-preserved c = let at = c.row_place-at in
    let size = c.point_size-size in
    let stands = c.record_at in
    let known = c.finite_at in
    passing-next c.loop-i.invariant at.result at.ensures size.result size.ensures stands.result stands.ensures c.if-not-record_at.false known.result known.ensures c.if-not-finite_at.false

pub returns : goal.returns
returns c = passing-end c.loop-i.invariant _ (search rules)
