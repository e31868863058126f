-- `file_domains::check_domain` meets its contract: each way out has its law. Assumes nothing.
use native.Mathlib.Omega.{arith}
use Rattle.file_rows.proofs.InBytes.{length_rows}
use Rattle.file_domains.proofs.OneDomain.{no_record, too_many, bad-leaf, bad-box, domain-good}
use Rattle.file_domains.proofs.check_domain.Goals as goal

pub returns-in_err-f-clause-tested : goal.returns-in_err-f-clause-tested
returns-in_err-f-clause-tested c = λ p q m n. rw c.from_residual.ensures (no_record _ _ _ _ _ c.record_floats-floats.ensures _ _ p q _ _ c.in_err-f.ensures)

pub returns-then-before-f-clause-tested : goal.returns-then-before-f-clause-tested
returns-then-before-f-clause-tested c = λ p q m n. too_many _ _ _ _ _ c.record_floats-floats.ensures _ _ p q _ _ _ c.in_ok-f.ensures c.if-before-f.true

pub check_leaf-requires-clause-few : goal.check_leaf-requires-clause-few
check_leaf-requires-clause-few c = omega (arith, length_rows c.in_ok-f.f.own c.in_ok-f.f.own_at c.args.bytes.now, c.if-before-f.false)

pub returns-in_err-leaves-clause-tested : goal.returns-in_err-leaves-clause-tested
returns-in_err-leaves-clause-tested c = λ p q m n. rw c.from_residual-in_err-leaves.ensures (bad-leaf _ _ _ _ _ c.record_floats-floats.ensures _ _ p q _ _ _ c.in_ok-f.ensures
    c.if-before-f.false _ c.number_at-depth.ensures.0 _ (c.check_leaf.ensures.tested p q m n) c.in_err-leaves.was)

pub returns-then-not-no_nan_at-clause-tested : goal.returns-then-not-no_nan_at-clause-tested
returns-then-not-no_nan_at-clause-tested c = λ p q m n. bad-box _ _ _ _ _ c.record_floats-floats.ensures _ _ p q _ _ _ c.in_ok-f.ensures
    c.if-before-f.false _ c.number_at-depth.ensures.0 _ (c.check_leaf.ensures.tested p q m n) _ c.in_ok-leaves.was _ c.no_nan_at.ensures c.if-not-no_nan_at.true

pub returns-clause-tested : goal.returns-clause-tested
returns-clause-tested c = λ p q m n. domain-good _ _ _ _ _ c.record_floats-floats.ensures _ _ p q _ _ _ c.in_ok-f.ensures
    c.if-before-f.false _ c.number_at-depth.ensures.0 _ (c.check_leaf.ensures.tested p q m n) _ c.in_ok-leaves.was _ c.no_nan_at.ensures c.if-not-no_nan_at.false
