-- `load::check_file` meets its contract. Assumes nothing.
use mathlib.Core.Path.{sym, ◌∙◌}
use native.Mathlib.Omega.{arith}
use Rattle.load.proofs.FileTests.{front-fails, levels-decide}
use Rattle.load.proofs.check_file.Goals as goal

pub returns-in_err-settings-clause-good : goal.returns-in_err-settings-clause-good
returns-in_err-settings-clause-good c =
    rw c.from_residual.ensures (front-fails c.args.bytes.now (λ k. omega (arith, c.type_inv.bytes k)) (sym c.in_err-settings.ensures.good))

pub returns-then-not-check_tree-clause-good : goal.returns-then-not-check_tree-clause-good
returns-then-not-check_tree-clause-good c = let front = c.in_ok-settings in
    sym c.if-not-check_tree.true
    ∙ levels-decide c.args.bytes.now (λ k. omega (arith, c.type_inv.bytes k)) (sym front.ensures.good) front.field-0 front.ensures.read c.check_tree.result c.check_tree.ensures

pub returns-clause-good : goal.returns-clause-good
returns-clause-good c = let front = c.in_ok-settings in
    sym c.if-not-check_tree.false
    ∙ levels-decide c.args.bytes.now (λ k. omega (arith, c.type_inv.bytes k)) (sym front.ensures.good) front.field-0 front.ensures.read c.check_tree.result c.check_tree.ensures
