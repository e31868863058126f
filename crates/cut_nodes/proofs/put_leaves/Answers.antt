-- `cut_nodes::put_leaves` meets its contract. Assumes nothing.
use mathlib.Core.Path.{ap, sym, ◌∙◌}
use Prim.Native.Nat.{ℕ, ◌*◌}
use native.Mathlib.Nat.{mul-add, mul-one}
use native.Mathlib.Omega.{arith}
use lib.ListN.{length}
use Rattle.definition.specs.Points.{box_width_lem}
use Rattle.cut_nodes.specs.Written.{domain_of}
use Rattle.record_laws.proofs.Entries.{boxes-under-leaf, leaf-count-leaf}
use Rattle.cut_nodes.proofs.Laws.{written_on, written-two}
use Rattle.cut_nodes.proofs.put_leaves.Goals as goal

pub returns-clause-written : goal.returns-clause-written
returns-clause-written c l m el em = let a = c in
    let p = a.requires in
    let x = c.put_leaf-middle.ensures.written l el in
    let y = c.put_leaf.ensures.written m em in
    let w = box_width_lem a.args.left.dimensions in
    let f = a.args.from.leaves in
    let q = domain_of l a.args.left a.args.depth in
    written-two (omega (arith, p.3)) (omega (arith, p.4, mul-add w f 2)) (omega (arith, p.5)) (omega (arith, p.6))
    (ap length (boxes-under-leaf q) ∙ p.2 ∙ sym (ap (λ (n : ℕ). w * n) (leaf-count-leaf q) ∙ mul-one w)) x (written_on p.1 y)
