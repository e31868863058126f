-- `ddm_c::ddm_store` meets its contract. Assumes nothing.
use native.Mathlib.Omega.{arith}
use Rattle.config.specs.Params.{settings_of_lem}
use Rattle.tree_answer.specs.Answers.{counts_given, lists_of}
use Rattle.slots.specs.Settings.{settings_from}
use Rattle.refusal.specs.Refusals.{answer_of}
use Rattle.slots.proofs.Told.{store-short, store-tree-short, store_long}
use Rattle.ddm_c.proofs.ddm_store.Goals as goal

pub returns-then-res-lt-PAIR : goal.returns-then-res-lt-PAIR
returns-then-res-lt-PAIR c = rw c.number.ensures (store-short _ _ _ (lists_of _ _ _ _ _) _ _ (omega arith))

pub returns-then-tree-lt-TREE : goal.returns-then-tree-lt-TREE
returns-then-tree-lt-TREE c = rw c.put_placed.ensures.number (store-tree-short _ _ _ (lists_of _ _ _ _ _) _ _ _ c.if-res-lt-PAIR.false c.if-tree-lt-TREE.true c.put_placed.ensures.slot)

pub returns : goal.returns
returns c = let a = c.args in
    let p = c.params_of-params in
    let q = c.store_tree-stored in
    let r = c.counts_from-counts in
    rw c.put_placed-2.ensures.number
    (store_long (settings_from a.dimensions a.leaf a.neighbours a.factor a.policy a.threshold) _ _ (lists_of _ _ _ _ _) _ _ _ _ (answer_of (λ x. x) 0 q.result) (settings_of_lem _ p.result) (counts_given r.result)
    (p.ensures _) r.ensures c.if-res-lt-PAIR.false c.if-tree-lt-TREE.false
    c.put_placed-2.ensures.slot q.ensures.answers q.ensures.output)
