-- `ddm_c::ddm_load` meets its contract. Assumes nothing.
use mathlib.Core.Path.{◌∙◌}
use native.Mathlib.Omega.{arith}
use borrow.Author.Rules.{rules}
use Rattle.config.specs.Params.{settings_of_lem}
use Rattle.tree_answer.specs.Answers.{tree_answer_lem, lists_of}
use Rattle.slots.specs.Settings.{settings_from}
use Rattle.slots.proofs.Told.{load-short, load-long}
use Rattle.ddm_c.proofs.ddm_load.Goals as goal

pub returns-then-res-lt-TREE : goal.returns-then-res-lt-TREE
returns-then-res-lt-TREE c = rw c.number.ensures (load-short _ _ (lists_of _ _ _ _ _) _ _ (omega arith))

pub returns : goal.returns
returns c = let a = c.args in
    let p = c.params_of-params in
    let q = c.load_tree-tree in
    let w = q.ensures.loaded in
    load-long _ _ (lists_of _ _ _ _ _) _ (lists_of _ _ _ _ _) _ _ (tree_answer_lem q.result) (settings_of_lem _ p.result)
    (settings_from a.dimensions a.leaf a.neighbours a.factor a.policy a.threshold)
    (p.ensures _)
    c.if-res-lt-TREE.false c.put_tree.ensures.number c.put_tree.ensures.slot w.answers (search rules ∙ w.level_points) (search rules ∙ w.internals) (search rules ∙ w.domains) (search rules ∙ w.boxes) (search rules ∙ w.borrowed)
