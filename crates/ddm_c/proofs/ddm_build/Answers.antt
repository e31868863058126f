-- `ddm_c::ddm_build` meets its contract. Assumes nothing.
use mathlib.Core.Path.{◌≡◌, sym, ◌∙◌, subst}
use borrow.Author.Rules.{rules}
use Rattle.definition.specs.Outcome.{RoomAfter}
use Rattle.config.specs.Params.{settings_of_lem}
use Rattle.tree_answer.specs.Answers.{tree_answer_lem, lists_of, records_of}
use Rattle.tree_lists.specs.Lent.{lists_in, records_in}
use Rattle.slots.specs.Settings.{settings_from}
use Rattle.slots.proofs.Told.{build-short, build-long}
use Rattle.ddm_c.proofs.ddm_build.Goals as goal

pub returns-then-res-lt-TREE : goal.returns-then-res-lt-TREE
returns-then-res-lt-TREE c = rw c.number.ensures (build-short _ (lists_of _ _ _ _ _) _ _ (records_of _ _) _ _ c.if-res-lt-TREE.true)

pub returns : goal.returns
returns c = let a = c.args in
    let p = c.params_of-params in
    let q = c.build-tree in
    let w = q.ensures.built in
    let back : _ ≡ lists_in q.new.lists = search rules in
    let recorded : _ ≡ records_in q.new.records = search rules in
    build-long _ (lists_of _ _ _ _ _) _ _ (records_of _ _) _ (lists_of _ _ _ _ _) _ _ (records_of _ _) _ _ (tree_answer_lem q.result) (settings_of_lem _ p.result)
    (settings_from a.dimensions a.leaf a.neighbours a.factor a.policy a.threshold)
    (p.ensures _)
    c.if-res-lt-TREE.false c.put_tree.ensures.number c.put_tree.ensures.slot w.answers (back ∙ w.lists) (recorded ∙ w.records) (subst (RoomAfter _ _) (sym (search rules)) w.floats_free) (subst (RoomAfter _ _) (sym (search rules)) w.wholes_free)
