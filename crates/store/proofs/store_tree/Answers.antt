-- `store::store_tree` meets its contract. Assumes nothing.
use mathlib.Core.Path.{refl, sym}
use Rattle.std.proofs.lemmas.Result.{err_from_is_err_and}
use Rattle.config.specs.Params.{settings_of_lem}
use Rattle.tree_answer.specs.Answers.{counts_given}
use Rattle.tree_lists.specs.Lent.{lists_read}
use Rattle.store.proofs.Outcomes.{own-refused}
use Rattle.store.proofs.store_tree.Goals as goal

pub store_sound-requires : goal.store_sound-requires
store_sound-requires c = sym c.in_ok-check_tree.ensures

pub returns-in_err-check_tree : goal.returns-in_err-check_tree
returns-in_err-check_tree c = let a = c.args in
    let p = err_from_is_err_and c.from_residual.result c.from_residual.ensures.1 in
    rw (p.1, p.2)
    (own-refused (settings_of_lem a.points.dimensions a.params) a.points.coordinates.now (counts_given a.counts) (lists_read a.tree) a.file.now _
    (sym c.in_err-check_tree.ensures) _ refl)
