-- `load::load_tree` meets its contract. Assumes nothing.
use mathlib.Core.Path.{refl, sym}
use Rattle.std.proofs.lemmas.Result.{err_from_is_err_and}
use Rattle.config.specs.Params.{settings_of_lem}
use Rattle.tree_lists.specs.Lent.{lists_in}
use Rattle.load.proofs.Outcomes.{own-refused, loaded-refused}
use Rattle.load.proofs.load_tree.Goals as goal

pub load_file-requires : goal.load_file-requires
load_file-requires c = sym (rw c.read.ensures at c.in_ok-check_tree.ensures)

pub returns-in_err-check_tree-clause-loaded : goal.returns-in_err-check_tree-clause-loaded
returns-in_err-check_tree-clause-loaded c = let a = c.args in
    let s = settings_of_lem a.points.dimensions a.params in
    let cs = a.points.coordinates.now in
    let bs = a.bytes.now in
    let old = lists_in a.lists.now in
    let p = err_from_is_err_and c.from_residual.result c.from_residual.ensures.1 in
    let e = sym (rw c.read.ensures at c.in_err-check_tree.ensures) in
    rw (p.1, p.2) (loaded-refused s cs bs old _ (own-refused s cs bs old _ e) refl)
