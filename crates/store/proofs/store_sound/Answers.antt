-- `store::store_sound` meets its contract. Assumes nothing.
use mathlib.Core.Path.{refl, ap}
use Rattle.std.proofs.lemmas.Result.{err_from_is_err_and}
use native.Mathlib.Omega.{arith}
use Rattle.config.specs.Params.{settings_of_lem}
use Rattle.list_domains.specs.declared.ListsPassed.{ListsPassed}
use Rattle.refusal.specs.Refusals.{answer_of}
use Rattle.tree_answer.specs.Answers.{counts_given}
use Rattle.tree_lists.specs.Lent.{lists_read}
use Rattle.store.proofs.Held.{held-stands}
use Rattle.store.proofs.Sized.{own-passed, tree-bad, tree-good, tree-packs, tree-sound, tree-room, tree-limited, tree-size}
use Rattle.store.proofs.Outcomes.{tree-refused, file-refused, file-written}
use Rattle.store.proofs.store_sound.Goals as goal

pub count-n-requires : goal.count-n-requires
count-n-requires c = let start = c in
    let a = start.args in
    let s = settings_of_lem a.points.dimensions a.params in
    let cs = a.points.coordinates.now in
    let l = lists_read a.tree in
    omega (arith, (own-passed s cs l start.requires).axes)

pub check_lists-requires : goal.check_lists-requires
check_lists-requires c = let start = c in
    let a = start.args in
    let s = settings_of_lem a.points.dimensions a.params in
    let cs = a.points.coordinates.now in
    let l = lists_read a.tree in
    let o = c.of-tree.ensures in
    let p = own-passed s cs l start.requires in
    rw (o.level_points, o.leaves, c.count-n.ensures) (p.axes_few, p.rows_few, p.neighbours_few, p.none-short)

pub returns-in_err-passed : goal.returns-in_err-passed
returns-in_err-passed c = let start = c in
    let a = start.args in
    let s = settings_of_lem a.points.dimensions a.params in
    let cs = a.points.coordinates.now in
    let l = lists_read a.tree in
    let o = c.of-tree.ensures in
    let none = c.in_err-passed.ensures.ok_part in
    let p = err_from_is_err_and c.from_residual.result c.from_residual.ensures.1 in
    let tested = (rw (none, o.levels, o.rows, o.domains, o.level_points, o.leaves, c.count-n.ensures) at c.check_lists.ensures) s refl refl in
    let number = ap (answer_of (λ (x : ListsPassed). 0) 0) (rw none at c.in_err-passed.ensures.value) in
    rw (p.1, p.2) (tree-refused s cs (counts_given a.counts) l a.file.now start.requires (tree-bad s _ (counts_given a.counts) l tested) _ number)

pub file_size-size-requires : goal.file_size-size-requires
file_size-size-requires c = let start = c in
    let a = start.args in
    let s = settings_of_lem a.points.dimensions a.params in
    let cs = a.points.coordinates.now in
    let l = lists_read a.tree in
    let o = c.of-tree.ensures in
    let found = c.in_ok-passed.ensures.ok_part in
    let tested = (rw (found, o.levels, o.rows, o.domains, o.level_points, o.leaves, c.count-n.ensures) at c.check_lists.ensures) s refl refl in
    rw c.count-n.ensures (tree-limited s cs (counts_given a.counts) l start.requires _ tested)

pub returns-then-file-size : goal.returns-then-file-size
returns-then-file-size c = let start = c in
    let a = start.args in
    let s = settings_of_lem a.points.dimensions a.params in
    let cs = a.points.coordinates.now in
    let l = lists_read a.tree in
    let o = c.of-tree.ensures in
    let found = c.in_ok-passed.ensures.ok_part in
    let tested = (rw (found, o.levels, o.rows, o.domains, o.level_points, o.leaves, c.count-n.ensures) at c.check_lists.ensures) s refl refl in
    let g = tree-good s cs (counts_given a.counts) l start.requires _ tested in
    let size = tree-size s cs (counts_given a.counts) l start.requires _ tested _ (rw c.count-n.ensures at c.file_size-size.ensures) in
    file-refused s cs (counts_given a.counts) l a.file.now start.requires g (omega (arith, size, c.if-file-size.true)) _ refl

pub put_file-requires : goal.put_file-requires
put_file-requires c = let start = c in
    let a = start.args in
    let s = settings_of_lem a.points.dimensions a.params in
    let cs = a.points.coordinates.now in
    let l = lists_read a.tree in
    let o = c.of-tree.ensures in
    let found = c.in_ok-passed.ensures.ok_part in
    let tested = (rw (found, o.levels, o.rows, o.domains, o.level_points, o.leaves, c.count-n.ensures) at c.check_lists.ensures) s refl refl in
    let p = own-passed s cs l start.requires in
    let packing = tree-packs s cs (counts_given a.counts) l start.requires _ tested in
    let passing = tree-sound s cs (counts_given a.counts) l start.requires _ tested in
    let room = tree-room s cs (counts_given a.counts) l start.requires _ tested in
    let size = tree-size s cs (counts_given a.counts) l start.requires _ tested _ (rw c.count-n.ensures at c.file_size-size.ensures) in
    rw (o.levels, o.rows, o.domains, o.level_points, o.leaves)
    record {
      le_dimensions = (p.axes, p.axes_few);
      stands = held-stands s _ (counts_given a.counts) l packing passing room p.axes_few;
      borrowed_in_bounds = omega (arith, size, c.if-file-size.false);
    }

pub returns : goal.returns
returns c = let start = c in
    let a = start.args in
    let s = settings_of_lem a.points.dimensions a.params in
    let cs = a.points.coordinates.now in
    let l = lists_read a.tree in
    let o = c.of-tree.ensures in
    let found = c.in_ok-passed.ensures.ok_part in
    let tested = (rw (found, o.levels, o.rows, o.domains, o.level_points, o.leaves, c.count-n.ensures) at c.check_lists.ensures) s refl refl in
    let g = tree-good s cs (counts_given a.counts) l start.requires _ tested in
    let size = tree-size s cs (counts_given a.counts) l start.requires _ tested _ (rw c.count-n.ensures at c.file_size-size.ensures) in
    let put = rw (o.levels, o.rows, o.domains, o.level_points, o.leaves) at c.put_file.ensures in
    file-written s cs (counts_given a.counts) l a.file.now start.requires g (omega (arith, size, c.if-file-size.false)) _ put.answer _ put.file
