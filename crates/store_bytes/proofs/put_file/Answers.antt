-- `store_bytes::put_file` meets its contract. Assumes nothing.
use native.Mathlib.Nat.{zero-add}
use native.Mathlib.Omega.{arith}
use mathlib.Core.Path.{◌≡◌, sym, ◌∙◌}
use borrow.Author.Rules.{rules}
use Rattle.config.specs.Params.{settings_of_lem}
use Rattle.tree_answer.specs.Answers.{tree_counts, lists_of}
use Rattle.bytes_out.proofs.Writing.{spelt_as, takes_as, takes_first, takes_next, ◌▸◌}
use Rattle.store_bytes.proofs.Runs.{file-run}
use Rattle.store_bytes.proofs.put_file.Goals as goal

pub put_front-requires : goal.put_front-requires
put_front-requires c =
    let a = c.args in
    let s = settings_of_lem a.points.dimensions a.params in
    let l = lists_of a.tree.level_points.now a.tree.leaves.internals.now a.tree.leaves.domains.now a.tree.leaves.boxes.now a.tree.leaves.borrowed.now in
    let e = file-run s a.points.coordinates.now a.tree.leaves.dimensions (tree_counts a.tree) l in
    record {
      le_dimensions = c.requires.le_dimensions;
      room_for = takes_first _ _ (takes_as e (record { fits = omega (arith, c.requires.borrowed_in_bounds) }));
    }

pub put_levels-requires : goal.put_levels-requires
put_levels-requires c =
    let a = c.args in
    let s = settings_of_lem a.points.dimensions a.params in
    let l = lists_of a.tree.level_points.now a.tree.leaves.internals.now a.tree.leaves.domains.now a.tree.leaves.boxes.now a.tree.leaves.borrowed.now in
    let e = file-run s a.points.coordinates.now a.tree.leaves.dimensions (tree_counts a.tree) l in
    record {
      stands = c.requires.stands;
      room_for = takes_next c.put_front.ensures (takes_as e (record { fits = omega (arith, c.requires.borrowed_in_bounds) }));
    }

pub returns : goal.returns
returns c =
    let a = c.args in
    let s = settings_of_lem a.points.dimensions a.params in
    let l = lists_of a.tree.level_points.now a.tree.leaves.internals.now a.tree.leaves.domains.now a.tree.leaves.boxes.now a.tree.leaves.borrowed.now in
    let e = file-run s a.points.coordinates.now a.tree.leaves.dimensions (tree_counts a.tree) l in
    let w = spelt_as (sym e) (c.put_front.ensures ▸ c.put_levels.ensures) in
    let back : _ ≡ c.put_levels.new.out.bytes.now = search rules in
    record { answer = w.place ∙ zero-add _; file = back ∙ w.same }
