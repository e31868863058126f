-- `print_tree::write_tree` meets its contract. Assumes nothing.
use native.Mathlib.Omega.{arith}
use mathlib.Core.Path.{sym}
use Rattle.formats.specs.Printout.{ascii}
use Rattle.bytes_out.proofs.Writing.{spelt_as, ◌▸◌}
use Rattle.packed.specs.Reading.{read_levels}
use Rattle.packed.specs.View.{packed_of}
use Rattle.print_tree.proofs.Levels.{how-many}
use Rattle.print_tree.proofs.Lines.{tree-parts, tree-long}
use Rattle.print_tree.proofs.write_tree.Goals as goal

pub write_numbered-requires : goal.write_numbered-requires
unfolding ascii
write_numbered-requires c = let a = c.args in
    let p = packed_of a.tree.leaves in
    let ls = read_levels p a.tree.level_points.now a.tree.rows.now a.tree.domains.now a.tree.levels in
    let n = how-many p a.tree.level_points.now a.tree.rows.now a.tree.domains.now a.tree.levels in
    record { fits = omega (arith, tree-long a.tree.levels ls n, c.requires.room_for.fits) }

pub byte-requires : goal.byte-requires
unfolding ascii
byte-requires c = let a = c.args in
    let p = packed_of a.tree.leaves in
    let ls = read_levels p a.tree.level_points.now a.tree.rows.now a.tree.domains.now a.tree.levels in
    let n = how-many p a.tree.level_points.now a.tree.rows.now a.tree.domains.now a.tree.levels in
    record { fits = omega (arith, tree-long a.tree.levels ls n, c.requires.room_for.fits) }

pub write_levels-requires : goal.write_levels-requires
unfolding ascii
write_levels-requires c = let a = c.args in
    let p = packed_of a.tree.leaves in
    let ls = read_levels p a.tree.level_points.now a.tree.rows.now a.tree.domains.now a.tree.levels in
    let n = how-many p a.tree.level_points.now a.tree.rows.now a.tree.domains.now a.tree.levels in
    record { stands = c.requires.stands; room_for = record { fits = omega (arith, tree-long a.tree.levels ls n, c.requires.room_for.fits) } }

pub returns : goal.returns
unfolding ascii
returns c = let a = c.args in
    let p = packed_of a.tree.leaves in
    let ls = read_levels p a.tree.level_points.now a.tree.rows.now a.tree.domains.now a.tree.levels in
    let n = how-many p a.tree.level_points.now a.tree.rows.now a.tree.domains.now a.tree.levels in
    spelt_as (sym (tree-parts a.tree.levels ls n)) (c.write_numbered.ensures ▸ c.byte.ensures ▸ c.write_levels.ensures)
