-- `print_tree::write_domain` meets its contract. Assumes nothing.
use native.Mathlib.Omega.{arith}
use Rattle.std.specs.Prelude.{not}
use mathlib.Core.Path.{sym}
use Rattle.formats.specs.Printout.{ascii}
use Rattle.bytes_out.proofs.Writing.{spelt_as, ◌▸◌}
use Rattle.packed.specs.View.{leaf_of}
use Rattle.print_tree.specs.Unpack.{box_part}
use Rattle.print_tree.proofs.Lines.{domain-parts, domain-long}
use Rattle.print_tree.proofs.write_domain.Goals as goal

pub write_numbered-requires : goal.write_numbered-requires
unfolding ascii
write_numbered-requires c = let a = c.args in
    let f = leaf_of a.leaf in
    let box = box_part (not a.coarse) f.box in
    record { fits = omega (arith, domain-long a.i f box, c.requires.fits) }

pub write_listed-requires : goal.write_listed-requires
unfolding ascii
write_listed-requires c = let a = c.args in
    let f = leaf_of a.leaf in
    let box = box_part (not a.coarse) f.box in
    record { fits = omega (arith, domain-long a.i f box, c.requires.fits) }

pub write_listed-requires-2 : goal.write_listed-requires-2
unfolding ascii
write_listed-requires-2 c = let a = c.args in
    let f = leaf_of a.leaf in
    let box = box_part (not a.coarse) f.box in
    record { fits = omega (arith, domain-long a.i f box, c.requires.fits) }

pub text-requires : goal.text-requires
unfolding ascii
text-requires c = let a = c.args in
    let f = leaf_of a.leaf in
    let box = box_part (not a.coarse) f.box in
    record { fits = omega (arith, domain-long a.i f box, c.requires.fits) }

pub write_box-requires : goal.write_box-requires
unfolding ascii
write_box-requires c = let a = c.args in
    let f = leaf_of a.leaf in
    let box = box_part (not a.coarse) f.box in
    record { fits = omega (arith, domain-long a.i f box, c.requires.fits) }

pub write_valued-requires : goal.write_valued-requires
unfolding ascii
write_valued-requires c = let a = c.args in
    let f = leaf_of a.leaf in
    let box = box_part (not a.coarse) f.box in
    record { fits = omega (arith, domain-long a.i f box, c.requires.fits) }

pub write_numbered-requires-2 : goal.write_numbered-requires-2
unfolding ascii
write_numbered-requires-2 c = let a = c.args in
    let f = leaf_of a.leaf in
    let box = box_part (not a.coarse) f.box in
    record { fits = omega (arith, domain-long a.i f box, c.requires.fits) }

pub byte-requires : goal.byte-requires
unfolding ascii
byte-requires c = let a = c.args in
    let f = leaf_of a.leaf in
    let box = box_part (not a.coarse) f.box in
    record { fits = omega (arith, domain-long a.i f box, c.requires.fits) }

pub returns : goal.returns
unfolding ascii
returns c = let a = c.args in
    let f = leaf_of a.leaf in
    let box = box_part (not a.coarse) f.box in
    spelt_as (sym (domain-parts a.i f box)) (c.write_numbered.ensures ▸ c.write_listed.ensures ▸ c.write_listed-2.ensures ▸ c.text.ensures ▸ c.write_box.ensures ▸ c.write_valued.ensures ▸ c.write_numbered-2.ensures ▸ c.byte.ensures)
