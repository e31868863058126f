-- `print_tree::write_level` meets its contract. Assumes nothing.
use native.Mathlib.Omega.{arith}
use mathlib.Core.Path.{sym}
use Rattle.formats.specs.Printout.{ascii}
use Rattle.bytes_out.proofs.Writing.{spelt_as, ◌▸◌}
use Rattle.print_tree.proofs.Lines.{level-parts, level-long}
use Rattle.print_tree.proofs.write_level.Goals as goal

pub write_numbered-requires : goal.write_numbered-requires
unfolding ascii
write_numbered-requires c = record { fits = omega (arith, level-long c.args.t c.args.rows.now, c.requires.fits) }

pub write_listed-requires : goal.write_listed-requires
unfolding ascii
write_listed-requires c = record { fits = omega (arith, level-long c.args.t c.args.rows.now, c.requires.fits) }

pub byte-requires : goal.byte-requires
unfolding ascii
byte-requires c = record { fits = omega (arith, level-long c.args.t c.args.rows.now, c.requires.fits) }

pub returns : goal.returns
unfolding ascii
returns c = spelt_as (sym (level-parts c.args.t c.args.rows.now)) (c.write_numbered.ensures ▸ c.write_listed.ensures ▸ c.byte.ensures)
