-- `print_texts::write_refused` meets its contract. Assumes nothing.
use mathlib.Core.Path.{sym}
use Rattle.formats.specs.Printout.{ascii}
use Rattle.bytes_out.proofs.Writing.{spelt_as, takes_as, takes_first, takes_next, ◌▸◌}
use Rattle.print_texts.proofs.Texts.{refusal-parts}
use Rattle.print_texts.proofs.write_refused.Goals as goal

pub write_numbered-requires : goal.write_numbered-requires
unfolding ascii
write_numbered-requires c = takes_first _ _ (takes_first _ _ (takes_as (refusal-parts c.args.number c.args.place) c.requires))

pub write_numbered-requires-2 : goal.write_numbered-requires-2
unfolding ascii
write_numbered-requires-2 c = takes_next c.write_numbered.ensures (takes_first _ _ (takes_as (refusal-parts c.args.number c.args.place) c.requires))

pub byte-requires : goal.byte-requires
unfolding ascii
byte-requires c = takes_next (c.write_numbered.ensures ▸ c.write_numbered-2.ensures) (takes_as (refusal-parts c.args.number c.args.place) c.requires)

pub returns : goal.returns
unfolding ascii
returns c =
    spelt_as (sym (refusal-parts c.args.number c.args.place)) (c.write_numbered.ensures ▸ c.write_numbered-2.ensures ▸ c.byte.ensures)
