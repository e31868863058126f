-- `call_records::Fields::list` meets its contract. Assumes nothing.
use mathlib.Core.Path.{refl, ◌∙◌, ap}
use Rattle.std.proofs.Common.{arith, rules}
use Rattle.std.proofs.lemmas.Grind.{common_steps}
use Rattle.formats.specs.Bytes.{field}
use Rattle.lists.specs.Lists.{from}
use Rattle.lists.proofs.From.{fill_more}
use Rattle.call_records.specs.Reads.{entry_bits}
use Rattle.call_records.proofs.fields.Fields.list.Goals as goal

pub loop-x-init : goal.loop-x-init
unfolding from
loop-x-init g c = record { left = search rules; read = refl }

pub loop-x-preserved : goal.loop-x-preserved
loop-x-preserved g c =
    let (room, value, rest) = c.in_ok-next_bits.ensures in
    record {
      left = grind (arith, common_steps);
      read =
          fill_more (λ i. g.T.Entry.value_of (entry_bits g.T.Entry.SIZE c.args.self.now.rest.now i)) c.loop-x.list c.loop-x.x-index _ (omega arith)
          (c.from_bits.ensures ∙ ap g.T.Entry.value_of (value ∙ ap (field g.T.Entry.SIZE 0) c.loop-x.invariant.left)) c.loop-x.invariant.read;
    }
