-- `call_records::Fields::agrees` meets its contract. Assumes nothing.
use mathlib.Core.Path.{sym, ◌∙◌}
use Rattle.std.proofs.Common.{rules}
use Rattle.lists.specs.Lists.{from}
use Rattle.call_records.proofs.Widths.{entry-behind, entries-past}
use Rattle.call_records.proofs.Same.{same_more, wanted_entry, wanted_past}
use Rattle.call_records.proofs.fields.Fields.agrees.Goals as goal
use Rattle.call_records.proofs.fields.Fields.agrees.Goals.{then-i-count+in_ok-want, else-i-count}

pub loop-i-init : goal.loop-i-init
unfolding from
loop-i-init g c = search rules

pub loop-i-preserved : goal.loop-i-preserved
loop-i-preserved g c =
    let size = g.T.Entry.SIZE in
    let nine = g.T.Entry.NINE in
    let i = c.loop-i.i in
    let count = c.in_ok-count.count in
    let bits = sym c.to_bits.ensures ∙ c.if-to_bits-want.false in
    let said = c.in_ok-count.ensures.number.1 in
    record {
      left =
          elim c.if-i-count.branch [
            | then-i-count+in_ok-want w ↦ rw w.self-is (entry-behind size i count _ _ c.loop-i.invariant.left w.if-i-count.true _ w.in_ok-want.ensures.2)
            | else-i-count w ↦ rw w.self-is (entries-past size i count _ _ c.loop-i.invariant.left w.if-i-count.false)
          ];
      same =
          same_more _ _ c.args.list.now i c.index-list-i.result c.loop-i-test.true c.index-list-i.is
          (bits ∙ elim c.if-i-count.branch [
            | then-i-count+in_ok-want w ↦
                w.want-is ∙ wanted_entry size nine i count _ said _ _ c.loop-i.invariant.left w.if-i-count.true w.in_ok-want.ensures.1
            | else-i-count w ↦ w.want-is ∙ w.NINE-want.ensures ∙ wanted_past size nine i count _ said w.if-i-count.false
          ]) c.loop-i.invariant.same;
    }
