use Rattle.std.proofs.Common.{◌≡◌, drop, ◌+◌, ◌*◌, min, map, take}
use Rattle.lists.specs.Lists.{from}
use Rattle.formats.specs.Bytes.{number_size}
use Rattle.call_records.specs.Reads.{bits_wanted}
use Rattle.call_records.proofs.fields.Fields.agrees.Given as goal

-- the entries that were read are those before both the index and the count; those before the index agree
abbrev pub invariant-loop-i : goal.invariant-loop-i
invariant-loop-i g l =
    record {
      left : l.self.rest.now ≡ drop (number_size + g.T.Entry.SIZE * min l.i l.count) l.fn.self.rest.now;
      same : map g.T.Entry.bits_of (take l.i l.list) ≡ map (bits_wanted g.T.Entry.SIZE g.T.Entry.NINE l.fn.self.rest.now) (from 0 l.i);
    }
