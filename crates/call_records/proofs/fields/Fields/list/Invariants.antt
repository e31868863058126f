use Rattle.std.proofs.Common.{◌≡◌, drop, ◌+◌, ◌*◌, map, take}
use Rattle.lists.specs.Lists.{from}
use Rattle.formats.specs.Bytes.{number_size}
use Rattle.call_records.specs.Reads.{entry_bits}
use Rattle.call_records.proofs.fields.Fields.list.Given as goal

-- the entries before the index were read, and are those of the list
abbrev pub invariant-loop-x : goal.invariant-loop-x
invariant-loop-x g l =
    record {
      left : l.self.rest.now ≡ drop (number_size + g.T.Entry.SIZE * l.x-index) l.fn.self.rest.now;
      read : take l.x-index l.list ≡ map (λ i. g.T.Entry.value_of (entry_bits g.T.Entry.SIZE l.fn.self.rest.now i)) (from 0 l.x-index);
    }
