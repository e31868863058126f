use Rattle.bytes_out.proofs.Writing.{Left}
use Rattle.store_bytes.proofs.Runs.{domain_at_lem}
use Rattle.lists.specs.Lists.{from}
use Rattle.packed.specs.Reading.{read_leaves}
use Rattle.packed.specs.View.{packed_of}
use Rattle.store_bytes.specs.Runs.{domain_records}
use Prim.Native.Nat.{◌+◌, ◌-◌}
use mathlib.Core.List.{map}
use Rattle.store_bytes.proofs.put_domains.Given as goal

abbrev pub invariant-loop-i : goal.invariant-loop-i
invariant-loop-i l = let p = packed_of l.tree in
    Left l.initial.out l.out (domain_records l.coarse (read_leaves p l.j l.m)) (map (domain_at_lem l.coarse p) (from (l.j + l.i) (l.m - l.i)))
