-- `store_bytes::put_domains` meets its contract. Assumes nothing.
use Rattle.bytes_out.proofs.Writing.{all_left, left_as, takes_part, part_done, nothing_left}
use Rattle.store_bytes.proofs.Turns.{turn, no-turn}
use Rattle.store_bytes.proofs.Runs.{domain_at_lem, domain-run}
use Rattle.lists.specs.Lists.{joined, from}
use Rattle.packed.specs.View.{packed_of}
use Prim.Native.Nat.{◌+◌, ◌-◌}
use mathlib.Core.Path.{ap}
use mathlib.Core.List.{[], map}
use native.Mathlib.Omega.{arith}
use borrow.Author.Rules.{rules}
use Rattle.store_bytes.proofs.put_domains.Goals as goal

pub loop-i-init : goal.loop-i-init
loop-i-init c = let start = c in
    let a = start.args in
    let p = packed_of a.tree in
    let f = domain_at_lem a.coarse p in
    (all_left (map f (from (a.j + 0) (a.m - 0))) (domain-run a.coarse p a.j a.m) start.requires.room_for)

pub put_domain-requires : goal.put_domain-requires
put_domain-requires c = let start = c in
    let a = start.args in
    let p = packed_of a.tree in
    let f = domain_at_lem a.coarse p in
    let v = c.loop-i in
    let go = c.loop-i-test.true in
    let w = left_as _ (ap joined (turn f (a.j + v.i) (a.j + (v.i + 1)) v.i a.m (omega arith) go)) v.invariant in
    record {
      row_fits = start.requires.by_index v.i go;
      room_for = takes_part w;
    }

pub loop-i-preserved : goal.loop-i-preserved
loop-i-preserved c = let start = c in
    let a = start.args in
    let p = packed_of a.tree in
    let f = domain_at_lem a.coarse p in
    let v = c.loop-i in
    let w = left_as _ (ap joined (turn f (a.j + v.i) (a.j + (v.i + 1)) v.i a.m (omega arith) c.loop-i-test.true)) v.invariant in
    (part_done w c.put_domain.ensures)

pub returns : goal.returns
returns c = let start = c in
    let a = start.args in
    let p = packed_of a.tree in
    let f = domain_at_lem a.coarse p in
    let v = c.loop-i in
    nothing_left (left_as [] (ap joined (no-turn f (a.j + v.i) v.i a.m (search rules))) v.invariant)
