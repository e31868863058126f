use Rattle.bytes_out.proofs.Writing.{Left}
use Rattle.lists.specs.Lists.{joined, from}
use Rattle.stored.specs.File.{point_bytes}
use lib.ListN.{length}
use Prim.Native.Nat.{◌-◌, ◌/◌}
use mathlib.Core.List.{map}
use Rattle.store_bytes.proofs.put_points.Given as goal

abbrev pub invariant-loop-i : goal.invariant-loop-i
invariant-loop-i l =
    let f = point_bytes l.points.dimensions l.points.coordinates.now in
    let n = length l.points.coordinates.now / l.points.dimensions in
    Left l.initial.out l.out (joined (map f (from 0 n))) (map f (from l.i (n - l.i)))
