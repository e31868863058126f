use mathlib.Core.Path.{◌≡◌}
use Prim.Native.Nat.{◌-◌}
use Rattle.tree_lists.specs.Lent.{SameLists}
use Rattle.load_lists.specs.Places.{packed_in}
use Rattle.load_lists.proofs.DomainsLoop.{Inv}
use Rattle.load_lists.proofs.put_domains.Given as goal

abbrev pub invariant-loop : goal.invariant-loop
invariant-loop l = Inv l.dimensions l.coarse l.m l.bytes l.initial.next l.next (packed_in l.initial.lists l.dimensions) (packed_in l.lists l.dimensions) (l.m - l.counter)
    × SameLists l.initial.lists l.lists × (l.lists.level_points.now ≡ l.initial.lists.level_points.now)
