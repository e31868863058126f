-- `visit` recurses on places further behind in the record.
use Prim.Native.Nat.{◌-◌}
use lib.ListN.{length}
use Rattle.search.proofs.Search.+visit.Given as goal

abbrev pub decreases-visit : goal.decreases-visit
decreases-visit l = length l.self.filed.cuts.now - l.place.at
