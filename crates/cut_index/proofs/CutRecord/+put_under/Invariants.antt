-- `put_under` recurses on the two halves of a domain, behind whose nodes fewer are left.
use Prim.Native.Nat.{◌-◌}
use lib.ListN.{length}
use Rattle.cut_index.proofs.CutRecord.+put_under.Given as goal

abbrev pub decreases-put_under : goal.decreases-put_under
decreases-put_under l = length l.self.cuts.now - l.at
