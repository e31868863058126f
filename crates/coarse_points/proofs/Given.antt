-- What a level has at hand is what the next level's rows ask: the leaves of a cut keep the order of the active rows. Assumes nothing.
use mathlib.Core.Path.{◌≡◌}
use mathlib.Core.List.{List, [], map}
use Prim.Native.Nat.{ℕ, ◌+◌, ◌≤◌, ◌<◌}
use native.Mathlib.Omega.{arith}
use lib.Ieee.{Float}
use Rattle.lists.specs.Ascends.{All, Ascends}
use Rattle.lists.proofs.All.{all-at, all_map}
use Rattle.definition.specs.Cut.{Domain, leaves_of}
use Rattle.definition.proofs.Cuts.{leaves-ascend}
use Rattle.rows.specs.Rows.{GoodRows}
use Rattle.packed.specs.Reading.{own_at, read_own}
use Rattle.overlap_owners.specs.Own.{Leaves}
use Rattle.packed.proofs.OwnRows.{read_length, read_at}
use Rattle.coarse_points.specs.Sent.{SendsUp}

-- THE LAW that the level cites: the leaves that the domain rows name are those of the cut
pub sends-of : (d : ℕ) (cs : List Float) (leaf : ℕ) (active I D : List ℕ) (first m : ℕ) → d ≤ 3 → GoodRows d cs active
    → Leaves active I D first m
    → read_own I D first m ≡ map (λ q. q.rows) (leaves_of d cs leaf active) → SendsUp d cs active I D first m
sends-of d cs leaf active I D first m axes rows leaves e = record {
  axes = axes;
  rows = rows;
  leaves = leaves;
  ascend = each;
}
  where
    all : All (λ l. Ascends l) (read_own I D first m)
    all = rw e (all_map (λ l. Ascends l) (λ (q : Domain). q.rows) (leaves_of d cs leaf active) (leaves-ascend d cs leaf active leaves.ascends))

    each : (l : ℕ) → l < m → Ascends (own_at I D (first + l))
    each l h = rw (read_at I D first m l h) at (all-at (λ l. Ascends l) (read_own I D first m) l [] all (omega (arith, read_length I D first m)))
