-- The halves of a domain, as the cut of its rows leaves them. Assumes nothing.
use mathlib.Core.Path.{◌≡◌}
use Prim.Native.Nat.{ℕ}
use mathlib.Core.List.{List, ◌++◌}
use lib.Ieee.{Float}
use Rattle.definition.specs.Cut.{Domain, longest_axis_lem, cut_keys, left_of, right_of}
use Rattle.rows.specs.Rows.{GoodRows}
use Rattle.halving.specs.Cuts.{halved}
use Rattle.rows.proofs.Good.{good-first, good-other}

module _ {d : ℕ} {cs : List Float} where
  -- both halves of good rows are good
  pub good_left : (q : Domain) → GoodRows d cs q.rows → GoodRows d cs (left_of d cs q).rows
  unfolding left_of cut_keys
  good_left q g = good-first q.rows g _ _

  pub good_right : (q : Domain) → GoodRows d cs q.rows → GoodRows d cs (right_of d cs q).rows
  unfolding right_of cut_keys
  good_right q g = good-other q.rows g _ _

-- the cut of a domain's rows is its left half, then its right half
pub cut-is : (d : ℕ) (cs : List Float) (q : Domain) (rows : List ℕ) → rows ≡ q.rows
    → halved d cs (longest_axis_lem d cs rows) rows ≡ (left_of d cs q).rows ++ (right_of d cs q).rows
unfolding left_of right_of cut_keys halved
cut-is d cs q rows e = rw e
