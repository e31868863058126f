-- All rows of a list of finite coordinates are good rows. Assumes nothing.
use mathlib.Core.Path.{◌≡◌}
use mathlib.Core.Bool.{true}
use mathlib.Core.List.{List}
use Prim.Native.Nat.{ℕ, suc, ◌+◌, ◌*◌, ◌≤◌, ◌<◌}
use native.Mathlib.Nat.{suc-mul, mul-le-mul_right}
use native.Mathlib.Omega.{arith}
use lib.ListN.{length, get_or}
use lib.Ieee.{Float, nan}
use lib.Ieee.Scale.{finite}
use Rattle.lists.specs.Lists.{from}
use Rattle.lists.proofs.From.{all_from, length_from}
use Rattle.lists.proofs.Ascends.{ascends-from}
use Rattle.definition.specs.Refusals.{most_points}
use Rattle.rows.specs.Rows.{Inside, GoodRow, GoodRows}

pub all-rows-good : (d : ℕ) (cs : List Float) (n : ℕ) → n ≤ most_points → n * d ≤ length cs → ((i : ℕ) → i < length cs → finite (get_or cs i nan) ≡ true)
    → GoodRows d cs (from 0 n)
all-rows-good d cs n few fits f = record {
  ascends = ascends-from 0 n;
  each = all_from (GoodRow d cs) 0 n (λ i l h. row i (omega arith));
  few = omega (arith, length_from 0 n);
}
  where
    here : (i : ℕ) → i < n → Inside d cs i
    here i h = let s : suc i ≤ n = omega arith in omega (arith, mul-le-mul_right d s, suc-mul i d)

    row : (i : ℕ) → i < n → GoodRow d cs i
    row i h = let e = here i h in record { inside = e; finite_row = λ a b. f (i * d + a) (omega arith); small = omega arith }
