-- From a list of numbers, in order and without repeats, to what the leaves borrow. Assumes nothing.
-- Holds: same-distinct, small-lists, distinct-codes, distinct-rows, distinct-length, distinct-inside
use mathlib.Core.Path.{◌≡◌, sym, ap, ◌∙◌}
use mathlib.Core.List.{List, map, Memᴰ}
use Prim.Native.Nat.{ℕ, ◌%◌, ◌≤◌, ◌<◌}
use native.Mathlib.Omega.{arith}
use lib.ListN.{length, get_or}
use Rattle.lists.specs.Lists.{joined}
use Rattle.lists.specs.Ascends.{All}
use Rattle.lists.proofs.All.{all-imp}
use Rattle.lists.proofs.Members.{mem-at}
use Rattle.lists.specs.Same.{Same}
use Rattle.lists.proofs.Same.{same_mem, same_length}
use Rattle.lists.proofs.Ascends.{ascends-unique}
use Rattle.rows.specs.Rows.{most_leaves}
use Rattle.overlaps.specs.Codes.{codes_from, coded_rows, Distinct, Positions, Encoded}
use Rattle.overlaps.proofs.Codes.{codes-ascend, rows-codes, length-codes}

-- the same numbers in another order
pub same-distinct : (old mid new : List ℕ) → Same mid old → Distinct mid new → Distinct old new
same-distinct old mid new s d = record {
  ascends = d.ascends;
  more = λ z i. d.more z (same_mem old mid (λ p. sym (s p)) z i);
  less = λ z i. same_mem mid old s z (d.less z i);
  short = (let h = d.short in omega (arith, same_length mid old s));
}

module _ (m n : ℕ) (few : n ≤ most_leaves) (codes : List ℕ) (ls : List (List ℕ)) (H : Encoded m n codes ls) where
  -- positions below n are below 2 ^ 21
  pub small-lists : Positions m most_leaves ls
  small-lists =
      record {
        number = H.lists.number;
        ascend = H.lists.ascend;
        below = all-imp (λ l. All (λ q. q < n) l) (λ l. All (λ q. q < most_leaves) l) ls (λ l a. all-imp (λ q. q < n) (λ q. q < most_leaves) l (λ q g. omega arith) a) H.lists.below;
      }

  module _ (new : List ℕ) (d : Distinct codes new) where
    -- THE LAW: in order and without repeats they stand leaf by leaf
    pub distinct-codes : new ≡ codes_from 0 ls
    distinct-codes =
        ascends-unique new (codes_from 0 ls) d.ascends (codes-ascend 0 ls small-lists.below small-lists.ascend)
        (λ z i. H.more z (d.less z i)) (λ z i. d.more z (H.less z i))

    pub distinct-rows : (active : List ℕ) → coded_rows active new ≡ joined (map (map (λ q. get_or active q 0)) ls)
    distinct-rows active = ap (coded_rows active) distinct-codes ∙ rows-codes active 0 ls small-lists.below

    pub distinct-length : length new ≡ length (joined ls)
    distinct-length = ap length distinct-codes ∙ length-codes 0 ls

-- each number's position is that of an active row
pub distinct-inside : (codes new : List ℕ) (n : ℕ) → Distinct codes new → ((z : ℕ) → Memᴰ z codes → z % most_leaves < n) → (k : ℕ) → k < length new → get_or new k 0 % most_leaves < n
distinct-inside codes new n d f k h = f (get_or new k 0) (d.less (get_or new k 0) (mem-at new k 0 h))
