-- A selection by rank and the rest: how many rows each has, which rows, in which order; and the key in the middle. Assumes nothing.
-- Holds: Sortable, first-half-length, other-half-length, Middle, key-at, key_of, length-keyed, rows-keyed, rank-keyed,
--   first_rows, other-rows, parts-times, first-ascends, other-ascends, sortable
use mathlib.Core.Path.{◌≡◌, refl, ap, ◌∙◌}
use mathlib.Core.Logic.{◌⊎◌}
use mathlib.Core.Bool.{true, false, not}
use mathlib.Core.List.{List, [], ◌∷◌, map, Memᴰ}
use Prim.Native.Nat.{ℕ, suc, ◌+◌, ◌-◌, ◌<◌, min}
use native.Mathlib.Omega.{arith}
use borrow.Author.Tests.{eqb-true}
use lib.Dec.{ltb, eqb}
use lib.ListN.{length, length-map}
use lib.Ieee.{Float, is_nan}
use Rattle.lists.specs.Lists.{keep, count}
use Rattle.lists.specs.Ascends.{All, Ascends}
use Rattle.lists.proofs.Count.{count_map, count-sides, keep-map, length-keep, count_next}
use Rattle.lists.proofs.Members.{keep-mem}
use Rattle.lists.proofs.Ascends.{ascends-keep}
use Rattle.lists.specs.Times.{times, Once}
use Rattle.lists.proofs.Times.{times-one, times-cons, from-times, once-tail, once-head, times-mem}
use Rattle.lists.proofs.Rank.{Compared, first_count, ahead}
use Rattle.lists.proofs.Take.{single}
use Rattle.definition.specs.Keys.{Key, keyed, before, rank, first_rows_lem, other_rows, key_at}
use Rattle.definition.proofs.Order.{before-irr, before-trans, before-or}

-- ---- keys of which each two compare

-- each two keys compare
abbrev pub Sortable : List Key → Type 0
Sortable keys = Compared before keys

-- the selection has m rows, or all where there are fewer; the rest has the others
pub first-half-length : (m : ℕ) (keys : List Key) → Sortable keys → length (first_rows_lem m keys) ≡ min m (length keys)
unfolding first_rows_lem rank
first-half-length m keys s =
    length-map (keep (λ p. ltb (rank keys p) m) keys) (λ p. p.row) ∙ Rattle.lists.proofs.Rank.first-length before before-irr before-trans keys s m

pub other-half-length : (m : ℕ) (keys : List Key) → Sortable keys → length (other_rows m keys) ≡ length keys - m
unfolding other_rows rank
other-half-length m keys s =
    length-map (keep (λ p. not (ltb (rank keys p) m)) keys) (λ p. p.row) ∙ Rattle.lists.proofs.Rank.other_length before before-irr before-trans keys s m

-- the key with exactly m others before it: there is one, and no other
pub record Middle (m : ℕ) (keys : List Key) : Type 0 where
  pub key : Key
  pub alone : key_at m keys ≡ key ∷ []
  pub inside : Memᴰ key keys
  pub ranked : rank keys key ≡ m

pub key-at : (m : ℕ) (keys : List Key) → Sortable keys → m < length keys → Middle m keys
unfolding key_at rank
key-at m keys s h =
    let a = first_count before before-irr before-trans keys s m in
    let b = first_count before before-irr before-trans keys s (suc m) in
    let c = count_next (ahead before keys) m keys in
    let e = single (key_at m keys) (length-keep (λ p. eqb (rank keys p) m) keys ∙ omega arith) in
    go e.0 e.1
  where
    go : (p : Key) → key_at m keys ≡ p ∷ [] → Middle m keys
    go p e =
        let k = keep-mem (λ q. eqb (rank keys q) m) keys {x = p} (rw e (Memᴰ.head refl)) in
        record { key = p; alone = e; inside = k.0; ranked = eqb-true (rank keys p) m k.1 }

-- ---- rows with their values
module _ (v : ℕ → Float) where
  -- a row with its value
  abbrev pub key_of : ℕ → Key
  key_of i = record { value = v i; row = i }

  pub length-keyed : (rows : List ℕ) → length (keyed v rows) ≡ length rows
  unfolding keyed
  length-keyed rows = length-map rows key_of

  pub rows-keyed : (rows : List ℕ) → map (λ (p : Key). p.row) (map key_of rows) ≡ rows
  rows-keyed [] = refl
  rows-keyed (i ∷ rows) = ap (λ (l : List ℕ). i ∷ l) (rows-keyed rows)

  -- how many of the rows come before a key
  pub rank-keyed : (rows : List ℕ) (p : Key) → rank (keyed v rows) p ≡ count (λ i. before (key_of i) p) rows
  unfolding rank keyed
  rank-keyed rows p = count_map key_of (λ q. before q p) rows

  -- the selection, and the rest, as rows that are kept
  pub first_rows : (m : ℕ) (rows : List ℕ) → first_rows_lem m (keyed v rows) ≡ keep (λ i. ltb (rank (keyed v rows) (key_of i)) m) rows
  unfolding first_rows_lem keyed
  first_rows m rows =
      ap (map (λ (p : Key). p.row)) (keep-map key_of (λ p. ltb (rank (keyed v rows) p) m) rows)
      ∙ rows-keyed (keep (λ i. ltb (rank (keyed v rows) (key_of i)) m) rows)

  pub other-rows : (m : ℕ) (rows : List ℕ) → other_rows m (keyed v rows) ≡ keep (λ i. not (ltb (rank (keyed v rows) (key_of i)) m)) rows
  unfolding other_rows keyed
  other-rows m rows =
      ap (map (λ (p : Key). p.row)) (keep-map key_of (λ p. not (ltb (rank (keyed v rows) p) m)) rows)
      ∙ rows-keyed (keep (λ i. not (ltb (rank (keyed v rows) (key_of i)) m)) rows)

  -- together they hold each row as often as the list
  pub parts-times : (rows : List ℕ) (m r : ℕ) → times r (first_rows_lem m (keyed v rows)) + times r (other_rows m (keyed v rows)) ≡ times r rows
  parts-times rows m r = rw (first_rows m rows, other-rows m rows) (count-sides (λ x. eqb x r) (λ i. ltb (rank (keyed v rows) (key_of i)) m) rows)

  -- both ascend if the list does
  pub first-ascends : (m : ℕ) (rows : List ℕ) → Ascends rows → Ascends (first_rows_lem m (keyed v rows))
  first-ascends m rows h = rw (first_rows m rows) (ascends-keep (λ i. ltb (rank (keyed v rows) (key_of i)) m) rows h)

  pub other-ascends : (m : ℕ) (rows : List ℕ) → Ascends rows → Ascends (other_rows m (keyed v rows))
  other-ascends m rows h = rw (other-rows m rows) (ascends-keep (λ i. not (ltb (rank (keyed v rows) (key_of i)) m)) rows h)

  -- rows without repeats whose values are no NaN can be sorted
  met : (x : ℕ) (ys : List ℕ) → is_nan (v x) ≡ false → All (λ r. (x ≡ r → ⊥) × (is_nan (v r) ≡ false)) ys
      → All (λ (p : Key). (before (key_of x) p ≡ true) ⊎ (before p (key_of x) ≡ true)) (map key_of ys)
  unfolding All
  met x [] f h = tt
  met x (y ∷ ys) f h = (before-or (key_of x) (key_of y) f h.0.1 h.0.0, met x ys f h.1)

  pub sortable : (rows : List ℕ) → Once rows → ((r : ℕ) → 0 < times r rows → is_nan (v r) ≡ false) → Sortable (keyed v rows)
  unfolding keyed
  sortable [] o h = tt
  sortable (x ∷ xs) o h = (
    met x xs (h x (omega (arith, times-one x xs)))
        (from-times (λ r. (x ≡ r → ⊥) × (is_nan (v r) ≡ false)) xs (λ r m. (λ e. once-head x xs o (rw e (times-mem xs r m)), h r (omega (arith, times-cons r x xs))))),
    sortable xs (once-tail x xs o) (λ r m. h r (omega (arith, times-cons r x xs))),
  )
