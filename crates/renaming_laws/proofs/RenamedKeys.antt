-- Rows renamed in their order: what is compared, ranked and chosen by value and row stays, renamed. Assumes nothing.
-- Holds: renamed_key, nearest-kept, farthest-kept, keyed-kept, In, keyed-in, ltb-kept, eqb-kept, member-kept, before-kept,
--   first-kept, other-kept, at-kept
use mathlib.Core.Path.{◌≡◌, sym, ap, ◌∙◌}
use mathlib.Core.Logic.{⊎_elim}
use mathlib.Core.Bool.{Bool, true, not, ◌&&◌, ◌||◌}
use mathlib.Core.List.{List, [], ◌∷◌, map, map-map, Memᴰ}
use Prim.Native.Nat.{ℕ, ◌≤◌, ◌<◌}
use native.Mathlib.Omega.{arith}
use borrow.Author.Tests.{eq-eqb, ne_eqb, lt-ltb, le-ltb}
use lib.ListN.{length}
use lib.Dec.{ltb, eqb}
use lib.Ieee.{Float, lt, eq}
use Rattle.lists.specs.Lists.{keep, member}
use Rattle.lists.specs.Ascends.{All}
use Rattle.lists.proofs.Tests.{le-or-lt, same_or}
use Rattle.lists.proofs.All.{all-mem, all_map}
use Rattle.lists.proofs.Best.{best-map}
use Rattle.lists.proofs.Map.{map_same}
use Rattle.definition.specs.Keys.{Key, keyed, before, rank, first_rows_lem, other_rows, key_at, nearest_row, farthest_row}
use Rattle.renaming_laws.proofs.RenamedLists.{keep-image, count-image, any-image}

-- a key whose row is renamed
abbrev pub renamed_key : (ℕ → ℕ) → Key → Key
renamed_key f p = record { value = p.value; row = f p.row }

-- ---- by value alone: the first of the least, and of the greatest
pub nearest-kept : (f : ℕ → ℕ) (keys : List Key) → 0 < length keys → nearest_row (map (renamed_key f) keys) ≡ f (nearest_row keys)
unfolding nearest_row
nearest-kept f [] l = absurd (omega arith)
nearest-kept f (p ∷ ps) l = ap (λ (q : Key). q.row) (best-map (renamed_key f) (λ (q r : Key). lt q.value r.value) p ps)

pub farthest-kept : (f : ℕ → ℕ) (keys : List Key) → 0 < length keys → farthest_row (map (renamed_key f) keys) ≡ f (farthest_row keys)
unfolding farthest_row
farthest-kept f [] l = absurd (omega arith)
farthest-kept f (p ∷ ps) l = ap (λ (q : Key). q.row) (best-map (renamed_key f) (λ (q r : Key). lt r.value q.value) p ps)

-- rows with values that the renamed rows have too
pub keyed-kept : (f : ℕ → ℕ) (v v' : ℕ → Float) (rows : List ℕ) → ((i : ℕ) → Memᴰ i rows → v' (f i) ≡ v i) → keyed v' (map f rows) ≡ map (renamed_key f) (keyed v rows)
unfolding keyed
keyed-kept f v v' rows h =
    map-map (λ (i : ℕ). record { value = v' i; row = i }) f rows
    ∙ map_same (λ i. record { value = v' (f i); row = f i }) (λ i. record { value = v i; row = f i }) rows (λ i m. ap (λ (x : Float). record { value = x; row = f i }) (h i m))
    ∙ sym (map-map (renamed_key f) (λ (i : ℕ). record { value = v i; row = i }) rows)

-- ---- the rows that are renamed
abbrev pub In : List ℕ → ℕ → Type 0
In all i = member i all ≡ true

pub keyed-in : (all : List ℕ) (v : ℕ → Float) (rows : List ℕ) → All (In all) rows → All (λ (p : Key). In all p.row) (keyed v rows)
unfolding keyed
keyed-in all v rows h = all_map (λ (p : Key). In all p.row) (λ i. record { value = v i; row = i }) rows h

module _ (all : List ℕ) (f : ℕ → ℕ) (order : (i j : ℕ) → member i all ≡ true → member j all ≡ true → i < j → f i < f j) where
  -- ---- two of them compare as before
  pub ltb-kept : (i j : ℕ) → In all i → In all j → ltb (f i) (f j) ≡ ltb i j
  ltb-kept i j p q =
      ⊎_elim
      (λ (h : j ≤ i). ⊎_elim
      (λ (e : j ≡ i). rw (e, le-ltb (f i) (f i) (omega arith), le-ltb i i (omega arith)))
      (λ (n : j ≡ i → ⊥). let less : f j < f i = order j i q p (omega arith) in le-ltb (f i) (f j) (omega arith) ∙ sym (le-ltb i j h))
      (same_or j i))
      (λ (h : i < j). lt-ltb (f i) (f j) (order i j p q h) ∙ sym (lt-ltb i j h))
      (le-or-lt j i)

  pub eqb-kept : (i j : ℕ) → In all i → In all j → eqb (f i) (f j) ≡ eqb i j
  eqb-kept i j p q =
      ⊎_elim
      (λ (e : i ≡ j). eq-eqb (f i) (f j) (ap f e) ∙ sym (eq-eqb i j e))
      (λ (n : i ≡ j → ⊥). ne_eqb (f i) (f j) (λ (e : f i ≡ f j). differ n e) ∙ sym (ne_eqb i j n))
      (same_or i j)
    where
      differ : (i ≡ j → ⊥) → f i ≡ f j → ⊥
      differ n e = ⊎_elim (λ (h : j ≤ i). let less : f j < f i = order j i q p (omega arith) in omega arith) (λ (h : i < j). let less : f i < f j = order i j p q h in omega arith) (le-or-lt j i)

  pub member-kept : (i : ℕ) (xs : List ℕ) → In all i → All (In all) xs → member (f i) (map f xs) ≡ member i xs
  unfolding member
  member-kept i xs p h = any-image f (λ x. eqb x i) (λ x. eqb x (f i)) xs (λ x m. eqb-kept x i (all-mem (In all) xs h x m) p)

  -- ---- keys
  pub before-kept : (p q : Key) → In all p.row → In all q.row → before (renamed_key f p) (renamed_key f q) ≡ before p q
  unfolding before
  before-kept p q i j = ap (λ (b : Bool). lt p.value q.value || (eq p.value q.value && b)) (ltb-kept p.row q.row i j)

  module _ (keys : List Key) (h : All (λ p. In all p.row) keys) where
    rank-kept : (p : Key) → Memᴰ p keys → rank (map (renamed_key f) keys) (renamed_key f p) ≡ rank keys p
    unfolding rank
    rank-kept p m =
        count-image (renamed_key f) (λ q. before q p) (λ q. before q (renamed_key f p)) keys
        (λ q n. before-kept q p (all-mem (λ p. In all p.row) keys h q n) (all-mem (λ p. In all p.row) keys h p m))

    rows-kept : (ps : List Key) → map (λ (p : Key). p.row) (map (renamed_key f) ps) ≡ map f (map (λ (p : Key). p.row) ps)
    rows-kept ps = map-map (λ (p : Key). p.row) (renamed_key f) ps ∙ sym (map-map f (λ (p : Key). p.row) ps)

    pub first-kept : (m : ℕ) → first_rows_lem m (map (renamed_key f) keys) ≡ map f (first_rows_lem m keys)
    unfolding first_rows_lem
    first-kept m =
        ap (map (λ (p : Key). p.row)) (keep-image (renamed_key f) (λ p. ltb (rank keys p) m) (λ p. ltb (rank (map (renamed_key f) keys) p) m) keys (λ p n. ap (λ (k : ℕ). ltb k m) (rank-kept p n)))
        ∙ rows-kept (keep (λ p. ltb (rank keys p) m) keys)

    pub other-kept : (m : ℕ) → other_rows m (map (renamed_key f) keys) ≡ map f (other_rows m keys)
    unfolding other_rows
    other-kept m =
        ap (map (λ (p : Key). p.row)) (keep-image (renamed_key f) (λ p. not (ltb (rank keys p) m)) (λ p. not (ltb (rank (map (renamed_key f) keys) p) m)) keys (λ p n. ap (λ (k : ℕ). not (ltb k m)) (rank-kept p n)))
        ∙ rows-kept (keep (λ p. not (ltb (rank keys p) m)) keys)

    pub at-kept : (m : ℕ) → key_at m (map (renamed_key f) keys) ≡ map (renamed_key f) (key_at m keys)
    unfolding key_at
    at-kept m = keep-image (renamed_key f) (λ p. eqb (rank keys p) m) (λ p. eqb (rank (map (renamed_key f) keys) p) m) keys (λ p n. ap (λ (k : ℕ). eqb k m) (rank-kept p n))
