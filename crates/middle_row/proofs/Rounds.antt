-- A round of the search for the middle row, the rounds and their end. Assumes nothing.
-- Holds: round-finite, round-inside, round-found, round-low, round-high, search-first, search-more, end-asks, end-front,
--   end-inside, end-middle
use mathlib.Core.Path.{◌≡◌, refl, sym, ap, ◌∙◌, subst}
use mathlib.Core.Logic.{⊎_elim}
use mathlib.Core.Bool.{Bool, true, false}
use mathlib.Core.List.Memᴰ
use mathlib.Core.List.{List, [], ◌∷◌, ◌++◌, Memᴰ}
use Prim.Native.Nat.{ℕ, ◌+◌, ◌-◌, ◌*◌, ◌/◌, ◌≤◌, ◌<◌}
use native.Mathlib.Omega.{arith}
use lib.ListN.{length, get_or, set, take, drop, length-set, length-append, get_or-append}
use lib.Seq.{length-take-le, take-length, take-append-le}
use lib.Ieee.{Float}
use Rattle.lists.specs.Lists.{keep, put}
use Rattle.lists.specs.Ascends.{All, Ascends}
use Rattle.lists.proofs.Tests.{same_or}
use Rattle.lists.proofs.Count.{length-keep, length_both}
use Rattle.lists.proofs.Members.{mem-at}
use Rattle.lists.proofs.Put.{set-put, length-put, front-put}
use Rattle.lists.specs.Times.{Once}
use Rattle.lists.specs.Same.{Same}
use Rattle.lists.proofs.Same.{same_length}
use Rattle.rows.specs.Rows.{row_limit, FiniteOn, GoodRows}
use Rattle.argsort.specs.Rows.{NoLater}
use Rattle.sort.specs.Order.{Sorted}
use Rattle.middle_row.specs.Middle.{on_side, MiddleRow, Ranked, Round, Narrows}
use Rattle.rows.proofs.Good.{good-mem, good-keep, good-once, good-finite, good-place, good-small}
use Rattle.middle_row.proofs.Ranks.{ahead_of, ranked-low, ranked-high, sides, ranked-sorted, ranked-middle}

module _ {d : ℕ} {cs : List Float} {axis : ℕ} where
  -- ---- a round: p is one of the rows, and c of them come before it
  module _ {l : List ℕ} {k at : ℕ} (r : Round d cs axis l k at) where
    abbrev p : ℕ
    p = get_or l at 0

    once : Once l
    once = good-once l r.good

    p-mem : Memᴰ p l
    p-mem = mem-at l at 0 r.there

    pub round-finite : FiniteOn d cs axis l
    round-finite = good-finite l r.good axis r.axis_in

    pub round-inside : p * d + axis < length cs
    round-inside = good-place l r.good axis r.axis_in p p-mem

    -- what is kept fits
    short : (q : ℕ → Bool) → length (keep q l) ≤ length l
    short q = omega (arith, length_both q l)

    kept-fits : (q : ℕ → Bool) (after : List ℕ) (n : ℕ) → n ≡ length (keep q l) → after ≡ put l 0 (keep q l) → n ≤ length after
    kept-fits q after n u v = omega (arith, ap length v, length-put l 0 (keep q l) (omega (arith, short q)), short q)

    kept-front :
        (q : ℕ → Bool) (after : List ℕ) (n : ℕ) → n ≡ length (keep q l) → after ≡ put l 0 (keep q l) → take n after ≡ keep q l
    kept-front q after n u v = ap (take n) v ∙ front-put l (keep q l) n u

    module _ (c : ℕ) (e : c ≡ ahead_of d cs axis l p) where
      -- p is the row itself
      pub round-found : c ≡ k → Narrows d cs axis l k (set l 0 p) 1 0
      unfolding Ascends All
      round-found q = record {
        fits = omega (arith, length-set l 0 p, r.there);
        below = omega arith;
        good =
            rw one
            (record { ascends = (tt, tt); each = (good-mem l r.good p p-mem, tt); few = omega arith });
        leads = λ x z.
            let y : x ≡ p = Memᴰ.eq_of_singleton (subst (λ (s : List ℕ). Memᴰ x s) one z.inside) in
            rw y (record { inside = p-mem; ahead = sym e ∙ q });
      }
        where
          one : take 1 (set l 0 p) ≡ p ∷ []
          one = ap (take 1) (set-put l 0 p (omega (arith, r.there))) ∙ front-put l (p ∷ []) 1 refl

      -- the row is among those before p
      pub round-low : k < c → (after : List ℕ) (n : ℕ) → n ≡ length (keep (on_side d cs axis p true) l)
          → after ≡ put l 0 (keep (on_side d cs axis p true) l) → Narrows d cs axis l k after n k
      round-low h after n u v =
          let low : ℕ → Bool = on_side d cs axis p true in
          let f = kept-front low after n u v in
          record {
            fits = kept-fits low after n u v;
            below = omega (arith, length-keep low l);
            good = rw f (good-keep l r.good low);
            leads = λ x z. ranked-low d cs axis l p x k (rw f at z);
          }

      -- the row is among those after p
      pub round-high : (c ≡ k → ⊥) → c ≤ k → (after : List ℕ) (n : ℕ) → n ≡ length (keep (on_side d cs axis p false) l)
          → after ≡ put l 0 (keep (on_side d cs axis p false) l) → Narrows d cs axis l k after n (k - c - 1)
      round-high ne h after n u v =
          let high : ℕ → Bool = on_side d cs axis p false in
          let f = kept-front high after n u v in
          let s = sides d cs axis l round-finite once p p-mem in
          let less : c < k = past ne in
          let back : ahead_of d cs axis l p + 1 + (k - c - 1) ≡ k = omega arith in
          record {
            fits = kept-fits high after n u v;
            below = omega (arith, r.below);
            good = rw f (good-keep l r.good high);
            leads = λ x z.
                subst (λ (y : ℕ). Ranked d cs axis l x y) back
                (ranked-high d cs axis l round-finite once p p-mem x (k - c - 1) (rw f at z));
          }
        where
          past : (c ≡ k → ⊥) → c < k
          past ne = ⊎_elim (λ (y : c ≡ k). absurd (ne y)) (λ w. omega arith) (same_or c k)

  -- ---- the rounds
  pub search-first :
      (l : List ℕ) → 1 ≤ length l → GoodRows d cs l → Narrows d cs axis l (length l / 2) l (length l) (length l / 2)
  search-first l h g = record { fits = omega arith; below = omega arith; good = rw (take-length l) g; leads = λ q r. rw (take-length l) at r }

  -- a round over the first n rows, which come back in front of the others
  pub search-more : {l : List ℕ} {k : ℕ} {l₁ : List ℕ} {n j : ℕ} {l₂ : List ℕ} {o i : ℕ}
      → Narrows d cs axis l k l₁ n j → Narrows d cs axis (take n l₁) j l₂ o i → Narrows d cs axis l k (l₂ ++ drop n l₁) o i
  search-more {l₁} {n} {l₂} {o} a b =
      let front : take o (l₂ ++ drop n l₁) ≡ take o l₂ = take-append-le o l₂ (drop n l₁) b.fits in
      record {
        fits = omega (arith, length-append l₂ (drop n l₁), b.fits);
        below = b.below;
        good = rw front b.good;
        leads = λ q r. a.leads q (b.leads q (rw front at r));
      }

  -- ---- their end: the rows that are left are sorted
  module _ {l l₁ : List ℕ} {n j : ℕ} (A : axis < d) (some : 1 ≤ length l) (g : GoodRows d cs l)
      (N : Narrows d cs axis l (length l / 2) l₁ n j) where
    pub end-asks : FiniteOn d cs axis (take n l₁) × All (λ i. i < row_limit) (take n l₁) × (length (take n l₁) ≤ row_limit)
    end-asks = let k = N.good in (good-finite (take n l₁) k axis A, good-small (take n l₁) k, omega (arith, k.few))

    pub end-front : length (take n l₁) ≡ n
    end-front = length-take-le n l₁ N.fits

    module _ (s : List ℕ) (sorted : Sorted (NoLater d cs axis) s) (same : Same s (take n l₁)) where
      j-in : j < length s
      j-in = omega (arith, same_length s (take n l₁) same, end-front, N.below)

      pub end-inside : j < length (s ++ drop n l₁)
      end-inside = omega (arith, length-append s (drop n l₁), j-in)

      pub end-middle : MiddleRow d cs axis l (get_or (s ++ drop n l₁) j 0)
      end-middle =
          let r =
          ranked-sorted d cs axis s (take n l₁) sorted same (good-once (take n l₁) N.good) j (omega (arith, end-front, N.below)) in
          let q = N.leads (get_or s j 0) r in
          rw (get_or-append s (drop n l₁) 0 j j-in)
          (ranked-middle d cs axis l (good-finite l g axis A) (good-once l g) some (get_or s j 0) q)
