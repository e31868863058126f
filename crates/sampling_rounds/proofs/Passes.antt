-- One pass over the rows: the values are lessened, and the greatest of them is found with a bound of those before it.
-- Assumes nothing.
-- Holds: PassedTo, passed-more, lessened-at, pair-good, lessened-kept, lessened-good, Seen, seen-greater, seen_other, seen_all
use mathlib.Core.Path.{◌≡◌, refl, sym, ap₂, ◌∙◌}
use mathlib.Core.Logic.{◌⊎◌, inl, inr, ⊎_elim}
use mathlib.Core.Bool.{Bool, true, false, cond}
use mathlib.Core.List.{List}
use Prim.Native.Nat.{ℕ, ◌+◌, ◌≤◌, ◌<◌}
use native.Mathlib.Omega.{arith}
use borrow.Author.Count.{below_more}
use lib.ListN.{length, get_or, set, length-set}
use lib.Seq.{get_or-set_other}
use lib.Ieee.{Float, nan, lt}
use Rattle.lists.proofs.From.{noted_more}
use Rattle.definition.specs.Points.{rows_sq}
use Rattle.root_laws.specs.Sorts.{good}
use Rattle.definition_laws.proofs.Finite.{rows-sq-good}
use Rattle.rows.specs.Rows.{GoodRows}
use Rattle.rows.proofs.Good.{good-at}
use Rattle.sampling_rounds.specs.Rounds.{lesser, lessened, minus_one, KeptSquare, Held, Peaked}
use Rattle.sampling_rounds.proofs.Orders.{kept-irr, kept-le, kept-asym, kept-least, lesser-kept}

-- ---- the elements of l are v below i, and from i on as they were
pub record PassedTo (v : ℕ → Float) (l₀ l : List Float) (i : ℕ) : Type 0 where
  pub same : length l ≡ length l₀
  pub done : (k : ℕ) → k < i → get_or l k nan ≡ v k
  pub left : (k : ℕ) → i ≤ k → get_or l k nan ≡ get_or l₀ k nan

module _ (v : ℕ → Float) (l₀ : List Float) where
  pub passed-more : (l : List Float) (i : ℕ) (x : Float) → PassedTo v l₀ l i → i < length l → x ≡ v i → PassedTo v l₀ (set l i x) (i + 1)
  passed-more l i x p h e =
      record {
        same = length-set l i x ∙ p.same;
        done = noted_more v l i x nan h p.done e;
        left = λ k b. get_or-set_other l i k x nan (λ q. omega arith) ∙ p.left k (omega arith);
      }

-- ---- the squares with one row more taken in
module _ (d : ℕ) (cs : List Float) (rows : List ℕ) (last : ℕ) (l : List Float) where
  -- what is stored at i
  pub lessened-at : (i : ℕ) (x y z : Float) → x ≡ rows_sq d cs (get_or rows last 0) (get_or rows i 0) → y ≡ get_or l i nan → z ≡ lesser x y → z ≡ lessened d cs rows last l i
  unfolding lessened
  lessened-at i x y z e f g = g ∙ ap₂ lesser e f

  module _ (g : GoodRows d cs rows) (h : last < length rows) where
    pub pair-good : (i : ℕ) → i < length rows → good (rows_sq d cs (get_or rows last 0) (get_or rows i 0)) ≡ true
    pair-good i b = rows-sq-good d cs (get_or rows last 0) (get_or rows i 0) (good-at rows g last h).finite_row (good-at rows g i b).finite_row

    pub lessened-kept : ((i : ℕ) → i < length rows → KeptSquare (get_or l i nan)) → (i : ℕ) → i < length rows → KeptSquare (lessened d cs rows last l i)
    unfolding lessened
    lessened-kept k i b = lesser-kept (rows_sq d cs (get_or rows last 0) (get_or rows i 0)) (get_or l i nan) (pair-good i b) (k i b)

    pub lessened-good : (i : ℕ) → i < length rows → good (get_or l i nan) ≡ true → good (lessened d cs rows last l i) ≡ true
    unfolding lessened
    lessened-good i b e = go (lt (rows_sq d cs (get_or rows last 0) (get_or rows i 0)) (get_or l i nan))
      where
        go : (t : Bool) → good (cond t (rows_sq d cs (get_or rows last 0) (get_or rows i 0)) (get_or l i nan)) ≡ true
        go true = pair-good i b
        go false = e

-- ---- `most` is the greatest of the values below i, and the one at `place`; it is -1 before there is one
pub record Seen (v : ℕ → Float) (i place : ℕ) (most second : Float) : Type 0 where
  pub kept : KeptSquare most
  pub greatest : (j : ℕ) → j < i → lt most (v j) ≡ false
  pub earlier : Held v place second
  pub found : ((place ≡ 0) × (most ≡ minus_one)) ⊎ ((place < i) × (most ≡ v place))

module _ (v : ℕ → Float) where
  module _ (i place : ℕ) (most second : Float) (s : Seen v i place most second) where
    -- the value at i is greater than those before it
    pub seen-greater : (x : Float) → x ≡ v i → ((j : ℕ) → j ≤ i → KeptSquare (v j)) → lt most x ≡ true → Seen v (i + 1) i x most
    seen-greater x e k t =
        let h : lt most (v i) ≡ true = rw e at t in
        rw e (record {
          kept = k i (omega arith);
          greatest =
              below_more (λ j. lt (v i) (v j) ≡ false) i
              (λ j l. kept-le (v j) most (v i) (k j (omega arith)) s.kept (k i (omega arith)) (s.greatest j l) (kept-asym most (v i) s.kept (k i (omega arith)) h))
              (kept-irr (v i) (k i (omega arith)));
          earlier = record { kept = s.kept; bound = s.greatest };
          found = inr (omega arith, refl);
        })

    pub seen_other : (x : Float) → x ≡ v i → lt most x ≡ false → Seen v (i + 1) place most second
    seen_other x e t =
        let h : lt most (v i) ≡ false = rw e at t in
        record {
          kept = s.kept;
          greatest = below_more (λ j. lt most (v j) ≡ false) i s.greatest h;
          earlier = s.earlier;
          found = ⊎_elim (λ e. inl e) (λ f. inr (omega (arith, f.0), f.1)) s.found;
        }

  pub seen_all : (n place : ℕ) (most second : Float) → Seen v n place most second → 0 < n → ((j : ℕ) → j < n → KeptSquare (v j)) → Peaked v n place most second
  seen_all n place most second s p k =
      ⊎_elim
      (λ e. record {
        inside = rw e.0 p;
        here = e.1 ∙ sym (rw e.0 (kept-least (v 0) (k 0 p) (rw e.1 at (s.greatest 0 p))));
        greatest = s.greatest;
        earlier = s.earlier;
      })
      (λ f. record { inside = f.0; here = f.1; greatest = s.greatest; earlier = s.earlier })
      s.found
