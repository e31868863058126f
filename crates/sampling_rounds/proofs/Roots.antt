-- The first place with the greatest root, found by few roots: roots keep the order of their squares. Assumes nothing.
-- Holds: root_below, Looked, looked-none, looked-near, looked-low, looked-less, looked-here, none_before, less-before,
--   greatest-good, peak-worst, first-chosen
use mathlib.Core.Path.{◌≡◌, refl, ap, ◌∙◌, subst}
use mathlib.Core.Logic.{⊎_elim, inl, inr}
use mathlib.Core.Bool.{true, false}
use mathlib.Core.List.{List}
use Prim.Native.Nat.{ℕ, ◌+◌, ◌*◌, ◌≤◌, ◌<◌}
use native.Mathlib.Omega.{arith}
use native.Mathlib.Nat.{zero-mul}
use borrow.Author.Tests.{le-ltb}
use borrow.Author.Count.{below_none, below_more}
use lib.ListN.{length, get_or, set}
use lib.Seq.{get_or-set_same, get_or-set_other}
use lib.Ieee.{Float, nan, up, down, lt, of_bits}
use Rattle.lists.proofs.Tests.{clash}
use Rattle.definition.specs.Number.{plus_zero, square_root_lem}
use Rattle.root_laws.specs.Sorts.{good}
use Rattle.root_laws.proofs.Order.{lt_irrefl, le-le, le-lt, lt-le, view, GoodFloat, top, num}
use Rattle.root_laws.proofs.Values.{root-good, root-order}
use Rattle.sampling_rounds.specs.Rounds.{minus_one, KeptSquare, Held, Peaked, Earliest, Chosen, Worst}
use Rattle.sampling_rounds.proofs.Orders.{one_below}

-- every square up to one with a lesser root has a lesser root
pub root_below : (r y : Float) → good r ≡ true → good y ≡ true → lt (square_root_lem y) r ≡ true → (x : Float) → good x ≡ true → lt y x ≡ false → lt (square_root_lem x) r ≡ true
root_below r y gr gy h x gx l = le-lt (square_root_lem x) (square_root_lem y) r (root-good x gx) (root-good y gy) gr (root-order x y gx gy l) h

zero_of : {x : Float} → GoodFloat x → lt x plus_zero ≡ false
unfolding lt of_bits
zero_of top = refl
zero_of (num m e) = le-ltb (m * up e * 1) (0 * down e) (omega (arith, zero-mul (down e)))

not_negative : (x : Float) → good x ≡ true → lt x plus_zero ≡ false
not_negative x g = zero_of (view x g)

-- ---- looking back: the squares passed have roots less than r, and so has every square up to `low`
pub record Looked (v : ℕ → Float) (r low : Float) (i : ℕ) : Type 0 where
  pub kept : KeptSquare low
  pub passed : (j : ℕ) → j < i → good (v j) ≡ true → lt (square_root_lem (v j)) r ≡ true
  pub lower : (x : Float) → good x ≡ true → lt low x ≡ false → lt (square_root_lem x) r ≡ true

module _ (v : ℕ → Float) (r : Float) where
  -- no square is up to -1
  pub looked-none : Looked v r minus_one 0
  looked-none = record { kept = inl refl; passed = below_none _; lower = λ x g h. clash (one_below x g) h }

  pub looked-near : (y : Float) → good r ≡ true → good y ≡ true → lt (square_root_lem y) r ≡ true → Looked v r y 0
  looked-near y gr gy h = record { kept = inr gy; passed = below_none _; lower = root_below r y gr gy h }

  module _ (low : Float) (i : ℕ) (s : Looked v r low i) where
    pub looked-low : lt low (v i) ≡ false → Looked v r low (i + 1)
    looked-low h =
        record {
          kept = s.kept;
          passed = below_more (λ j. good (v j) ≡ true → lt (square_root_lem (v j)) r ≡ true) i s.passed (λ g. s.lower (v i) g h);
          lower = s.lower;
        }

    pub looked-less : good r ≡ true → good (v i) ≡ true → lt (square_root_lem (v i)) r ≡ true → Looked v r (v i) (i + 1)
    looked-less gr g h =
        record {
          kept = inr g;
          passed = below_more (λ j. good (v j) ≡ true → lt (square_root_lem (v j)) r ≡ true) i s.passed (λ _. h);
          lower = root_below r (v i) gr g h;
        }

-- ---- the end of the look: at i, or at `best` itself
pub looked-here : (v : ℕ → Float) (best i : ℕ) (low : Float) → Looked v (square_root_lem (v best)) low i → i ≤ best → good (v i) ≡ true → lt (square_root_lem (v i)) (square_root_lem (v best)) ≡ false → Earliest v best i
looked-here v best i low s h g l = record { within = h; free = g; same = l; earlier = s.passed }

module _ (v : ℕ → Float) (best : ℕ) (g : good (v best) ≡ true) where
  itself : ((j : ℕ) → j < best → good (v j) ≡ true → lt (square_root_lem (v j)) (square_root_lem (v best)) ≡ true) → Earliest v best best
  itself h =
      record {
        within = omega arith;
        free = g;
        same = lt_irrefl (square_root_lem (v best)) (root-good (v best) g);
        earlier = h;
      }

  -- ---- what the second square tells
  module _ (second : Float) (h : Held v best second) where
    chosen-before : second ≡ minus_one → Earliest v best best
    chosen-before e = itself (λ j b f. clash (one_below (v j) f) (rw e at (h.bound j b)))

    -- where it is below zero, each row before is chosen
    pub none_before : lt second plus_zero ≡ true → Earliest v best best
    none_before l =
        ⊎_elim chosen-before (λ f. clash l (not_negative second f)) h.kept

    -- where its root is less, each root before is less
    pub less-before : lt (square_root_lem second) (square_root_lem (v best)) ≡ true → Earliest v best best
    less-before l =
        ⊎_elim chosen-before
        (λ f. itself (λ j b gj. root_below (square_root_lem (v best)) second (root-good (v best) g) f l (v j) gj (h.bound j b)))
        h.kept

-- ---- the first of those with the greatest root, once it is chosen
module _ (v : ℕ → Float) (n best : ℕ) (most second : Float) (p : Peaked v n best most second) where
  -- the greatest value is a square where one of them is
  pub greatest-good : ((i : ℕ) → i < n → KeptSquare (v i)) → (i : ℕ) → i < n → good (v i) ≡ true → good (v best) ≡ true
  greatest-good k i h g =
      ⊎_elim (λ e. clash (one_below (v i) g) (subst (λ (x : Float). lt x (v i) ≡ false) (p.here ∙ e) (p.greatest i h))) (λ f. f) (k best p.inside)

  -- its root is the greatest root
  pub peak-worst : (x : Float) → good (v best) ≡ true → x ≡ square_root_lem most → Worst v n x
  peak-worst x g e =
      let f : x ≡ square_root_lem (v best) = e ∙ ap square_root_lem p.here in
      record {
        place = best;
        inside = p.inside;
        free = g;
        here = f;
        greatest = λ j b gj. rw f (root-order (v j) (v best) gj g (rw p.here at (p.greatest j b)));
      }

  pub first-chosen : (l : List Float) (r : ℕ) → ((i : ℕ) → i < n → get_or l i nan ≡ v i) → n ≤ length l → good (v best) ≡ true
      → Earliest (λ i. get_or l i nan) best r → Chosen v n r (set l r minus_one)
  first-chosen l r same h g e =
      let i : r < n = omega (arith, e.within, p.inside) in
      let free : good (v r) ≡ true = rw (same r i) at e.free in
      let level : lt (square_root_lem (v r)) (square_root_lem (v best)) ≡ false = rw (same r i, same best p.inside) at e.same in
      let rb = root-good (v best) g in
      let rr = root-good (v r) free in
      record {
        inside = i;
        free = free;
        farthest = λ j b gj.
            le-le (square_root_lem (v j)) (square_root_lem (v best)) (square_root_lem (v r)) (root-good (v j) gj) rb rr
            (root-order (v j) (v best) gj g (rw p.here at (p.greatest j b))) level;
        first = λ j b gj.
            let q = same j (omega arith) in
            lt-le (square_root_lem (v j)) (square_root_lem (v best)) (square_root_lem (v r)) (root-good (v j) gj) rb rr
            (rw (q, same best p.inside) at (e.earlier j b (rw q gj))) level;
        marked = get_or-set_same l r minus_one nan (omega arith);
        others = λ j b ne. get_or-set_other l r j minus_one nan ne ∙ same j b;
      }
