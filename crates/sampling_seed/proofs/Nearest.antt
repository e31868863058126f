-- The seed: the centroid of the rows, and the first row nearest to it, found by few roots. Assumes nothing.
-- Holds: Summed, summed-more, summed-all, from_center, center-square, center-good, Nearest, infinity, nearest-start, nearest-far,
--   nearest-tie, nearest-less, nearest-end
use mathlib.Core.Path.{◌≡◌, refl, sym, ap, ◌∙◌}
use mathlib.Core.Bool.{true, false, true≢false}
use mathlib.Core.List.{List}
use Prim.Native.Nat.{ℕ, zero, suc, ◌+◌, ◌-◌, ◌*◌, ◌≤◌, ◌<◌}
use native.Mathlib.Nat.{zero-add, le_trans}
use native.Mathlib.Numerals.{add-one}
use native.Mathlib.Omega.{arith}
use borrow.Author.Count.{below_none, below_more}
use lib.Dec.{lit≤}
use lib.ListN.{length, get_or, drop, take}
use lib.Seq.{drop-cons, drop-length, get_or-take}
use Rattle.lists.specs.Lists.{part}
use lib.Ieee.{Float, nan, inf, fin, binary64, lt, of_bits}
use Rattle.lists.proofs.All.{all-of}
use Rattle.lists.proofs.Members.{split_at, each-before, each-behind}
use Rattle.definition.specs.Number.{plus_zero, plus, over, square_root_lem}
use Rattle.definition.specs.Keys.{keyed, nearest_row}
use Rattle.definition.specs.Points.{point_at, coordinate, column, distance_sq_lem, distance}
use Rattle.definition.specs.Sampling.{sum_from, centroid, from_centroid, seed_of}
use Rattle.root_laws.specs.Sorts.{good}
use Rattle.root_laws.proofs.Order.{lt_irrefl, lt-asym, le-le, lt-le}
use Rattle.root_laws.proofs.Values.{root-good, root-order, root-inf}
use Rattle.root_laws.proofs.Operations.{inf-good}
use Rattle.definition_laws.proofs.Finite.{centroid-sq-good}
use Rattle.distances.proofs.Turns.{distance-same, at-part}
use Rattle.rows.specs.Rows.{GoodRows}
use Rattle.rows.proofs.Good.{good-at, good-mem}
use Rattle.definition_laws.proofs.Choice.{nearest-is}

-- ---- the sum of a column, from row i on

module _ (d : ℕ) (cs : List Float) (rows : List ℕ) (a : ℕ) where
  -- s is the sum of the coordinates before row i
  pub record Summed (s : Float) (i : ℕ) : Type 0 where
    pub rest : sum_from s (column d cs (drop i rows) a) ≡ sum_from plus_zero (column d cs rows a)

  pub summed-more : (s : Float) (i : ℕ) → i < length rows → Summed s i → Summed (plus s (coordinate d cs (get_or rows i 0) a)) (i + 1)
  unfolding sum_from
  summed-more s i h m =
      record {
        rest =
            ap (λ (k : ℕ). sum_from (plus s (coordinate d cs (get_or rows i 0) a)) (column d cs (drop k rows) a)) (add-one i)
            ∙ sym (ap (λ (l : List ℕ). sum_from s (column d cs l a)) (drop-cons rows i 0 h))
            ∙ m.rest;
      }

  pub summed-all : (s : Float) (i : ℕ) → i ≡ length rows → Summed s i → over s (length rows) ≡ centroid d cs rows a
  unfolding sum_from centroid
  summed-all s i e m =
      ap (λ (x : Float). over x (length rows))
      (sym (ap (λ (l : List ℕ). sum_from s (column d cs l a)) (ap (λ (k : ℕ). drop k rows) e ∙ drop-length rows)) ∙ m.rest)

-- ---- the squared distance from a list that holds the centroid

-- the squared distance of the row at place i to the centroid
unfoldable pub from_center : ℕ → List Float → List ℕ → ℕ → Float
from_center d cs rows i = distance_sq_lem d (centroid d cs rows) (coordinate d cs (get_or rows i 0))

pub center-square : (d : ℕ) (cs : List Float) (rows : List ℕ) (center p q : List Float) (i : ℕ) (s : Float)
    → ((a : ℕ) → a < d → get_or center a nan ≡ centroid d cs rows a) → p ≡ take d center → length p ≡ d → q ≡ part cs (get_or rows i 0 * d) d
    → s ≡ distance_sq_lem (length p) (point_at p 0) (point_at q 0) → s ≡ from_center d cs rows i
unfolding from_center
center-square d cs rows center p q i s h e n f r =
    r
    ∙ rw n
    (distance-same d _ _ _ _
    (λ a b. ap (λ (k : ℕ). get_or p k nan) (zero-add a) ∙ ap (λ (l : List Float). get_or l a nan) e ∙ get_or-take d center a nan b ∙ h a b)
    (at-part cs q (get_or rows i 0 * d) d f))

pub center-good : (d : ℕ) (cs : List Float) (rows : List ℕ) → GoodRows d cs rows → 0 < length rows → (i : ℕ) → i < length rows
    → good (from_center d cs rows i) ≡ true
unfolding from_center
center-good d cs rows g p i h =
    centroid-sq-good d cs rows (λ j m. (good-mem rows g j m).finite_row) p (le_trans g.few (lit≤ tt)) (get_or rows i 0) (good-at rows g i h).finite_row

-- ---- the scan: `best` is the first nearest of the places below i, `near` its distance, and no square from `low` up has a
-- lesser root. Before the first place, both values are infinite.
pub record Nearest (v : ℕ → Float) (best : ℕ) (near low : Float) (i : ℕ) : Type 0 where
  pub inside : best ≤ i - 1
  pub good-near : good near ≡ true
  pub begun : i ≡ 0 → (near ≡ inf false) × (low ≡ inf false)
  pub here : 0 < i → near ≡ square_root_lem (v best)
  pub least : (j : ℕ) → j < i → lt (square_root_lem (v j)) near ≡ false
  pub first : (j : ℕ) → j < best → lt near (square_root_lem (v j)) ≡ true
  pub high : (x : Float) → good x ≡ true → lt x low ≡ false → lt (square_root_lem x) near ≡ false

-- what `f64::INFINITY` is
abbrev pub infinity : Float
infinity = of_bits binary64 0x7ff0000000000000

-- what is not below infinity
infinite : (x : Float) → good x ≡ true → lt x (inf false) ≡ false → x ≡ inf false
unfolding lt
infinite nan g h = absurd (true≢false (sym g))
infinite (inf true) g h = absurd (true≢false (sym g))
infinite (inf false) g h = refl
infinite (fin s m e) g h = absurd (true≢false h)

module _ (v : ℕ → Float) where
  pub nearest-start : Nearest v 0 infinity infinity 0
  unfolding lt of_bits
  nearest-start =
      record {
        inside = omega arith;
        good-near = inf-good;
        begun = λ e. (refl, refl);
        here = λ h. absurd (omega (arith, h));
        least = below_none _;
        first = below_none _;
        high = λ x gx l. ap (λ (y : Float). lt (square_root_lem y) (inf false)) (infinite x gx l) ∙ ap (λ (y : Float). lt y (inf false)) root-inf;
      }

  -- the distance, where that of the first place is also known to be infinite
  here-or : (best : ℕ) (near low : Float) (i : ℕ) → Nearest v best near low i → (i ≡ 0 → near ≡ square_root_lem (v best)) → near ≡ square_root_lem (v best)
  here-or best near low zero s h = h refl
  here-or best near low (suc i) s h = s.here (omega arith)

  module _ (best : ℕ) (near low : Float) (i : ℕ) (x : Float) (s : Nearest v best near low i) (e : x ≡ v i) (g : (j : ℕ) → j ≤ i → good (v j) ≡ true) where
    gi : good (v i) ≡ true
    gi = g i (omega arith)

    -- at the first place, `best` is that place
    only : i ≡ 0 → i ≡ best
    only z = omega (arith, z, s.inside)

    -- the square is not less than all before it
    pub nearest-far : lt x low ≡ false → Nearest v best near low (i + 1)
    nearest-far l =
        record {
          inside = omega (arith, s.inside);
          good-near = s.good-near;
          begun = λ z. absurd (omega (arith, z));
          here = λ h.
              here-or best near low i s
              (λ z.
              let (n, w) = s.begun z in
              let t : v i ≡ inf false = infinite (v i) gi (rw (← e, ← w) l) in
              n ∙ sym (root-inf) ∙ ap square_root_lem (sym t ∙ ap v (only z)));
          least = below_more (λ j. lt (square_root_lem (v j)) near ≡ false) i s.least (s.high (v i) gi (rw e at l));
          first = s.first;
          high = s.high;
        }

    -- it is, and its root is not
    pub nearest-tie : (r : Float) → r ≡ square_root_lem x → lt r near ≡ false → Nearest v best near x (i + 1)
    nearest-tie r q l =
        let w : r ≡ square_root_lem (v i) = q ∙ ap square_root_lem e in
        let k : lt (square_root_lem (v i)) near ≡ false = rw w at l in
        record {
          inside = omega (arith, s.inside);
          good-near = s.good-near;
          begun = λ z. absurd (omega (arith, z));
          here = λ h.
              here-or best near low i s
              (λ z.
              let n = (s.begun z).0 in
              let t : square_root_lem (v i) ≡ inf false = infinite (square_root_lem (v i)) (root-good (v i) gi) (rw (← n) k) in
              n ∙ sym t ∙ ap (λ (y : ℕ). square_root_lem (v y)) (only z));
          least = below_more (λ j. lt (square_root_lem (v j)) near ≡ false) i s.least k;
          first = s.first;
          high = λ y gy h.
              le-le near (square_root_lem (v i)) (square_root_lem y) s.good-near (root-good (v i) gi) (root-good y gy) k
              (root-order (v i) y gi gy (rw e at h));
        }

    -- its root is less too
    pub nearest-less : (r : Float) → r ≡ square_root_lem x → lt r near ≡ true → Nearest v i r x (i + 1)
    nearest-less r q l =
        let w : r ≡ square_root_lem (v i) = q ∙ ap square_root_lem e in
        let gr : good r ≡ true = rw w (root-good (v i) gi) in
        let less : (j : ℕ) → j < i → lt r (square_root_lem (v j)) ≡ true =
        λ j h. lt-le r near (square_root_lem (v j)) gr s.good-near (root-good (v j) (g j (omega arith))) l (s.least j h) in
        record {
          inside = omega arith;
          good-near = gr;
          begun = λ z. absurd (omega (arith, z));
          here = λ h. w;
          least =
              below_more (λ j. lt (square_root_lem (v j)) r ≡ false) i
              (λ j h. lt-asym r (square_root_lem (v j)) gr (root-good (v j) (g j (omega arith))) (less j h))
              (rw (← w) (lt_irrefl r gr));
          first = less;
          high = λ y gy h. rw w (root-order (v i) y gi gy (rw e at h));
        }

-- the place of the seed
pub nearest-end : (d : ℕ) (cs : List Float) (rows : List ℕ) (best : ℕ) (near low : Float) (i : ℕ)
    → Nearest (from_center d cs rows) best near low i → i ≡ length rows → 0 < length rows → (best < length rows) × (get_or rows best 0 ≡ seed_of d cs rows)
unfolding seed_of from_centroid distance from_center
nearest-end d cs rows best near low i s e p =
    let h : best < length rows = omega (arith, s.inside) in
    let here = s.here (omega arith) in
    let f = from_centroid d cs rows in (
      h,
      sym
          (ap (λ (l : List ℕ). nearest_row (keyed f l)) (split_at rows best 0 h)
          ∙ nearest-is f (take best rows) (get_or rows best 0) (drop (suc best) rows)
          (all-of _ (take best rows) (each-before rows best 0 h (λ y. lt (f (get_or rows best 0)) (f y) ≡ true) (λ j b. rw (← here) (s.first j b))))
          (all-of _ (drop (suc best) rows)
          (each-behind rows best 0 h (λ y. lt (f y) (f (get_or rows best 0)) ≡ false) (λ j b k. rw (← here) (s.least j (omega arith)))))),
    )
