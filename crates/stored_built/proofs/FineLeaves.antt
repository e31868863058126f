-- The leaves of a fine level: at least two, and no NaN in their boxes and covers. Assumes nothing.
-- Holds: leaves-two, zero-known, Finite, cover-known, leaves-known
use mathlib.Core.Path.{◌≡◌, refl}
use mathlib.Core.Logic.{⊎_elim}
use mathlib.Core.Bool.{true, false}
use mathlib.Core.List.{List, [], ◌∷◌, ◌++◌, map}
use Prim.Native.Nat.{ℕ, zero, suc, ◌+◌, ◌-◌, ◌*◌, ◌/◌, ◌≤◌, ◌<◌}
use native.Mathlib.Omega.{arith}
use lib.ListN.{length, set, length-append}
use lib.Ieee.{Float, is_nan, of_bits}
use lib.Ieee.Scale.{finite}
use Rattle.lists.specs.Lists.{from}
use Rattle.lists.specs.Ascends.{All}
use Rattle.lists.proofs.Tests.{le-or-lt}
use Rattle.lists.proofs.All.{all_append, all_map, all_keep}
use Rattle.lists.proofs.From.{all_from}
use Rattle.lists.proofs.Best.{best-in}
use Rattle.lists.proofs.Times.{from-times}
use Rattle.lists.proofs.Sums.{sum-nil, sum-cons}
use Rattle.definition.specs.Number.{plus_zero}
use Rattle.definition.specs.Points.{coordinate, column, least_of, greatest_of, lower_bound_lem, upper_bound_lem, extents}
use Rattle.definition.specs.Keys.{Key, keyed, key_at}
use Rattle.definition.specs.Sampling.{leaf_cover}
use Rattle.definition.specs.Cut.{Domain, root_domain, longest_axis_lem, cut_keys, plane_of, plane, left_of, right_of, queue_leaves, leaves_of}
use Rattle.definition.proofs.Halves.{key_of}
use Rattle.definition.proofs.Steps.{queue-wait, queue-done}
use Rattle.definition_laws.proofs.Finite.{good-known}
use Rattle.definition_laws.proofs.Covers.{leaf-cover-good}
use Rattle.definition.proofs.Cuts.{Good, finite-known, axis-below, left-good, right-good, leaves_all, cuts_for, Full, full-wait, cuts-wait, cuts-done}

-- ---- at least two leaves: the root is cut
module _ (d : ℕ) (cs : List Float) (pos : 0 < d) (leaf : ℕ) (lp : 1 ≤ leaf) where
  -- each waiting domain that is not empty comes to two leaves or more
  queue-least : (fuel : ℕ) (qs : List Domain) → Full d cs pos qs → cuts_for qs ≤ fuel → 2 * length qs ≤ length (queue_leaves d cs leaf fuel qs)
  unfolding All
  queue-least zero [] u w = omega arith
  queue-least zero (q ∷ qs) u w = absurd (omega (arith, cuts-done d cs pos leaf lp q qs u))
  queue-least (suc fuel) [] u w = omega arith
  queue-least (suc fuel) (q ∷ qs) u w =
      let l = left_of d cs q in
      let r = right_of d cs q in
      ⊎_elim
      (λ (big : 2 * leaf ≤ length q.rows). rw (queue-wait d cs leaf fuel q qs big)
      (omega (
        arith,
        queue-least fuel (qs ++ l ∷ r ∷ []) (full-wait d cs pos leaf lp q qs big u) (omega (arith, cuts-wait d cs pos leaf lp q qs big u)),
        length-append qs (l ∷ r ∷ []),
      )))
      (λ (small : length q.rows < 2 * leaf). rw (queue-done d cs leaf fuel q qs small)
      (omega (arith, queue-least fuel qs u.1 (omega (arith, cuts-done d cs pos leaf lp q qs u)))))
      (le-or-lt (2 * leaf) (length q.rows))

  -- THE LAW: a fine level is never of one leaf, so its leaf count tells it from the coarse one
  pub leaves-two : (active : List ℕ) → Good d cs active → 1 ≤ length active → 2 ≤ length (leaves_of d cs leaf active)
  unfolding leaves_of root_domain All
  leaves-two active g some =
      let root = root_domain d cs active in
      omega (
        arith,
        queue-least (2 * length active) (root ∷ []) ((some, g), tt)
            (omega (arith, sum-cons (λ (q : Domain). 2 * length q.rows - 1) root [], sum-nil (λ (q : Domain). 2 * length q.rows - 1))),
      )

-- ---- no NaN
abbrev Known : Float → Type 0
Known x = is_nan x ≡ false

pub zero-known : is_nan plus_zero ≡ false
unfolding is_nan of_bits
zero-known = refl

-- one element changed
all_set : {A : Type 0} (P : A → Type 0) (l : List A) (i : ℕ) (x : A) → All P l → P x → All P (set l i x)
unfolding All
all_set P [] i x h k = tt
all_set P (y ∷ l) zero x h k = (k, h.1)
all_set P (y ∷ l) (suc i) x h k = (h.0, all_set P l i x h.1 k)

-- the least and the greatest of numbers
least_known : (xs : List Float) → All Known xs → Known (least_of xs)
unfolding All least_of
least_known [] h = zero-known
least_known (x ∷ xs) h = best-in _ Known x xs h.0 h.1

greatest-known : (xs : List Float) → All Known xs → Known (greatest_of xs)
unfolding All greatest_of
greatest-known [] h = zero-known
greatest-known (x ∷ xs) h = best-in _ Known x xs h.0 h.1

module _ (d : ℕ) (cs : List Float) where
  -- the coordinates of good rows on an axis
  column-known : (rows : List ℕ) → Good d cs rows → (a : ℕ) → a < d → All Known (column d cs rows a)
  column-known rows g a l =
      all_map Known (λ i. coordinate d cs i a) rows
      (from-times (λ i. Known (coordinate d cs i a)) rows (λ r m. finite-known (coordinate d cs r a) (g.finite-at r m a l)))

  extents-known : (rows : List ℕ) → Good d cs rows → All Known (extents d cs rows)
  unfolding extents
  extents-known rows g =
      all_append Known (map (lower_bound_lem d cs rows) (from 0 d)) (map (upper_bound_lem d cs rows) (from 0 d))
      (all_map Known (lower_bound_lem d cs rows) (from 0 d) (all_from (λ a. Known (lower_bound_lem d cs rows a)) 0 d (λ a l h. least_known (column d cs rows a) (column-known rows g a (omega arith)))))
      (all_map Known (upper_bound_lem d cs rows) (from 0 d) (all_from (λ a. Known (upper_bound_lem d cs rows a)) 0 d (λ a l h. greatest-known (column d cs rows a) (column-known rows g a (omega arith)))))

  -- row i has a finite coordinate on each axis
  abbrev pub Finite : ℕ → Type 0
  Finite i = (a : ℕ) → a < d → finite (coordinate d cs i a) ≡ true

  -- THE LAW: the cover of a leaf that owns good rows is no NaN
  pub cover-known : (rows sent : List ℕ) → Good d cs rows → All Finite sent → is_nan (leaf_cover d cs rows sent) ≡ false
  cover-known rows sent g h =
      good-known (leaf_cover d cs rows sent) (leaf-cover-good d cs rows sent (from-times Finite rows g.finite-at) h)

  module _ (pos : 0 < d) where
    -- the plane of a cut is a coordinate of the domain, or +0 where it is empty
    plane-of : (keys : List Key) → All (λ (p : Key). Known p.value) keys → Known (plane_of keys)
    unfolding All plane_of
    plane-of [] h = zero-known
    plane-of (p ∷ ps) h = h.0

    plane-known : (rows : List ℕ) → Good d cs rows → Known (plane d cs rows)
    unfolding plane key_at cut_keys keyed
    plane-known rows g =
        let a = longest_axis_lem d cs rows in
        plane-of (key_at (length rows / 2) (cut_keys d cs rows))
        (all_keep (λ (p : Key). Known p.value) _ (cut_keys d cs rows)
        (all_map (λ (p : Key). Known p.value) (key_of (λ i. coordinate d cs i a)) rows
        (from-times (λ i. Known (coordinate d cs i a)) rows (λ r m. finite-known (coordinate d cs r a) (g.finite-at r m a (axis-below d cs rows pos))))))

    -- a good domain whose box has no NaN, and its halves
    abbrev Boxed : Domain → Type 0
    Boxed q = Good d cs q.rows × All Known q.box

    left-boxed : (q : Domain) → Boxed q → Boxed (left_of d cs q)
    unfolding left_of
    left-boxed q h = (left-good d cs q h.0, all_set Known q.box (d + longest_axis_lem d cs q.rows) (plane d cs q.rows) h.1 (plane-known q.rows h.0))

    right-boxed : (q : Domain) → Boxed q → Boxed (right_of d cs q)
    unfolding right_of
    right-boxed q h = (right-good d cs q h.0, all_set Known q.box (longest_axis_lem d cs q.rows) (plane d cs q.rows) h.1 (plane-known q.rows h.0))

    -- THE LAW: each leaf owns good rows, and its box has no NaN
    pub leaves-known : (leaf : ℕ) (active : List ℕ) → Good d cs active
        → All (λ (q : Domain). Good d cs q.rows × All (λ x. is_nan x ≡ false) q.box) (leaves_of d cs leaf active)
    unfolding root_domain
    leaves-known leaf active g = leaves_all d cs Boxed left-boxed right-boxed leaf active (g, extents-known active g)
