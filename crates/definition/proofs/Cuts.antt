-- Rows that a level can be built over; the cut's halves; and the queue: its leaves hold each active row once, and no other. Assumes nothing.
-- Holds: Good, good-part, finite-known, rows_of, domain_sizes, rows-times, cuts_for, axis-below, length-cut_keys, cut-times,
--   left-good, right-good, left-depth, right-depth, left-ascends, right-ascends, queue-all, leaves_all, leaves-ascend,
--   cut-sortable, left-length, right-length, Full, full-wait, cuts-wait, cuts-done, queue-sum, queue-enough, leaves-times,
--   leaves-sum
use mathlib.Core.Path.{◌≡◌, refl, sym, ap, ◌∙◌}
use mathlib.Core.Logic.{⊎_elim}
use mathlib.Core.Bool.{true, false}
use mathlib.Core.List.{List, [], ◌∷◌, ◌++◌, map, map-map}
use Prim.Native.Nat.{ℕ, zero, suc, ◌+◌, ◌-◌, ◌*◌, ◌/◌, ◌≤◌, ◌<◌}
use native.Mathlib.Omega.{arith}
use lib.Dec.{eqb}
use lib.ListN.{length}
use lib.Ieee.{Float, nan, inf, fin, is_nan}
use lib.Ieee.Scale.{finite}
use Rattle.lists.specs.Lists.{joined, total, from}
use Rattle.lists.specs.Ascends.{All, Ascends}
use Rattle.lists.proofs.Tests.{le-or-lt, clash}
use Rattle.lists.proofs.All.{all_append}
use Rattle.lists.proofs.From.{all_from}
use Rattle.lists.proofs.Best.{best-in}
use Rattle.lists.specs.Times.{times, Once}
use Rattle.lists.proofs.Joined.{count-joined}
use Rattle.lists.proofs.Sums.{sum-nil, sum-cons, sum-two}
use Rattle.definition.specs.Points.{coordinate}
use Rattle.definition.specs.Cut.{Domain, root_domain, longest_axis_lem, cut_keys, left_of, right_of, queue_leaves, leaves_of}
use Rattle.definition.proofs.Halves.{Sortable, first-half-length, other-half-length, length-keyed, parts-times, first-ascends, other-ascends, sortable}
use Rattle.definition.proofs.Steps.{queue-empty, queue-wait, queue-done}

-- ---- rows that a level can be built over: none twice, and each coordinate is finite
pub record Good (d : ℕ) (cs : List Float) (rows : List ℕ) : Type 0 where
  pub once : Once rows
  pub finite-at : (r : ℕ) → 0 < times r rows → (a : ℕ) → a < d → finite (coordinate d cs r a) ≡ true

pub good-part : (d : ℕ) (cs : List Float) (rows part : List ℕ) → Good d cs rows → ((r : ℕ) → times r part ≤ times r rows) → Good d cs part
good-part d cs rows part g h =
    record { once = λ r. omega (arith, g.once r, h r); finite-at = λ r m. g.finite-at r (omega (arith, h r)) }

-- a finite coordinate is no NaN
pub finite-known : (x : Float) → finite x ≡ true → is_nan x ≡ false
unfolding is_nan
finite-known nan h = clash h refl
finite-known (inf s) h = refl
finite-known (fin s m e) h = refl

-- ---- the own rows of domains, together, and how many each has
abbrev pub rows_of : List Domain → List ℕ
rows_of qs = joined (map (λ q. q.rows) qs)

abbrev pub domain_sizes : List Domain → List ℕ
domain_sizes qs = map (λ q. length q.rows) qs

pub rows-times : (r : ℕ) (qs : List Domain) → times r (rows_of qs) ≡ total (map (λ q. times r q.rows) qs)
rows-times r qs = count-joined (λ x. eqb x r) (map (λ q. q.rows) qs) ∙ ap total (map-map (times r) (λ (q : Domain). q.rows) qs)

-- the cuts that are still to be made, at most
abbrev pub cuts_for : List Domain → ℕ
cuts_for qs = total (map (λ q. 2 * length q.rows - 1) qs)

module _ (d : ℕ) (cs : List Float) where
  -- ---- the cut

  -- its axis is one of the axes
  pub axis-below : (rows : List ℕ) → 0 < d → longest_axis_lem d cs rows < d
  unfolding longest_axis_lem
  axis-below rows p =
      best-in _ (λ a. a < d) 0 (from 1 (d - 1)) p (all_from (λ a. a < d) 1 (d - 1) (λ i l h. omega arith))

  pub length-cut_keys : (rows : List ℕ) → length (cut_keys d cs rows) ≡ length rows
  unfolding cut_keys
  length-cut_keys rows = length-keyed (λ i. coordinate d cs i (longest_axis_lem d cs rows)) rows

  -- the halves hold each row as often as the domain
  pub cut-times : (q : Domain) (r : ℕ) → times r (left_of d cs q).rows + times r (right_of d cs q).rows ≡ times r q.rows
  unfolding left_of right_of cut_keys
  cut-times q r = parts-times (λ i. coordinate d cs i (longest_axis_lem d cs q.rows)) q.rows (length q.rows / 2) r

  pub left-good : (q : Domain) → Good d cs q.rows → Good d cs (left_of d cs q).rows
  left-good q g = good-part d cs q.rows (left_of d cs q).rows g (λ r. omega (arith, cut-times q r))

  pub right-good : (q : Domain) → Good d cs q.rows → Good d cs (right_of d cs q).rows
  right-good q g = good-part d cs q.rows (right_of d cs q).rows g (λ r. omega (arith, cut-times q r))

  -- both are one deeper
  pub left-depth : (q : Domain) → (left_of d cs q).depth ≡ suc q.depth
  unfolding left_of
  left-depth q = refl

  pub right-depth : (q : Domain) → (right_of d cs q).depth ≡ suc q.depth
  unfolding right_of
  right-depth q = refl

  -- both ascend if the domain does
  pub left-ascends : (q : Domain) → Ascends q.rows → Ascends (left_of d cs q).rows
  unfolding left_of cut_keys
  left-ascends q h = first-ascends (λ i. coordinate d cs i (longest_axis_lem d cs q.rows)) (length q.rows / 2) q.rows h

  pub right-ascends : (q : Domain) → Ascends q.rows → Ascends (right_of d cs q).rows
  unfolding right_of cut_keys
  right-ascends q h = other-ascends (λ i. coordinate d cs i (longest_axis_lem d cs q.rows)) (length q.rows / 2) q.rows h

  -- ---- what both halves of a domain have if it has it, all leaves have if the waiting domains have it
  pub queue-all : (P : Domain → Type 0) → ((q : Domain) → P q → P (left_of d cs q)) → ((q : Domain) → P q → P (right_of d cs q))
      → (leaf fuel : ℕ) (qs : List Domain) → All P qs → All P (queue_leaves d cs leaf fuel qs)
  unfolding All queue_leaves
  queue-all P f g leaf zero qs h = tt
  queue-all P f g leaf (suc fuel) [] h = tt
  queue-all P f g leaf (suc fuel) (q ∷ qs) h =
      ⊎_elim
      (λ (big : 2 * leaf ≤ length q.rows). rw (queue-wait d cs leaf fuel q qs big)
      (queue-all P f g leaf fuel (qs ++ left_of d cs q ∷ right_of d cs q ∷ []) (all_append P qs (left_of d cs q ∷ right_of d cs q ∷ []) h.1 (f q h.0, (g q h.0, tt)))))
      (λ (small : length q.rows < 2 * leaf). rw (queue-done d cs leaf fuel q qs small) (f q h.0, (g q h.0, queue-all P f g leaf fuel qs h.1)))
      (le-or-lt (2 * leaf) (length q.rows))

  pub leaves_all : (P : Domain → Type 0) → ((q : Domain) → P q → P (left_of d cs q)) → ((q : Domain) → P q → P (right_of d cs q))
      → (leaf : ℕ) (active : List ℕ) → P (root_domain d cs active) → All P (leaves_of d cs leaf active)
  unfolding All leaves_of
  leaves_all P f g leaf active h = queue-all P f g leaf (2 * length active) (root_domain d cs active ∷ []) (h, tt)

  pub leaves-ascend : (leaf : ℕ) (active : List ℕ) → Ascends active → All (λ q. Ascends q.rows) (leaves_of d cs leaf active)
  unfolding root_domain
  leaves-ascend leaf active h = leaves_all (λ q. Ascends q.rows) left-ascends right-ascends leaf active h

  -- ---- sizes
  module _ (pos : 0 < d) where
    pub cut-sortable : (rows : List ℕ) → Good d cs rows → Sortable (cut_keys d cs rows)
    unfolding cut_keys
    cut-sortable rows g =
        sortable (λ i. coordinate d cs i (longest_axis_lem d cs rows)) rows g.once (λ r m. finite-known (coordinate d cs r (longest_axis_lem d cs rows)) (g.finite-at r m (longest_axis_lem d cs rows) (axis-below rows pos)))

    -- the left half has half the rows, rounded down, and the right one the rest
    pub left-length : (q : Domain) → Good d cs q.rows → length (left_of d cs q).rows ≡ length q.rows / 2
    unfolding left_of
    left-length q g =
        omega (arith, first-half-length (length q.rows / 2) (cut_keys d cs q.rows) (cut-sortable q.rows g), length-cut_keys q.rows)

    pub right-length : (q : Domain) → Good d cs q.rows → length (right_of d cs q).rows ≡ length q.rows - length q.rows / 2
    unfolding right_of
    right-length q g =
        omega (arith, other-half-length (length q.rows / 2) (cut_keys d cs q.rows) (cut-sortable q.rows g), length-cut_keys q.rows)

    -- ---- the queue of domains that are not empty
    abbrev pub Full : List Domain → Type 0
    Full qs = All (λ q. (1 ≤ length q.rows) × Good d cs q.rows) qs

    module _ (leaf : ℕ) (lp : 1 ≤ leaf) where
      -- a large domain's halves wait: they are not empty either, and fewer cuts are left
      pub full-wait : (q : Domain) (qs : List Domain) → 2 * leaf ≤ length q.rows → Full (q ∷ qs) → Full (qs ++ left_of d cs q ∷ right_of d cs q ∷ [])
      unfolding All
      full-wait q qs big u =
          let a = left-length q u.0.1 in
          let b = right-length q u.0.1 in
          all_append (λ q. (1 ≤ length q.rows) × Good d cs q.rows) qs (left_of d cs q ∷ right_of d cs q ∷ []) u.1
          ((omega arith, left-good q u.0.1), ((omega arith, right-good q u.0.1), tt))

      pub cuts-wait : (q : Domain) (qs : List Domain) → 2 * leaf ≤ length q.rows → Full (q ∷ qs)
          → cuts_for (qs ++ left_of d cs q ∷ right_of d cs q ∷ []) < cuts_for (q ∷ qs)
      unfolding All
      cuts-wait q qs big u =
          omega (
            arith,
            left-length q u.0.1,
            right-length q u.0.1,
            sum-two (λ (q : Domain). 2 * length q.rows - 1) qs (left_of d cs q) (right_of d cs q),
            sum-cons (λ (q : Domain). 2 * length q.rows - 1) q qs,
          )

      pub cuts-done : (q : Domain) (qs : List Domain) → Full (q ∷ qs) → cuts_for qs < cuts_for (q ∷ qs)
      unfolding All
      cuts-done q qs u = omega (arith, u.0.0, sum-cons (λ (q : Domain). 2 * length q.rows - 1) q qs)

      -- what the halves of a domain have together as the domain has it, the leaves have as the waiting domains have it
      pub queue-sum : (f : Domain → ℕ) → ((q : Domain) → Good d cs q.rows → f (left_of d cs q) + f (right_of d cs q) ≡ f q)
          → (fuel : ℕ) (qs : List Domain) → Full qs → cuts_for qs ≤ fuel → total (map f (queue_leaves d cs leaf fuel qs)) ≡ total (map f qs)
      unfolding All
      queue-sum f h zero [] u w = ap (λ (l : List Domain). total (map f l)) (queue-empty d cs leaf 0)
      queue-sum f h zero (q ∷ qs) u w = absurd (omega (arith, cuts-done q qs u))
      queue-sum f h (suc fuel) [] u w = ap (λ (l : List Domain). total (map f l)) (queue-empty d cs leaf (suc fuel))
      queue-sum f h (suc fuel) (q ∷ qs) u w =
          ⊎_elim
          (λ (big : 2 * leaf ≤ length q.rows). rw (queue-wait d cs leaf fuel q qs big)
          (omega (
            arith,
            queue-sum f h fuel (qs ++ left_of d cs q ∷ right_of d cs q ∷ []) (full-wait q qs big u) (omega (arith, cuts-wait q qs big u)),
            sum-two f qs (left_of d cs q) (right_of d cs q),
            sum-cons f q qs,
            h q u.0.1,
          )))
          (λ (small : length q.rows < 2 * leaf). rw (queue-done d cs leaf fuel q qs small)
          (omega (
            arith,
            queue-sum f h fuel qs u.1 (omega (arith, cuts-done q qs u)),
            sum-cons f (left_of d cs q) (right_of d cs q ∷ queue_leaves d cs leaf fuel qs),
            sum-cons f (right_of d cs q) (queue_leaves d cs leaf fuel qs),
            sum-cons f q qs,
            h q u.0.1,
          )))
          (le-or-lt (2 * leaf) (length q.rows))

      -- the fuel is enough: with as much as there are cuts to be made, or more, the leaves are the same
      pub queue-enough : (fuel more : ℕ) (qs : List Domain) → Full qs → cuts_for qs ≤ fuel → cuts_for qs ≤ more
          → queue_leaves d cs leaf fuel qs ≡ queue_leaves d cs leaf more qs
      unfolding All
      queue-enough zero more [] u w v = queue-empty d cs leaf zero ∙ sym (queue-empty d cs leaf more)
      queue-enough zero more (q ∷ qs) u w v = absurd (omega (arith, cuts-done q qs u))
      queue-enough (suc fuel) more [] u w v = queue-empty d cs leaf (suc fuel) ∙ sym (queue-empty d cs leaf more)
      queue-enough (suc fuel) zero (q ∷ qs) u w v = absurd (omega (arith, cuts-done q qs u))
      queue-enough (suc fuel) (suc more) (q ∷ qs) u w v =
          ⊎_elim
          (λ (big : 2 * leaf ≤ length q.rows).
          let c = cuts-wait q qs big u in
          rw (queue-wait d cs leaf fuel q qs big, queue-wait d cs leaf more q qs big)
          (queue-enough fuel more (qs ++ left_of d cs q ∷ right_of d cs q ∷ []) (full-wait q qs big u) (omega arith) (omega arith)))
          (λ (small : length q.rows < 2 * leaf).
          let c = cuts-done q qs u in
          rw (queue-done d cs leaf fuel q qs small, queue-done d cs leaf more q qs small)
          (ap (λ (l : List Domain). left_of d cs q ∷ right_of d cs q ∷ l) (queue-enough fuel more qs u.1 (omega arith) (omega arith))))
          (le-or-lt (2 * leaf) (length q.rows))

      -- THE LAW: the leaves of a level hold each active row once, and no other
      pub leaves-times : (active : List ℕ) → Good d cs active → 0 < length active → (r : ℕ) → times r (rows_of (leaves_of d cs leaf active)) ≡ times r active
      unfolding leaves_of root_domain All
      leaves-times active g l r =
          let root = root_domain d cs active in
          rw (rows-times r (leaves_of d cs leaf active))
          (omega (
            arith,
            queue-sum (λ q. times r q.rows) (λ q h. cut-times q r) (2 * length active) (root ∷ []) ((l, g), tt)
                (omega (arith, sum-cons (λ (q : Domain). 2 * length q.rows - 1) root [], sum-nil (λ (q : Domain). 2 * length q.rows - 1))),
            sum-cons (λ (q : Domain). times r q.rows) root [],
            sum-nil (λ (q : Domain). times r q.rows),
          ))

      -- and their sizes add up to the active rows
      pub leaves-sum : (active : List ℕ) → Good d cs active → 0 < length active → total (domain_sizes (leaves_of d cs leaf active)) ≡ length active
      unfolding leaves_of root_domain All
      leaves-sum active g l =
          let root = root_domain d cs active in
          omega (
            arith,
            queue-sum (λ q. length q.rows) (λ q h. omega (arith, left-length q h, right-length q h)) (2 * length active) (root ∷ []) ((l, g), tt)
                (omega (arith, sum-cons (λ (q : Domain). 2 * length q.rows - 1) root [], sum-nil (λ (q : Domain). 2 * length q.rows - 1))),
            sum-cons (λ (q : Domain). length q.rows) root [],
            sum-nil (λ (q : Domain). length q.rows),
          )
