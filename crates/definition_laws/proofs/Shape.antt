-- The shape of a level: the sizes and depths of its leaves depend only on the number of active rows and the leaf threshold. So do the
-- number of leaves and the cuts that are made. Assumes nothing.
-- Holds: shape-wait, shape-done, shape-all, shape-most, sized_of, queue-shape, leaves-shape, leaves-most, leaves-enough,
--   leaves-boxes
use mathlib.Core.Path.{◌≡◌, refl, sym, ap, ap₂, ◌∙◌}
use mathlib.Core.Logic.{⊎_elim}
use mathlib.Core.List.{List, [], ◌∷◌, ◌++◌, map, map-append}
use Prim.Native.Nat.{ℕ, zero, suc, ◌+◌, ◌-◌, ◌*◌, ◌≤◌, ◌<◌}
use native.Mathlib.Omega.{arith}
use borrow.Author.Tests.{le-leb, lt-leb}
use lib.ListN.{length, length-append, length-map, length-set}
use lib.Ieee.{Float}
use Rattle.lists.specs.Lists.{total}
use Rattle.lists.specs.Ascends.{All}
use Rattle.lists.proofs.Tests.{le-or-lt}
use Rattle.lists.proofs.All.{all_append}
use Rattle.lists.proofs.From.{length_from}
use Rattle.lists.proofs.Sums.{sum-nil, sum-cons, sum-two}
use Rattle.definition.specs.Points.{box_width_lem, extents}
use Rattle.definition.specs.Cut.{Domain, root_domain, longest_axis_lem, plane, left_of, right_of, queue_leaves, leaves_of}
use Rattle.definition_laws.specs.Shape.{Sized, left_sized, right_sized, shape_queue, shape}
use Rattle.definition.proofs.Steps.{queue-wait, queue-done}
use Rattle.definition.proofs.Cuts.{Good, left-good, right-good, left-length, right-length, left-depth, right-depth, leaves_all, queue-enough}

-- ---- the queue of sizes and depths
module _ (leaf : ℕ) where
  pub shape-wait : (fuel : ℕ) (z : Sized) (zs : List Sized) → 2 * leaf ≤ z.size → shape_queue leaf (suc fuel) (z ∷ zs) ≡ shape_queue leaf fuel (zs ++ left_sized z ∷ right_sized z ∷ [])
  unfolding shape_queue
  shape-wait fuel z zs h = rw (le-leb (2 * leaf) z.size h)

  pub shape-done : (fuel : ℕ) (z : Sized) (zs : List Sized) → z.size < 2 * leaf → shape_queue leaf (suc fuel) (z ∷ zs) ≡ left_sized z ∷ right_sized z ∷ shape_queue leaf fuel zs
  unfolding shape_queue
  shape-done fuel z zs h = rw (lt-leb (2 * leaf) z.size h)

  -- what the halves of a large one that waits have if it has it, and the leaves of a small one
  pub shape-all : (P Q : Sized → Type 0) → ((z : Sized) → P z → 2 * leaf ≤ z.size → P (left_sized z) × P (right_sized z))
      → ((z : Sized) → P z → Q (left_sized z) × Q (right_sized z)) → (fuel : ℕ) (zs : List Sized) → All P zs → All Q (shape_queue leaf fuel zs)
  unfolding All shape_queue
  shape-all P Q wait done zero zs h = tt
  shape-all P Q wait done (suc fuel) [] h = tt
  shape-all P Q wait done (suc fuel) (z ∷ zs) h =
      ⊎_elim
      (λ (big : 2 * leaf ≤ z.size).
      let w = wait z h.0 big in
      rw (shape-wait fuel z zs big)
      (shape-all P Q wait done fuel (zs ++ left_sized z ∷ right_sized z ∷ []) (all_append P zs (left_sized z ∷ right_sized z ∷ []) h.1 (w.0, (w.1, tt)))))
      (λ (small : z.size < 2 * leaf).
      let w = done z h.0 in
      rw (shape-done fuel z zs small) (w.0, (w.1, shape-all P Q wait done fuel zs h.1)))
      (le-or-lt (2 * leaf) z.size)

  -- ---- sizes that are not 0
  module _ (lp : 1 ≤ leaf) where
    some-wait : (z : Sized) (zs : List Sized) → 2 * leaf ≤ z.size → All (λ z. 1 ≤ z.size) (z ∷ zs) → All (λ z. 1 ≤ z.size) (zs ++ left_sized z ∷ right_sized z ∷ [])
    unfolding All
    some-wait z zs big u = all_append (λ z. 1 ≤ z.size) zs (left_sized z ∷ right_sized z ∷ []) u.1 (omega arith, (omega arith, tt))

    -- a queue has at most twice as many leaves as rows
    pub shape-most : (fuel : ℕ) (zs : List Sized) → All (λ z. 1 ≤ z.size) zs → length (shape_queue leaf fuel zs) ≤ 2 * total (map (λ z. z.size) zs)
    unfolding All shape_queue
    shape-most zero zs u = omega arith
    shape-most (suc fuel) [] u = omega arith
    shape-most (suc fuel) (z ∷ zs) u =
        let size : Sized → ℕ = λ z. z.size in
        ⊎_elim
        (λ (big : 2 * leaf ≤ z.size). rw (shape-wait fuel z zs big)
        (omega (arith, shape-most fuel (zs ++ left_sized z ∷ right_sized z ∷ []) (some-wait z zs big u), sum-two size zs (left_sized z) (right_sized z), sum-cons size z zs)))
        (λ (small : z.size < 2 * leaf). rw (shape-done fuel z zs small) (omega (arith, shape-most fuel zs u.1, sum-cons size z zs, u.0)))
        (le-or-lt (2 * leaf) z.size)

-- ---- the domains
abbrev pub sized_of : Domain → Sized
sized_of q = record { size = length q.rows; depth = q.depth }

module _ (d : ℕ) (cs : List Float) (pos : 0 < d) (leaf : ℕ) where
  -- the halves of a domain have the sizes and depths of its halves
  left-sized : (q : Domain) → Good d cs q.rows → sized_of (left_of d cs q) ≡ left_sized (sized_of q)
  left-sized q g = rw (left-length d cs pos q g, left-depth d cs q)

  right-sized : (q : Domain) → Good d cs q.rows → sized_of (right_of d cs q) ≡ right_sized (sized_of q)
  right-sized q g = rw (right-length d cs pos q g, right-depth d cs q)

  pub queue-shape : (fuel : ℕ) (qs : List Domain) → All (λ q. Good d cs q.rows) qs → map sized_of (queue_leaves d cs leaf fuel qs) ≡ shape_queue leaf fuel (map sized_of qs)
  unfolding All queue_leaves shape_queue
  queue-shape zero qs h = refl
  queue-shape (suc fuel) [] h = refl
  queue-shape (suc fuel) (q ∷ qs) h =
      let l = left_of d cs q in
      let r = right_of d cs q in
      let z = sized_of q in
      let a = left-sized q h.0 in
      let b = right-sized q h.0 in
      ⊎_elim
      (λ (big : 2 * leaf ≤ length q.rows). rw (queue-wait d cs leaf fuel q qs big, shape-wait leaf fuel z (map sized_of qs) big)
      (queue-shape fuel (qs ++ l ∷ r ∷ [])
      (all_append (λ q. Good d cs q.rows) qs (l ∷ r ∷ []) h.1 (left-good d cs q h.0, (right-good d cs q h.0, tt)))
      ∙ ap (shape_queue leaf fuel) (map-append sized_of qs (l ∷ r ∷ []) ∙ ap₂ (λ (x y : Sized). map sized_of qs ++ x ∷ y ∷ []) a b)))
      (λ (small : length q.rows < 2 * leaf). rw (queue-done d cs leaf fuel q qs small, shape-done leaf fuel z (map sized_of qs) small)
      (ap₂ (λ (x y : Sized). x ∷ y ∷ map sized_of (queue_leaves d cs leaf fuel qs)) a b ∙ ap (λ (l : List Sized). left_sized z ∷ right_sized z ∷ l) (queue-shape fuel qs h.1)))
      (le-or-lt (2 * leaf) (length q.rows))

  -- THE SHAPE LAW
  pub leaves-shape : (active : List ℕ) → Good d cs active → map sized_of (leaves_of d cs leaf active) ≡ shape leaf (length active)
  unfolding leaves_of shape root_domain All
  leaves-shape active g = queue-shape (2 * length active) (root_domain d cs active ∷ []) (g, tt)

  module _ (lp : 1 ≤ leaf) (active : List ℕ) (g : Good d cs active) (some : 1 ≤ length active) where
    count_is : length (leaves_of d cs leaf active) ≡ length (shape leaf (length active))
    count_is = sym (length-map (leaves_of d cs leaf active) sized_of) ∙ ap length (leaves-shape active g)

    pub leaves-most : length (leaves_of d cs leaf active) ≤ 2 * length active
    unfolding shape All
    leaves-most =
        let root : Sized = record { size = length active; depth = 0 } in
        let size : Sized → ℕ = λ z. z.size in
        omega (arith, count_is, shape-most leaf lp (2 * length active) (root ∷ []) (some, tt), sum-cons size root [], sum-nil size)

    -- the fuel is enough: with more of it the leaves are the same, so no waiting domain is dropped
    pub leaves-enough : (more : ℕ) → 2 * length active - 1 ≤ more → queue_leaves d cs leaf more (root_domain d cs active ∷ []) ≡ leaves_of d cs leaf active
    unfolding leaves_of root_domain All
    leaves-enough more h =
        let root = root_domain d cs active in
        let e = sum-cons (λ (q : Domain). 2 * length q.rows - 1) root [] in
        let z = sum-nil (λ (q : Domain). 2 * length q.rows - 1) in
        queue-enough d cs pos leaf lp more (2 * length active) (root ∷ []) ((some, g), tt) (omega arith) (omega arith)

-- ---- each box has two bounds on each axis
module _ (d : ℕ) (cs : List Float) where
  pub leaves-boxes : (leaf : ℕ) (active : List ℕ) → All (λ q. length q.box ≡ box_width_lem d) (leaves_of d cs leaf active)
  unfolding left_of right_of root_domain extents
  leaves-boxes leaf active =
      leaves_all d cs (λ q. length q.box ≡ box_width_lem d)
      (λ q h. length-set q.box (d + longest_axis_lem d cs q.rows) (plane d cs q.rows) ∙ h)
      (λ q h. length-set q.box (longest_axis_lem d cs q.rows) (plane d cs q.rows) ∙ h)
      leaf active (simp (length-append, length-map, length_from) (omega arith))
