-- The cut, its halves and the queue's leaves of renamed rows are those of the rows, renamed. Assumes nothing.
-- Holds: renamed_domain, leaf-part, plane-kept, left-kept, right_kept, left_in, right-in, queue-kept, leaves_kept
use mathlib.Core.Path.{◌≡◌, refl, sym, ap, ap₂, ◌∙◌}
use mathlib.Core.Logic.{⊎_elim}
use mathlib.Core.List.{List, [], ◌∷◌, ◌++◌, map, map-append}
use Prim.Native.Nat.{ℕ, zero, suc, ◌+◌, ◌*◌, ◌/◌, ◌≤◌, ◌<◌}
use native.Mathlib.Omega.{arith}
use lib.ListN.{length, set, length-map}
use lib.Ieee.{Float}
use Rattle.lists.specs.Ascends.{All}
use Rattle.lists.specs.Times.{times}
use Rattle.lists.proofs.Tests.{le-or-lt}
use Rattle.lists.proofs.All.{all_append, all-mem}
use Rattle.definition.specs.Points.{coordinate}
use Rattle.definition.specs.Keys.{Key, keyed, first_rows_lem, other_rows, key_at}
use Rattle.definition.specs.Cut.{Domain, root_domain, longest_axis_lem, cut_keys, plane_of, plane, left_of, right_of, queue_leaves, leaves_of}
use Rattle.definition.proofs.Steps.{queue-wait, queue-done}
use Rattle.definition.proofs.Cuts.{axis-below, cut-times, leaves_all}
use Rattle.renaming_laws.specs.Renaming.{Renames}
use Rattle.renaming_laws.proofs.RenamedKeys.{In, renamed_key, keyed-kept, keyed-in, first-kept, other-kept, at-kept}
use Rattle.renaming_laws.proofs.RenamedPoints.{part_in, extents-kept, axis-kept}

-- a domain whose rows are renamed
abbrev pub renamed_domain : (ℕ → ℕ) → Domain → Domain
renamed_domain f q = record { rows = map f q.rows; box = q.box; depth = q.depth }

plane-same : (f : ℕ → ℕ) (keys : List Key) → plane_of (map (renamed_key f) keys) ≡ plane_of keys
unfolding plane_of
plane-same f [] = refl
plane-same f (p ∷ ps) = refl

-- each leaf holds a part of the active rows
pub leaf-part : (d : ℕ) (cs : List Float) (leaf : ℕ) (active : List ℕ) → All (λ (q : Domain). (r : ℕ) → times r q.rows ≤ times r active) (leaves_of d cs leaf active)
unfolding root_domain
leaf-part d cs leaf active =
    leaves_all d cs (λ q. (r : ℕ) → times r q.rows ≤ times r active)
    (λ q h r. omega (arith, h r, cut-times d cs q r)) (λ q h r. omega (arith, h r, cut-times d cs q r)) leaf active (λ r. omega arith)

module _ (d : ℕ) (cs cs' : List Float) (all : List ℕ) (f : ℕ → ℕ) (r : Renames d cs cs' all f) (pos : 0 < d) where
  -- ---- the cut
  module _ (rows : List ℕ) (h : All (In all) rows) where
    abbrev axis : ℕ
    axis = longest_axis_lem d cs rows

    keys_kept : cut_keys d cs' (map f rows) ≡ map (renamed_key f) (cut_keys d cs rows)
    unfolding cut_keys
    keys_kept =
        ap (λ (a : ℕ). keyed (λ i. coordinate d cs' i a) (map f rows)) (axis-kept d cs cs' all f r rows h pos)
        ∙ keyed-kept f (λ i. coordinate d cs i axis) (λ i. coordinate d cs' i axis) rows (λ i m. r.points i axis (all-mem (In all) rows h i m) (axis-below d cs rows pos))

    keys_in : All (λ (p : Key). In all p.row) (cut_keys d cs rows)
    unfolding cut_keys
    keys_in = keyed-in all (λ i. coordinate d cs i axis) rows h

    half-kept : length (map f rows) / 2 ≡ length rows / 2
    half-kept = ap (λ (n : ℕ). n / 2) (length-map rows f)

    pub plane-kept : plane d cs' (map f rows) ≡ plane d cs rows
    unfolding plane
    plane-kept =
        ap₂ (λ (n : ℕ) (keys : List Key). plane_of (key_at n keys)) half-kept keys_kept
        ∙ ap plane_of (at-kept all f r.order (cut_keys d cs rows) keys_in (length rows / 2))
        ∙ plane-same f (key_at (length rows / 2) (cut_keys d cs rows))

    left-rows : first_rows_lem (length (map f rows) / 2) (cut_keys d cs' (map f rows)) ≡ map f (first_rows_lem (length rows / 2) (cut_keys d cs rows))
    left-rows = ap₂ first_rows_lem half-kept keys_kept ∙ first-kept all f r.order (cut_keys d cs rows) keys_in (length rows / 2)

    right-rows : other_rows (length (map f rows) / 2) (cut_keys d cs' (map f rows)) ≡ map f (other_rows (length rows / 2) (cut_keys d cs rows))
    right-rows = ap₂ other_rows half-kept keys_kept ∙ other-kept all f r.order (cut_keys d cs rows) keys_in (length rows / 2)

  -- ---- the halves of a domain
  module _ (q : Domain) (h : All (In all) q.rows) where
    pub left-kept : left_of d cs' (renamed_domain f q) ≡ renamed_domain f (left_of d cs q)
    unfolding left_of
    left-kept =
        ap₂ (λ (rows : List ℕ) (box : List Float). record { rows = rows; box = box; depth = suc q.depth })
        (left-rows q.rows h)
        (ap₂ (λ (a : ℕ) (x : Float). set q.box (d + a) x) (axis-kept d cs cs' all f r q.rows h pos) (plane-kept q.rows h))

    pub right_kept : right_of d cs' (renamed_domain f q) ≡ renamed_domain f (right_of d cs q)
    unfolding right_of
    right_kept =
        ap₂ (λ (rows : List ℕ) (box : List Float). record { rows = rows; box = box; depth = suc q.depth })
        (right-rows q.rows h)
        (ap₂ (λ (a : ℕ) (x : Float). set q.box a x) (axis-kept d cs cs' all f r q.rows h pos) (plane-kept q.rows h))

    pub left_in : All (In all) (left_of d cs q).rows
    left_in = part_in all q.rows (left_of d cs q).rows h (λ r. omega (arith, cut-times d cs q r))

    pub right-in : All (In all) (right_of d cs q).rows
    right-in = part_in all q.rows (right_of d cs q).rows h (λ r. omega (arith, cut-times d cs q r))

  -- ---- the queue
  abbrev Inside : List Domain → Type 0
  Inside qs = All (λ q. All (In all) q.rows) qs

  halves-kept : (q : Domain) (qs : List Domain) → All (In all) q.rows
      → map (renamed_domain f) qs ++ left_of d cs' (renamed_domain f q) ∷ right_of d cs' (renamed_domain f q) ∷ [] ≡ map (renamed_domain f) (qs ++ left_of d cs q ∷ right_of d cs q ∷ [])
  halves-kept q qs h =
      ap₂ (λ (x y : Domain). map (renamed_domain f) qs ++ x ∷ y ∷ []) (left-kept q h) (right_kept q h)
      ∙ sym (map-append (renamed_domain f) qs (left_of d cs q ∷ right_of d cs q ∷ []))

  pub queue-kept : (leaf fuel : ℕ) (qs : List Domain) → All (λ (q : Domain). All (In all) q.rows) qs
      → queue_leaves d cs' leaf fuel (map (renamed_domain f) qs) ≡ map (renamed_domain f) (queue_leaves d cs leaf fuel qs)
  unfolding queue_leaves All
  queue-kept leaf zero qs h = refl
  queue-kept leaf (suc fuel) [] h = refl
  queue-kept leaf (suc fuel) (q ∷ qs) h =
      ⊎_elim
      (λ (big : 2 * leaf ≤ length q.rows).
      queue-wait d cs' leaf fuel (renamed_domain f q) (map (renamed_domain f) qs) (omega (arith, length-map q.rows f))
      ∙ ap (queue_leaves d cs' leaf fuel) (halves-kept q qs h.0)
      ∙ queue-kept leaf fuel (qs ++ left_of d cs q ∷ right_of d cs q ∷ []) (all_append (λ q. All (In all) q.rows) qs (left_of d cs q ∷ right_of d cs q ∷ []) h.1 (left_in q h.0, (right-in q h.0, tt)))
      ∙ ap (map (renamed_domain f)) (sym (queue-wait d cs leaf fuel q qs big)))
      (λ (small : length q.rows < 2 * leaf).
      queue-done d cs' leaf fuel (renamed_domain f q) (map (renamed_domain f) qs) (omega (arith, length-map q.rows f))
      ∙ ap₂ (λ (x : Domain) (xs : List Domain). x ∷ xs) (left-kept q h.0) (ap₂ (λ (x : Domain) (xs : List Domain). x ∷ xs) (right_kept q h.0) (queue-kept leaf fuel qs h.1))
      ∙ ap (map (renamed_domain f)) (sym (queue-done d cs leaf fuel q qs small)))
      (le-or-lt (2 * leaf) (length q.rows))

  pub leaves_kept : (leaf : ℕ) (active : List ℕ) → All (In all) active → leaves_of d cs' leaf (map f active) ≡ map (renamed_domain f) (leaves_of d cs leaf active)
  unfolding leaves_of root_domain All
  leaves_kept leaf active h =
      ap₂ (λ (n : ℕ) (box : List Float). queue_leaves d cs' leaf (2 * n) (record { rows = map f active; box = box; depth = 0 } ∷ [])) (length-map active f) (extents-kept d cs cs' all f r active h)
      ∙ queue-kept leaf (2 * length active) (root_domain d cs active ∷ []) (h, tt)
