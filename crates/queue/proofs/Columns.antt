-- What is kept of a domain beside its rows, as a box: a column of w entries a domain, in a list that runs along with the queue, and
-- in a list that runs along with the leaves. Assumes nothing.
-- Holds: Boxes, boxes-first, boxes_now, boxes-wait, boxes-done, boxes-end
use mathlib.Core.Path.{◌≡◌, refl, sym, ap, ◌∙◌}
use Prim.Native.Nat.{ℕ, ◌+◌, ◌-◌, ◌*◌, ◌≤◌, ◌<◌}
use native.Mathlib.Nat.{mul-zero, mul-add}
use native.Mathlib.Omega.{arith}
use mathlib.Core.List.{List, [], ◌∷◌, ◌++◌, map, map-append, append_assoc, head-eq_of_cons-eq, tail-eq_of_cons-eq, nil≢cons}
use lib.ListN.{length, length-append}
use Rattle.lists.specs.Lists.{put, part, joined}
use Rattle.lists.proofs.Put.{put-next-at, put-nil}
use Rattle.lists.specs.Columns.{columns}
use Rattle.lists.proofs.Columns.{columns-next, columns-join}
use Rattle.queue.proofs.Kind.{Kind, halves_of}

-- ---- the boxes of what waits, and of the leaves: `box d` is written where the queue has d, and where d is a leaf
pub record Boxes {D A : Type 0} {leaf : ℕ} (K : Kind D leaf) (box : D → List A) (w : ℕ) (final held out : List A) (ds : List D) (head tail k : ℕ) : Type 0 where
  pub waiting : columns w held head (tail - head) ≡ map box ds
  pub due : put out (w * k) (joined (map box (K.leaves ds))) ≡ final

-- where the loop begins, with one domain that waits
pub boxes-first : {D A : Type 0} {leaf : ℕ} (K : Kind D leaf) (box : D → List A) (w : ℕ) (held out : List A) (d : D) (k : ℕ)
    → part held 0 w ≡ box d → Boxes K box w (put out (w * k) (joined (map box (K.leaves (d ∷ []))))) held out (d ∷ []) 0 1 k
unfolding columns
boxes-first K box w held out d k e = record { waiting = rw (mul-zero w, e); due = refl }

module _ {D A : Type 0} {leaf : ℕ} {K : Kind D leaf} {box : D → List A} {w : ℕ} {final held out : List A} {head tail k : ℕ} where
  -- a turn, with the domain d that stands first
  module _ {d : D} {ds : List D} (h : head < tail) (b : Boxes K box w final held out (d ∷ ds) head tail k) where
    abbrev l : List A
    l = box (K.left d)

    abbrev r : List A
    r = box (K.right d)

    split-held : part held (w * head) w ∷ columns w held (head + 1) (tail - (head + 1)) ≡ box d ∷ map box ds
    split-held = sym (columns-next w held head tail h) ∙ b.waiting

    pub boxes_now : part held (w * head) w ≡ box d
    boxes_now = head-eq_of_cons-eq split-held

    rest-held : columns w held (head + 1) (tail - (head + 1)) ≡ map box ds
    rest-held = tail-eq_of_cons-eq split-held

    module _ (wl : length l ≡ w) (wr : length r ≡ w) where
      pub boxes-wait : (held₁ : List A) → K.leaves (d ∷ ds) ≡ K.leaves (ds ++ halves_of K d) → w * tail ≤ length held → held₁ ≡ put held (w * tail) (l ++ r)
          → Boxes K box w final held₁ out (ds ++ halves_of K d) (head + 1) (tail + 2) k
      boxes-wait held₁ e f p =
          record {
            waiting = rw p (columns-join w held (head + 1) tail l r wl wr (omega arith) f ∙ rw rest-held (sym (map-append box ds (halves_of K d))));
            due = rw (← e) b.due;
          }

      pub boxes-done : (out₁ : List A) → K.leaves (d ∷ ds) ≡ K.left d ∷ K.right d ∷ K.leaves ds → w * k ≤ length out → out₁ ≡ put out (w * k) (l ++ r)
          → Boxes K box w final held out₁ ds (head + 1) tail (k + 2)
      unfolding joined
      boxes-done out₁ e f p =
          let rest = joined (map box (K.leaves ds)) in
          let n : w * k + length (l ++ r) ≡ w * (k + 2) = rw (length-append l r, wl, wr, mul-add w k 2) (omega arith) in
          record {
            waiting = rest-held;
            due =
                rw p (put-next-at out (w * k) (l ++ r) rest (w * (k + 2)) f n
                ∙ ap (put out (w * k)) (append_assoc l r rest) ∙ ap (λ (x : List D). put out (w * k) (joined (map box x))) (sym e) ∙ b.due);
          }

  -- where it ends
  pub boxes-end : tail ≤ head → (ds : List D) → Boxes K box w final held out ds head tail k → out ≡ final
  unfolding joined columns
  boxes-end h [] b = sym (put-nil out (w * k)) ∙ (rw K.leaves_none at b.due)
  boxes-end h (d ∷ ds) b = let e : tail - head ≡ 0 = omega arith in absurd (nil≢cons (rw e at b.waiting))
