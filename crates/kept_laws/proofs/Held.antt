-- The turns of a search: one position offered and put in by (value, position), and positions passed over. Assumes nothing.
-- Holds: once-front, once-new, held-none, held-same, held-key, held-past, held-more, held-full
use mathlib.Core.Path.{◌≡◌, refl, sym, ap, ◌∙◌, subst}
use mathlib.Core.Logic.{◌⊎◌}
use mathlib.Core.Bool.{Bool, true, false}
use mathlib.Core.List.{List, [], ◌∷◌, ◌++◌, map, Memᴰ}
use Prim.Native.Nat.{ℕ, suc, ◌+◌, ◌-◌, ◌≤◌, ◌<◌}
use native.Mathlib.Omega.{arith}
use native.Mathlib.Decide.{dec_lt}
use native.Mathlib.Numerals.{add-one}
use lib.ListN.{length, get_or, take}
use lib.Seq.{take-take, take_all, get_or-take, length-take-le}
use lib.Ieee.{Float, nan}
use Rattle.lists.specs.Lists.{put, part}
use Rattle.lists.specs.Ascends.{All}
use Rattle.lists.specs.Same.{Same}
use Rattle.lists.specs.Times.{Once}
use Rattle.lists.proofs.All.{all-mem, all_left, all_right}
use Rattle.lists.proofs.Map.{take-map, get_d-map-in}
use Rattle.lists.proofs.Members.{mem-at}
use Rattle.lists.proofs.Put.{length-put, length_part, spliced, put-spliced, map-spliced}
use Rattle.lists.proofs.Times.{times-append, times-one, mem-times}
use Rattle.definition.specs.Keys.{before}
use Rattle.nearest_scan.proofs.Placed.{placed, placed_at, length-placed}
use Rattle.nearest_scan.proofs.Scans.{take-spliced}
use Rattle.kept_laws.specs.First.{Kept, place_key, kept_key, Slot, Held}
use Rattle.kept_laws.proofs.Kept.{once-compared, kept-none, kept-same, kept-mem, kept-past, kept-more}

-- positions without repeats: those in front, and one that is not among them
pub once-front : (xs ys : List ℕ) → Once (xs ++ ys) → Once xs
once-front xs ys o r = omega (arith, o r, times-append r xs ys)

pub once-new : (xs : List ℕ) (x : ℕ) (ys : List ℕ) → Once (xs ++ x ∷ ys) → Memᴰ x xs → ⊥
once-new xs x ys o i = omega (arith, o x, times-append x xs (x ∷ ys), times-one x ys, mem-times xs x i)

module _ (v : ℕ → Float) (bef : ℕ → ℕ → Bool) (m n : ℕ) (irr : (a : ℕ) → bef a a ≡ false)
    (trans : (a b c : ℕ) → bef a b ≡ true → bef b c ≡ true → bef a c ≡ true)
    (compare : (p q : ℕ) → p < n → q < n → (p ≡ q → ⊥) → (bef p q ≡ true) ⊎ (bef q p ≡ true))
    (keys : (p q : ℕ) → p < n → q < n → bef p q ≡ before (place_key (v p) p) (place_key (v q) q)) where
  pub held-none : (near : List ℕ) (far : List Float) → m ≤ length near → m ≤ length far → Held v bef m [] near far 0
  held-none near far l k = record { most = omega arith; long = l; long2 = k; kept = kept-none bef m; vals = refl }

  -- only which positions were visited matters
  pub held-same : (xs ys near : List ℕ) (far : List Float) (count : ℕ) → Same xs ys → Held v bef m xs near far count → Held v bef m ys near far count
  held-same xs ys near far count s h =
      record { most = h.most; long = h.long; long2 = h.long2; kept = kept-same bef m xs ys (take count near) s h.kept; vals = h.vals }

  -- what is kept was visited, and its value is beside it
  pub held-key : (xs near : List ℕ) (far : List Float) (count : ℕ) → Held v bef m xs near far count → (j : ℕ) → j < count
      → Memᴰ (get_or near j 0) xs × (get_or far j nan ≡ v (get_or near j 0))
  held-key xs near far count h j b =
      let old = take count near in
      let z : length old ≡ count = length-take-le count near (let a = h.most in let l = h.long in omega arith) in
      let k : get_or old j 0 ≡ get_or near j 0 = get_or-take count near j 0 b in (
        subst (λ (q : ℕ). Memᴰ q xs) k (kept-mem bef m xs old h.kept (get_or old j 0) (mem-at old j 0 (omega arith))),
        sym (get_or-take count far j nan b) ∙ ap (λ (l : List Float). get_or l j nan) h.vals ∙ get_d-map-in v old j 0 nan (omega arith) ∙ ap v k,
      )

  -- passed over: as many as are wanted are kept, and the last of them comes before each
  pub held-past : (xs ws near : List ℕ) (far : List Float) (count : ℕ) → Held v bef m xs near far count → count ≡ m
      → ((w : ℕ) → Memᴰ w ws → 0 < m → bef (get_or near (m - 1) 0) w ≡ true) → Held v bef m (xs ++ ws) near far count
  held-past xs ws near far count h e f =
      let l = h.long in
      let z : length (take count near) ≡ count = length-take-le count near (omega arith) in
      record {
        most = h.most;
        long = h.long;
        long2 = h.long2;
        kept = kept-past bef m irr trans xs ws (take count near) h.kept (z ∙ e)
            (λ w i p. subst (λ (q : ℕ). bef q w ≡ true) (sym (get_or-take count near (m - 1) 0 (omega arith))) (f w i p));
        vals = h.vals;
      }

  -- one more, offered and put in among the first k, and it comes before those from k on
  module _ (xs : List ℕ) (x : ℕ) (once : Once (xs ++ x ∷ [])) (below : All (λ q. q < n) (xs ++ x ∷ [])) (near : List ℕ) (far : List Float) (count : ℕ)
      (h : Held v bef m xs near far count) (k : ℕ) (few : k < m) (inner : k ≤ count)
      (rest : (j : ℕ) → k ≤ j → j < count → before (place_key (v x) x) (kept_key near far j) ≡ true)
      (r : ℕ) (slot : Slot near far k (v x) x r) (near' : List ℕ) (far' : List Float)
      (en : near' ≡ put near r (x ∷ part near r (k - r))) (ef : far' ≡ put far r (v x ∷ part far r (k - r))) where
    old : List ℕ
    old = take count near

    here : x < n
    unfolding All
    here = (all_right (λ q. q < n) xs (x ∷ []) below).0

    inside : (q : ℕ) → Memᴰ q xs → q < n
    inside q i = all-mem (λ q. q < n) xs (all_left (λ q. q < n) xs (x ∷ []) below) q i

    size : length old ≡ count
    unfolding old
    size = length-take-le count near (let a = h.most in let l = h.long in omega arith)

    -- what was compared in the code, by the positions
    compared : (j : ℕ) → j < count → bef x (get_or old j 0) ≡ before (place_key (v x) x) (kept_key near far j)
    unfolding old
    compared j b =
        let s = held-key xs near far count h j b in
        ap (bef x) (get_or-take count near j 0 b)
        ∙ keys x (get_or near j 0) here (inside (get_or near j 0) s.0)
        ∙ ap (λ (y : Float). before (place_key (v x) x) (place_key y (get_or near j 0))) (sym s.1)

    now-placed : spliced old r x ≡ placed bef x old
    unfolding spliced old
    now-placed =
        let z = size in
        let i = slot.inside in
        placed_at bef irr trans x old r h.kept.ordered (omega arith)
        (λ j a b. compared j (omega arith) ∙ after j a (omega arith))
        (λ j e. compared j (omega arith) ∙ slot.stop j e)
      where
        after : (j : ℕ) → r ≤ j → j < count → before (place_key (v x) x) (kept_key near far j) ≡ true
        after j a b = elim (dec_lt j k) [
          | yes g ↦ slot.after j a g
          | no g ↦ rest j (omega arith) b
        ]

    size-placed : length (placed bef x old) ≡ suc count
    size-placed = length-placed bef x old ∙ ap suc size

    -- the first k and the new one
    front : {A : Type 0} (l l' : List A) (y : A) → k < length l → l' ≡ put l r (y ∷ part l r (k - r)) → take (k + 1) l' ≡ take (k + 1) (spliced (take count l) r y)
    front {A} l l' y g e =
        let i = slot.inside in
        rw e (put-spliced l r k y i g ∙ ap (λ (w : List A). spliced w r y) (sym (take-take k count l inner)) ∙ sym (take-spliced k (take count l) r y i)
        ∙ ap (λ (i : ℕ). take i (spliced (take count l) r y)) (sym (add-one k)))

    new-rows : take (k + 1) near' ≡ take (k + 1) (placed bef x old)
    unfolding old
    new-rows = let l = h.long in front near near' x (omega arith) en ∙ ap (take (k + 1)) now-placed

    new-vals : take (k + 1) far' ≡ map v (take (k + 1) (placed bef x old))
    unfolding old
    new-vals =
        let l = h.long2 in
        front far far' (v x) (omega arith) ef ∙ ap (λ (w : List Float). take (k + 1) (spliced w r (v x))) h.vals
        ∙ ap (take (k + 1)) (sym (map-spliced v old r x) ∙ ap (map v) now-placed) ∙ take-map v (k + 1) (placed bef x old)

    same-long : {A : Type 0} (l l' : List A) (y : A) → k < length l → l' ≡ put l r (y ∷ part l r (k - r)) → length l' ≡ length l
    same-long l l' y g e =
        let b = slot.inside in
        let z : length (part l r (k - r)) ≡ k - r = length_part l r (k - r) (omega arith) in
        ap length e ∙ length-put l r (y ∷ part l r (k - r)) (omega arith)

    next : Kept bef m (xs ++ x ∷ []) (take m (placed bef x old))
    unfolding old
    next =
        kept-more bef m irr trans xs old x
        (once-compared bef xs (once-front xs (x ∷ []) once) (λ p q i j. compare p q (inside p i) (inside q j)))
        (λ y i. compare x y here (inside y i) (λ e. once-new xs x [] once (subst (λ (z : ℕ). Memᴰ z xs) (sym e) i)))
        h.kept

    put-in : take m (placed bef x old) ≡ take (k + 1) (placed bef x old) → Held v bef m (xs ++ x ∷ []) near' far' (k + 1)
    put-in g =
        let l = h.long in
        let l2 = h.long2 in
        record {
          most = omega arith;
          long = omega (arith, h.long, same-long near near' x (omega arith) en);
          long2 = omega (arith, h.long2, same-long far far' (v x) (omega arith) ef);
          kept = rw new-rows (subst (Kept bef m (xs ++ x ∷ [])) g next);
          vals = rw new-rows new-vals;
        }

    -- one more
    pub held-more : count ≡ k → Held v bef m (xs ++ x ∷ []) near' far' (k + 1)
    held-more e =
        let z = size-placed in
        put-in (take_all m (placed bef x old) (omega arith) ∙ sym (take_all (k + 1) (placed bef x old) (omega arith)))

    -- in place of the last
    pub held-full : m ≡ k + 1 → Held v bef m (xs ++ x ∷ []) near' far' (k + 1)
    held-full e = put-in (ap (λ (i : ℕ). take i (placed bef x old)) e)
