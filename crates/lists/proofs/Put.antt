-- Laws of `put` and `part`. Assumes nothing.
-- Holds: put-zero, put-nil, length-put, length_part, take_put, length-head, take-put-end, drop-put-end, drop-put, drop-put-past,
--   set-put, put-def, put_next, put-next-at, put-longer, put-over, put-snoc, get_d-put-in, get_d-put-before, get_d-put-after,
--   part-put-in, part-whole, part-put-same, part-put-after, part-take, part-put-before, part-part, part-append, part-nil,
--   part-snoc, part-cons, part-drop, get_d_part, part-around, put-part, put-left, put_right, put-tail, put-comm, part-first,
--   part-second, take-put-front, view-put, part-lent, put-before, put-set, get_d-put-at, front-put, put_whole, part-grown,
--   mid_back, part-back, put-same-more, put-again, spliced, put-spliced, map-spliced
use mathlib.Core.Path.{◌≡◌, refl, sym, ap, ◌∙◌, ap₂}
use Prim.Native.Nat.{ℕ, zero, suc, ◌+◌, ◌-◌, ◌≤◌, ◌<◌}
use native.Mathlib.Nat.{not-suc-le-zero, suc-add, zero-add, add-zero, add_assoc}
use native.Mathlib.Numerals.{add-one}
use native.Mathlib.Omega.{arith}
use mathlib.Core.List.{List, [], ◌∷◌, ◌++◌, append_assoc, append-nil, map}
use lib.ListN.{length, get_or, set, take, drop, length-append, length-drop, take-append-drop, get_or-append, replicate, length-replicate, replicate-append-replicate}
use lib.Seq.{length-take-le, take_all, drop-append-add, take-append-le, drop-append-le, get_or-drop, get_or-take, drop-drop, take_at, drop_at, set_split, take-add, take-length, take-take, take-suc, take-append-add, drop-cons, take-set-le, drop-set-lt}
use borrow.Rule.Slice.PartMut.{put_mid}
use Rattle.lists.specs.Lists.{put, part}
use Rattle.lists.proofs.Take.{drop-take}

module _ {A : Type 0} where
  -- ---- the two steps by which some laws below go: a stretch at the front, and one past the first element
  pub put-zero : (l xs : List A) → put l 0 xs ≡ xs ++ drop (length xs) l
  unfolding put
  put-zero l xs = rw zero-add

  pub put-nil : (l : List A) (at : ℕ) → put l at [] ≡ l
  unfolding put
  put-nil l at = rw (add-zero, append-nil) (take-append-drop at l)

  -- ---- length
  pub length-put : (l : List A) (at : ℕ) (xs : List A) → at + length xs ≤ length l → length (put l at xs) ≡ length l
  unfolding put
  length-put l at xs h = simp (length-append, length-drop) (omega (arith, length-take-le at l (omega arith)))

  pub length_part : (l : List A) (at n : ℕ) → at + n ≤ length l → length (part l at n) ≡ n
  unfolding part
  length_part l at n h = length-take-le n (drop at l) (simp length-drop (omega arith))

  -- ---- what stands before the stretch, up to its end, and past it
  pub take_put : (l : List A) (at : ℕ) (xs : List A) → at ≤ length l → take at (put l at xs) ≡ take at l
  unfolding put
  take_put l at xs h = rw append_assoc (take_at (take at l) (xs ++ drop (at + length xs) l) at (length-take-le at l h))

  pub length-head : (l : List A) (at : ℕ) (xs : List A) → at ≤ length l → length (take at l ++ xs) ≡ at + length xs
  length-head l at xs h = rw (length-append, length-take-le)

  pub take-put-end : (l : List A) (at : ℕ) (xs : List A) → at ≤ length l → take (at + length xs) (put l at xs) ≡ take at l ++ xs
  unfolding put
  take-put-end l at xs h = take_at (take at l ++ xs) (drop (at + length xs) l) (at + length xs) (length-head l at xs h)

  pub drop-put-end : (l : List A) (at : ℕ) (xs : List A) → at ≤ length l → drop (at + length xs) (put l at xs) ≡ drop (at + length xs) l
  unfolding put
  drop-put-end l at xs h = drop_at (take at l ++ xs) (drop (at + length xs) l) (at + length xs) (length-head l at xs h)

  pub drop-put : (l : List A) (at : ℕ) (xs : List A) → at ≤ length l → drop at (put l at xs) ≡ xs ++ drop (at + length xs) l
  unfolding put
  drop-put l at xs h = rw append_assoc (drop_at (take at l) (xs ++ drop (at + length xs) l) at (length-take-le at l h))

  -- past the end of the stretch, at any distance
  pub drop-put-past : (l : List A) (at : ℕ) (xs : List A) (k : ℕ) → at ≤ length l → at + length xs ≤ k → drop k (put l at xs) ≡ drop k l
  drop-put-past l at xs k h g =
      let m = k - (at + length xs) in
      let e : k ≡ at + length xs + m = omega arith in
      rw (e, ← drop-drop m (at + length xs) (put l at xs), drop-put-end l at xs h, drop-drop m (at + length xs) l)

  -- ---- one element
  pub set-put : (l : List A) (i : ℕ) (x : A) → i < length l → set l i x ≡ put l i (x ∷ [])
  unfolding put
  set-put l i x h = rw (set_split, append_assoc, add-one)

  pub put-def : (l : List A) (at : ℕ) (xs : List A) → put l at xs ≡ take at l ++ xs ++ drop (at + length xs) l
  unfolding put
  put-def l at xs = refl

  -- ---- two stretches: next to each other, one over the other, apart
  pub put_next : (l : List A) (at : ℕ) (xs ys : List A) → at ≤ length l → put (put l at xs) (at + length xs) ys ≡ put l at (xs ++ ys)
  put_next l at xs ys h =
      put-def (put l at xs) (at + length xs) ys
      ∙ rw (take-put-end l at xs h, drop-put-past l at xs (at + length xs + length ys) h (omega arith), put-def l at (xs ++ ys), length-append, add_assoc, append_assoc (take at l) xs ys)

  -- the same, where the second start is known by an equation
  pub put-next-at : (l : List A) (at : ℕ) (xs ys : List A) (k : ℕ) → at ≤ length l → at + length xs ≡ k → put (put l at xs) k ys ≡ put l at (xs ++ ys)
  put-next-at l at xs ys k h e = rw (← e) (put_next l at xs ys h)

  pub put-longer : (l : List A) (at : ℕ) (xs ys : List A) → at ≤ length l → length xs ≤ length ys → put (put l at xs) at ys ≡ put l at ys
  put-longer l at xs ys h g =
      put-def (put l at xs) at ys
      ∙ rw (take_put l at xs h, drop-put-past l at xs (at + length ys) h (omega arith), put-def l at ys)

  pub put-over : (l : List A) (at : ℕ) (xs ys : List A) → at ≤ length l → length xs ≡ length ys → put (put l at xs) at ys ≡ put l at ys
  put-over l at xs ys h e = put-longer l at xs ys h (omega arith)

  -- a store past the end of a stretch makes it one longer: the turn of a loop that writes one element after the other
  pub put-snoc : (l : List A) (at : ℕ) (xs : List A) (x : A) (k : ℕ) → at + length xs ≡ k → k < length l → set (put l at xs) k x ≡ put l at (xs ++ x ∷ [])
  put-snoc l at xs x k e h = set-put (put l at xs) k x (rw (length-put l at xs (omega arith)) h) ∙ put-next-at l at xs (x ∷ []) k (omega arith) e

  -- ---- a load
  pub get_d-put-in : (l : List A) (at : ℕ) (xs : List A) (i : ℕ) (d : A) → at ≤ length l → i < length xs → get_or (put l at xs) (at + i) d ≡ get_or xs i d
  get_d-put-in l at xs i d h g = rw (← get_or-drop at (put l at xs) i d, drop-put l at xs h) (get_or-append xs _ d i g)

  pub get_d-put-before : (l : List A) (at : ℕ) (xs : List A) (i : ℕ) (d : A) → at ≤ length l → i < at → get_or (put l at xs) i d ≡ get_or l i d
  get_d-put-before l at xs i d h g = rw (← get_or-take at (put l at xs) i d g, take_put l at xs h, get_or-take at l i d g)

  pub get_d-put-after : (l : List A) (at : ℕ) (xs : List A) (i : ℕ) (d : A) → at ≤ length l → at + length xs ≤ i → get_or (put l at xs) i d ≡ get_or l i d
  get_d-put-after l at xs i d h g =
      let e : i + 0 ≡ i = add-zero i in
      sym (ap (λ (k : ℕ). get_or (put l at xs) k d) e) ∙ sym (get_or-drop i (put l at xs) 0 d) ∙ ap (λ (r : List A). get_or r 0 d) (drop-put-past l at xs i h g) ∙ get_or-drop i l 0 d ∙ ap (λ (k : ℕ). get_or l k d) e

  -- ---- a part
  pub part-put-in : (l : List A) (at : ℕ) (xs : List A) (i n : ℕ) → at ≤ length l → i + n ≤ length xs → part (put l at xs) (at + i) n ≡ part xs i n
  unfolding part
  part-put-in l at xs i n h g =
      rw (← drop-drop i at (put l at xs), drop-put l at xs h, drop-append-le i xs (drop (at + length xs) l) (omega arith))
      (take-append-le n (drop i xs) (drop (at + length xs) l) (simp length-drop (omega arith)))

  pub part-whole : (xs : List A) (n : ℕ) → length xs ≡ n → part xs 0 n ≡ xs
  unfolding part
  part-whole xs n e = rw (← e) (take-length xs)

  pub part-put-same : (l : List A) (at : ℕ) (xs : List A) (n : ℕ) → at ≤ length l → length xs ≡ n → part (put l at xs) at n ≡ xs
  part-put-same l at xs n h e =
      ap (λ (k : ℕ). part (put l at xs) k n) (sym (add-zero at)) ∙ part-put-in l at xs 0 n h (omega arith) ∙ part-whole xs n e

  pub part-put-after : (l : List A) (at : ℕ) (xs : List A) (s n : ℕ) → at ≤ length l → at + length xs ≤ s → part (put l at xs) s n ≡ part l s n
  unfolding part
  part-put-after l at xs s n h g = rw (drop-put-past l at xs s h g)

  -- a part is the front's part
  pub part-take : (l : List A) (k s n : ℕ) → s + n ≤ k → part (take k l) s n ≡ part l s n
  unfolding part
  part-take l k zero n h = take-take n k l (omega arith)
  part-take l zero (suc s) n h = absurd (not-suc-le-zero (rw suc-add at h))
  part-take [] (suc k) (suc s) n h = refl
  part-take (x ∷ l) (suc k) (suc s) n h = part-take l k s n (omega arith)

  pub part-put-before : (l : List A) (at : ℕ) (xs : List A) (s n : ℕ) → at ≤ length l → s + n ≤ at → part (put l at xs) s n ≡ part l s n
  part-put-before l at xs s n h g = sym (part-take (put l at xs) at s n g) ∙ ap (λ (r : List A). part r s n) (take_put l at xs h) ∙ part-take l at s n g

  pub part-part : (l : List A) (at n i m : ℕ) → i + m ≤ n → part (part l at n) i m ≡ part l (at + i) m
  unfolding part
  part-part l at n i m h = rw (← drop-drop i at l) (part-take (drop at l) n i m h)

  -- a stretch is its front and the rest
  pub part-append : (l : List A) (at n m : ℕ) → part l at n ++ part l (at + n) m ≡ part l at (n + m)
  unfolding part
  part-append l at n m = rw (take-add n m (drop at l), drop-drop n at l)

  pub part-nil : (l : List A) (at : ℕ) → part l at 0 ≡ []
  unfolding part
  part-nil l at = refl

  pub part-snoc : (l : List A) (at n : ℕ) (d : A) → at + n < length l → part l at (suc n) ≡ part l at n ++ get_or l (at + n) d ∷ []
  unfolding part
  part-snoc l at n d h = rw (take-suc (drop at l) n d (simp length-drop (omega arith)), get_or-drop)

  pub part-cons : (l : List A) (at n : ℕ) (d : A) → at < length l → part l at (suc n) ≡ get_or l at d ∷ part l (suc at) n
  unfolding part
  part-cons l at n d h = rw (drop-cons l at d h)

  -- the rest of a front
  pub part-drop : (l : List A) (at n : ℕ) → part l at (n - at) ≡ drop at (take n l)
  unfolding part
  part-drop l at n = sym (drop-take at n l)

  pub get_d_part : (l : List A) (at n i : ℕ) (d : A) → i < n → get_or (part l at n) i d ≡ get_or l (at + i) d
  unfolding part
  get_d_part l at n i d h = rw (get_or-take n (drop at l) i d h, get_or-drop)

  -- what is there, written again
  pub part-around : (l : List A) (at n : ℕ) → take at l ++ part l at n ++ drop (at + n) l ≡ l
  unfolding part
  part-around l at n = rw (append_assoc, ← drop-drop n at l, take-append-drop n (drop at l)) (take-append-drop at l)

  pub put-part : (l : List A) (at n : ℕ) → at + n ≤ length l → put l at (part l at n) ≡ l
  put-part l at n h = put-def l at (part l at n) ∙ rw (length_part l at n h) (part-around l at n)

  -- ---- a stretch in the first, or in the second, of two lists
  pub put-left : (p q : List A) (at : ℕ) (xs : List A) → at + length xs ≤ length p → put (p ++ q) at xs ≡ put p at xs ++ q
  unfolding put
  put-left p q at xs h = rw (take-append-le at p q (omega arith), drop-append-le (at + length xs) p q h) (sym (append_assoc (take at p ++ xs) (drop (at + length xs) p) q))

  pub put_right : (p q : List A) (n i : ℕ) (xs : List A) → length p ≡ n → put (p ++ q) (n + i) xs ≡ p ++ put q i xs
  unfolding put
  put_right p q n i xs e =
      rw (← e, add_assoc, take-append-add p q i, drop-append-add p q (i + length xs))
      (append_assoc (p ++ take i q) xs _ ∙ append_assoc p (take i q) _ ∙ ap (λ (r : List A). p ++ r) (sym (append_assoc (take i q) xs _)))

  -- a tail that was lent, `&mut l[at..]`, and comes back with a stretch written
  pub put-tail : (l : List A) (at i : ℕ) (xs : List A) → at ≤ length l → put l (at + i) xs ≡ take at l ++ put (drop at l) i xs
  put-tail l at i xs h =
      ap (λ (r : List A). put r (at + i) xs) (sym (take-append-drop at l)) ∙ put_right (take at l) (drop at l) at i xs (length-take-le at l h)

  -- stretches apart may be written in either order
  pub put-comm : (l : List A) (a : ℕ) (xs : List A) (b : ℕ) (ys : List A) → a + length xs ≤ b → b ≤ length l → put (put l a xs) b ys ≡ put (put l b ys) a xs
  put-comm l a xs b ys h g =
      let p = take b l in
      let q = drop b l in
      let e : length p ≡ b = length-take-le b l g in
      let f : length (put p a xs) ≡ b = length-put p a xs (omega arith) ∙ e in
      let s : l ≡ p ++ q = sym (take-append-drop b l) in
      let r : put l b ys ≡ p ++ put q 0 ys = ap (λ (k : ℕ). put l k ys) (sym (add-zero b)) ∙ put-tail l b 0 ys g in
      let t : put l a xs ≡ put p a xs ++ q = ap (λ (z : List A). put z a xs) s ∙ put-left p q a xs (omega arith) in
      ap (λ (z : List A). put z b ys) t
      ∙ ap (λ (k : ℕ). put (put p a xs ++ q) k ys) (sym (add-zero b))
      ∙ put_right (put p a xs) q b 0 ys f
      ∙ sym (put-left p (put q 0 ys) a xs (omega arith))
      ∙ ap (λ (z : List A). put z a xs) (sym r)

  -- ---- two lists, as parts of both together
  pub part-first : (p q : List A) (n : ℕ) → length p ≡ n → part (p ++ q) 0 n ≡ p
  unfolding part
  part-first p q n e = take_at p q n e

  pub part-second : (p q : List A) (n m : ℕ) → length p ≡ n → length q ≡ m → part (p ++ q) n m ≡ q
  unfolding part
  part-second p q n m e f = rw (drop_at p q n e, ← f) (take-length q)

  -- ---- a list that holds several stretches, seen through one of them: `part w at m`
  pub take-put-front : (l : List A) (m i : ℕ) (xs : List A) → m ≤ length l → i + length xs ≤ m → take m (put l i xs) ≡ put (take m l) i xs
  take-put-front l m i xs h g =
      let e : length (take m l) ≡ m = length-take-le m l h in
      ap (λ (r : List A). take m (put r i xs)) (sym (take-append-drop m l))
      ∙ ap (take m) (put-left (take m l) (drop m l) i xs (omega arith))
      ∙ take_at (put (take m l) i xs) (drop m l) m (length-put (take m l) i xs (omega arith) ∙ e)

  -- a write inside the stretch
  pub view-put : (w : List A) (at m i : ℕ) (xs : List A) → at + m ≤ length w → i + length xs ≤ m → part (put w (at + i) xs) at m ≡ put (part w at m) i xs
  unfolding part
  view-put w at m i xs h g =
      ap (λ (r : List A). take m (drop at r)) (put-tail w at i xs (omega arith))
      ∙ ap (take m) (drop_at (take at w) (put (drop at w) i xs) at (length-take-le at w (omega arith)))
      ∙ take-put-front (drop at w) m i xs (simp length-drop (omega arith)) g

  -- a list shown by its lent stretch: `&l[at..at + n]`
  pub part-lent : (l : List A) (at n : ℕ) → take (at + n - at) (drop at l) ≡ part l at n
  unfolding part
  part-lent l at n = let e : at + n - at ≡ n = omega arith in rw e

  -- ---- a store in front of a stretch, and one that a stretch is written over
  pub put-before : (l : List A) (k : ℕ) (x : A) (xs : List A) → k + 1 + length xs ≤ length l → set (put l (k + 1) xs) k x ≡ put l k (x ∷ xs)
  put-before l k x xs h =
      set-put (put l (k + 1) xs) k x (omega (arith, length-put l (k + 1) xs h))
      ∙ sym (put-comm l k (x ∷ []) (k + 1) xs (omega arith) (omega arith))
      ∙ put-next-at l k (x ∷ []) xs (k + 1) (omega arith) refl

  pub put-set : (l : List A) (at : ℕ) (x : A) (xs : List A) → 0 < length xs → put (set l at x) at xs ≡ put l at xs
  unfolding put
  put-set l at x xs h = rw (take-set-le at l at x (omega arith), drop-set-lt (at + length xs) l at x (omega arith))

  -- ---- an element of a stretch that was written, where its index is known by an equation
  pub get_d-put-at : (l : List A) (k : ℕ) (xs : List A) (j i : ℕ) (d : A) → k ≤ length l → j ≡ k + i → i < length xs → get_or (put l k xs) j d ≡ get_or xs i d
  get_d-put-at l k xs j i d h e g = ap (λ (z : ℕ). get_or (put l k xs) z d) e ∙ get_d-put-in l k xs i d h g

  -- what is written to the front of a list
  pub front-put : (l xs : List A) (n : ℕ) → n ≡ length xs → take n (put l 0 xs) ≡ xs
  front-put l xs n e = ap (λ (k : ℕ). take k (put l 0 xs)) (e ∙ sym (zero-add (length xs))) ∙ take-put-end l 0 xs (omega arith)

  -- what is written over a whole list is all that it holds then
  pub put_whole : (l xs : List A) → length l ≤ length xs → put l 0 xs ≡ xs
  put_whole l xs h =
      let e : length (put l 0 xs) ≤ length xs = rw (put-zero l xs) (simp (length-append, length-drop) (omega arith)) in
      sym (take_all (length xs) (put l 0 xs) e) ∙ front-put l xs (length xs) refl

  -- a stretch that grows at its end
  pub part-grown : (l new xs : List A) (a n r : ℕ) → a ≤ n → n + length xs ≤ length l → r ≡ n + length xs → new ≡ put l n xs → part new a (r - a) ≡ part l a (n - a) ++ xs
  part-grown l new xs a n r h g e f =
      let u : r - a ≡ (n - a) + length xs = omega arith in
      let v : a + (n - a) ≡ n = omega arith in
      ap (part new a) u ∙ sym (part-append new a (n - a) (length xs))
      ∙ rw (v, f, part-put-before l n xs a (n - a) (omega arith) (omega arith), part-put-same l n xs (length xs) (omega arith) refl)

  -- ---- a part that was lent, `&mut l[at..at + n]`, comes back as ys
  pub mid_back : (l : List A) (at n : ℕ) (ys : List A) → length ys ≡ n → put_mid at n l ys ≡ put l at ys
  mid_back l at n ys e = rw (← e, put-def l at ys, ← drop-drop (length ys) at l) (sym (append_assoc (take at l) ys (drop (length ys) (drop at l))))

  pub part-back : (l : List A) (at n : ℕ) (ys : List A) → length ys ≡ n → put_mid at (at + n - at) l ys ≡ put l at ys
  part-back l at n ys e = mid_back l at (at + n - at) ys (omega arith)

  -- one element more of a stretch of one value
  pub put-same-more : (l : List A) (at i : ℕ) (x : A) → at + i < length l → set (put l at (replicate i x)) (at + i) x ≡ put l at (replicate (i + 1) x)
  put-same-more l at i x h =
      put-snoc l at (replicate i x) x (at + i) (omega (arith, length-replicate i x)) h ∙ ap (put l at) (replicate-append-replicate i 1 x)

  -- more, over a front of it that is written already
  pub put-again : (l : List A) (at : ℕ) (xs ys : List A) → at + length xs ≤ length l → put (put l at xs) at (xs ++ ys) ≡ put l at (xs ++ ys)
  put-again l at xs ys h =
      sym (put_next (put l at xs) at xs ys (omega (arith, length-put l at xs h)))
      ∙ ap (λ (z : List A). put z (at + length xs) ys) (put-over l at xs xs (omega arith) refl) ∙ put_next l at xs ys (omega arith)

  -- ---- an element put in at an index
  unfoldable pub spliced : List A → ℕ → A → List A
  spliced l r x = take r l ++ x ∷ drop r l

  -- the first n + 1 after x went in at r
  pub put-spliced : (l : List A) (r n : ℕ) (x : A) → r ≤ n → n < length l → take (n + 1) (put l r (x ∷ part l r (n - r))) ≡ spliced (take n l) r x
  unfolding spliced
  put-spliced l r n x h g =
      let z : length (part l r (n - r)) ≡ n - r = length_part l r (n - r) (omega arith) in
      let e : n + 1 ≡ r + length (x ∷ part l r (n - r)) = omega arith in
      ap (λ (k : ℕ). take k (put l r (x ∷ part l r (n - r)))) e
      ∙ take-put-end l r (x ∷ part l r (n - r)) (omega arith)
      ∙ ap₂ (λ (a b : List A). a ++ x ∷ b) (sym (take-take r n l h)) (part-drop l r n)

pub map-spliced : {A B : Type 0} (f : A → B) (l : List A) (r : ℕ) (x : A) → map f (spliced l r x) ≡ spliced (map f l) r (f x)
unfolding spliced
map-spliced f l zero x = refl
map-spliced f [] (suc r) x = refl
map-spliced {A} {B} f (y ∷ l) (suc r) x = ap (λ (t : List B). f y ∷ t) (map-spliced f l r x)
