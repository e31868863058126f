-- Membership as a test and as a fact; members of two lists together, of `keep`, `map`, `joined` and stretches. Assumes nothing.
-- Holds: mem-left, mem-right, mem-at, mem_index, any-mem, mem-any, none_any, none_passes, any_append, keep-mem, mem-keep,
--   keep_at, joined-mem, mem-joined, mem-map, map-mem, member-mem, mem-member, member-nil, member-cons, not-member, member-not,
--   split_at, each-before, each-behind, member-snoc, member-last, member-other, member-more, member-keep
use mathlib.Core.Path.{◌≡◌, refl, sym, ap, subst, ◌∙◌}
use mathlib.Core.Logic.{⊎_elim}
use Prim.Native.Nat.{ℕ, zero, suc, ◌+◌, ◌<◌}
use native.Mathlib.Omega.{arith}
use native.Mathlib.Nat.{not-suc-le-zero}
use native.Mathlib.Numerals.{add-one}
use mathlib.Core.Bool.{Bool, true, false, ◌&&◌, ◌||◌, true≢false}
use mathlib.Core.List.Memᴰ
use mathlib.Core.List.{List, [], ◌∷◌, ◌++◌, map, Memᴰ}
use lib.ListN.{length, get_or, take, drop, take-append-drop, length-take, length-drop}
use lib.Dec.{eqb}
use lib.Seq.{take-suc, drop-cons, get_or-take, get_or-drop}
use borrow.Author.Tests.{eqb-true, eq-eqb, ne_eqb}
use Rattle.lists.specs.Lists.{cons_if, keep, any_of, member, joined}
use Rattle.lists.proofs.Tests.{clash, and-of, and-fst, and-snd, or_cases, or_left, or_right, or_assoc, fails, or-false, or-true, same_test, eqb_comm}

module _ {A : Type 0} where
  -- ---- two lists together
  pub mem-left : {a : A} (s t : List A) → Memᴰ a s → Memᴰ a (s ++ t)
  mem-left {a = a} [] t x' = elim x' [ ]
  mem-left (x ∷ s) t (Memᴰ.head e) = Memᴰ.head e
  mem-left (x ∷ s) t (Memᴰ.tail m) = Memᴰ.tail (mem-left s t m)

  pub mem-right : {a : A} (s t : List A) → Memᴰ a t → Memᴰ a (s ++ t)
  mem-right [] t m = m
  mem-right (x ∷ s) t m = Memᴰ.tail (mem-right s t m)

  -- ---- by index
  pub mem-at : (l : List A) (i : ℕ) (d : A) → i < length l → Memᴰ (get_or l i d) l
  mem-at [] i d h = absurd (not-suc-le-zero h)
  mem-at (x ∷ l) zero d h = Memᴰ.head refl
  mem-at (x ∷ l) (suc i) d h = Memᴰ.tail (mem-at l i d (omega arith))

  pub mem_index : (l : List A) {a : A} (d : A) → Memᴰ a l → (i : ℕ) × (i < length l) × (get_or l i d ≡ a)
  mem_index [] {a = a} d x' = elim x' [ ]
  mem_index (x ∷ l) d (Memᴰ.head e) = (zero, omega arith, sym e)
  mem_index (x ∷ l) d (Memᴰ.tail m) = let r = mem_index l d m in (suc r.0, omega (arith, r.1), r.2)

  -- ---- some element passes a test
  pub any-mem : (p : A → Bool) (l : List A) → any_of p l ≡ true → (x : A) × Memᴰ x l × (p x ≡ true)
  unfolding any_of
  any-mem p [] h = absurd (true≢false (sym h))
  any-mem p (x ∷ l) h = ⊎_elim (λ e. (x, Memᴰ.head refl, e)) (λ e. let r = any-mem p l e in (r.0, Memᴰ.tail r.1, r.2)) (or_cases (p x) (any_of p l) h)

  pub mem-any : (p : A → Bool) (l : List A) {x : A} → Memᴰ x l → p x ≡ true → any_of p l ≡ true
  unfolding any_of
  mem-any p [] {x = x} x4 h = elim x4 [ ]
  mem-any p (y ∷ l) {x} (Memᴰ.head e) h = or_left (p y) (any_of p l) (subst (λ (z : A). p z ≡ true) e h)
  mem-any p (y ∷ l) (Memᴰ.tail m) h = or_right (p y) (any_of p l) (mem-any p l m h)

  pub none_any : (p : A → Bool) (l : List A) {x : A} → any_of p l ≡ false → Memᴰ x l → p x ≡ false
  none_any p l {x} h m = fails (p x) (λ e. clash (mem-any p l m e) h)

  pub none_passes : (p : A → Bool) (l : List A) → ((x : A) → Memᴰ x l → p x ≡ false) → any_of p l ≡ false
  none_passes p l h = fails (any_of p l) (λ e. let r = any-mem p l e in clash r.2 (h r.0 r.1))

  pub any_append : (p : A → Bool) (xs ys : List A) → any_of p (xs ++ ys) ≡ any_of p xs || any_of p ys
  unfolding any_of
  any_append p [] ys = refl
  any_append p (x ∷ xs) ys = rw (any_append p xs ys) (sym (or_assoc (p x) (any_of p xs) (any_of p ys)))

  -- ---- what is kept
  pub keep-mem : (p : A → Bool) (l : List A) {x : A} → Memᴰ x (keep p l) → Memᴰ x l × (p x ≡ true)
  unfolding keep
  keep-mem p [] m = absurd (Memᴰ.not-nil m)
  keep-mem p (y ∷ l) {x} m = go (p y) refl m (λ o. keep-mem p l o)
    where
      go : (b : Bool) → p y ≡ b → Memᴰ x (cons_if b y (keep p l)) → (Memᴰ x (keep p l) → Memᴰ x l × (p x ≡ true)) → Memᴰ x (y ∷ l) × (p x ≡ true)
      go true e n f = ⊎_elim (λ q. (Memᴰ.head q, subst (λ (z : A). p z ≡ true) (sym q) e)) (λ o. let r = f o in (Memᴰ.tail r.0, r.1)) (Memᴰ.cases_cons n)
      go false e n f = let r = f n in (Memᴰ.tail r.0, r.1)

  pub mem-keep : (p : A → Bool) (l : List A) {x : A} → Memᴰ x l → p x ≡ true → Memᴰ x (keep p l)
  unfolding keep
  mem-keep p [] {x = x} x4 h = elim x4 [ ]
  mem-keep p (y ∷ l) {x} (Memᴰ.head e) h = rw (subst (λ (z : A). p z ≡ true) e h) (Memᴰ.head e)
  mem-keep p (y ∷ l) {x} (Memᴰ.tail m) h = go (p y) (mem-keep p l m h)
    where
      go : (b : Bool) → Memᴰ x (keep p l) → Memᴰ x (cons_if b y (keep p l))
      go true n = Memᴰ.tail n
      go false n = n

  -- by index: what is kept at k stands in the list at some j
  pub keep_at : (p : A → Bool) (l : List A) (k : ℕ) (d : A) → k < length (keep p l) → (j : ℕ) × (j < length l) × (get_or (keep p l) k d ≡ get_or l j d) × (p (get_or l j d) ≡ true)
  keep_at p l k d h =
      let m = keep-mem p l (mem-at (keep p l) k d h) in
      let r = mem_index l d m.0 in
      (r.0, r.1, sym r.2, rw r.2 m.1)

  -- ---- lists of lists
  pub joined-mem : (ls : List (List A)) {x : A} → Memᴰ x (joined ls) → (l : List A) × Memᴰ l ls × Memᴰ x l
  unfolding joined
  joined-mem [] m = absurd (Memᴰ.not-nil m)
  joined-mem (l ∷ ls) m = ⊎_elim (λ n. (l, Memᴰ.head refl, n)) (λ n. let r = joined-mem ls n in (r.0, Memᴰ.tail r.1, r.2)) (Memᴰ.append_cases l m)

  pub mem-joined : (ls : List (List A)) {l : List A} {x : A} → Memᴰ l ls → Memᴰ x l → Memᴰ x (joined ls)
  unfolding joined
  mem-joined [] {l = l} {x = x} x4 n = elim x4 [ ]
  mem-joined (k ∷ ls) {l} {x} (Memᴰ.head e) n = mem-left k (joined ls) (subst (λ (z : List A). Memᴰ x z) e n)
  mem-joined (k ∷ ls) (Memᴰ.tail m) n = mem-right k (joined ls) (mem-joined ls m n)

-- ---- the image of a list
module _ {A B : Type 0} (f : A → B) where
  pub mem-map : (l : List A) {x : A} → Memᴰ x l → Memᴰ (f x) (map f l)
  mem-map [] x3 = elim x3 [ ]
  mem-map (y ∷ l) (Memᴰ.head e) = Memᴰ.head (ap f e)
  mem-map (y ∷ l) (Memᴰ.tail m) = Memᴰ.tail (mem-map l m)

  pub map-mem : (l : List A) {y : B} → Memᴰ y (map f l) → (x : A) × Memᴰ x l × (y ≡ f x)
  map-mem [] {y = y} x' = elim x' [ ]
  map-mem (x ∷ l) (Memᴰ.head e) = (x, Memᴰ.head refl, e)
  map-mem (x ∷ l) (Memᴰ.tail m) = let r = map-mem l m in (r.0, Memᴰ.tail r.1, r.2)

-- ---- a number in a list of numbers
pub member-mem : (l : List ℕ) (z : ℕ) → member z l ≡ true → Memᴰ z l
unfolding member
member-mem l z h = let r = any-mem (λ x. eqb x z) l h in subst (λ (y : ℕ). Memᴰ y l) (eqb-true r.0 z r.2) r.1

pub mem-member : (l : List ℕ) (z : ℕ) → Memᴰ z l → member z l ≡ true
unfolding member
mem-member l z m = mem-any (λ x. eqb x z) l m (eq-eqb z z refl)

pub member-nil : (z : ℕ) → member z [] ≡ false
unfolding member any_of
member-nil z = refl

pub member-cons : (z x : ℕ) (xs : List ℕ) → member z (x ∷ xs) ≡ eqb x z || member z xs
unfolding member any_of
member-cons z x xs = refl

pub not-member : (l : List ℕ) (z : ℕ) → (Memᴰ z l → ⊥) → member z l ≡ false
not-member l z h = fails (member z l) (λ e. h (member-mem l z e))

pub member-not : (l : List ℕ) (z : ℕ) → member z l ≡ false → Memᴰ z l → ⊥
member-not l z h m = clash (mem-member l z m) h

-- ---- a list about its element at i
module _ {A : Type 0} (l : List A) (i : ℕ) (d : A) (h : i < length l) where
  pub split_at : l ≡ take i l ++ get_or l i d ∷ drop (suc i) l
  split_at = sym (take-append-drop i l) ∙ ap (λ (t : List A). take i l ++ t) (drop-cons l i d h)

  -- what holds of each element before it, and of each behind it
  pub each-before : (P : A → Type 0) → ((j : ℕ) → j < i → P (get_or l j d)) → (x : A) → Memᴰ x (take i l) → P x
  each-before P f x m =
      let r = mem_index (take i l) d m in
      let b : r.0 < i = omega (arith, r.1, length-take i l) in
      subst P (sym (get_or-take i l r.0 d b) ∙ r.2) (f r.0 b)

  pub each-behind : (P : A → Type 0) → ((j : ℕ) → i < j → j < length l → P (get_or l j d)) → (x : A) → Memᴰ x (drop (suc i) l) → P x
  each-behind P f x m =
      let r = mem_index (drop (suc i) l) d m in
      subst P (sym (get_or-drop (suc i) l r.0 d) ∙ r.2) (f (suc i + r.0) (omega arith) (omega (arith, r.1, length-drop (suc i) l)))

-- ---- one number more at the end
pub member-snoc : (z : ℕ) (xs : List ℕ) (x : ℕ) → member z (xs ++ x ∷ []) ≡ member z xs || eqb x z
unfolding member any_of
member-snoc z xs x = any_append (λ y. eqb y z) xs (x ∷ []) ∙ ap (λ (b : Bool). member z xs || b) (or-false (eqb x z))

pub member-last : (xs : List ℕ) (x : ℕ) → member x (xs ++ x ∷ []) ≡ true
member-last xs x = member-snoc x xs x ∙ rw (eq-eqb x x refl) (or-true (member x xs))

pub member-other : (z : ℕ) (xs : List ℕ) (x : ℕ) → (x ≡ z → ⊥) → member z (xs ++ x ∷ []) ≡ member z xs
member-other z xs x n = member-snoc z xs x ∙ rw (ne_eqb x z n) (or-false (member z xs))

-- the first elements, and one more
pub member-more : (l : List ℕ) (i x : ℕ) → i < length l → x ≡ get_or l i 0 → (z : ℕ) → member z (take (i + 1) l) ≡ member z (take i l) || eqb z x
member-more l i x h e z = rw (add-one i, take-suc l i 0 h, ← e, eqb_comm z x) (member-snoc z (take i l) x)

-- ---- a member of what is kept
pub member-keep : (p : ℕ → Bool) (l : List ℕ) (z : ℕ) → member z (keep p l) ≡ member z l && p z
member-keep p l z =
    same_test (member z (keep p l)) (member z l && p z)
    (λ h. let r = keep-mem p l (member-mem (keep p l) z h) in and-of (mem-member l z r.0) r.1)
    (λ h. mem-member (keep p l) z (mem-keep p l (member-mem l z (and-fst (member z l) (p z) h)) (and-snd (member z l) (p z) h)))
