-- Domains as stretches of a list of rows: those that wait are apart, so a cut of one leaves the rows of the others alone. The
-- queue in its room, four numbers a stretch. Assumes nothing.
-- Holds: Stretch, rows_at, left_at, right_at, halves_at, StretchIn, Clear, Apart, apart-halves, both-length, after-length,
--   after_both, after-left, after-right, after-other, stretch_at, waiting, waiting-next, waiting-join, waiting-length,
--   waiting_none, waiting-first
use mathlib.Core.Path.{◌≡◌, refl, sym, ap, ◌∙◌}
use mathlib.Core.Logic.{◌⊎◌, inl, inr}
use Prim.Native.Nat.{ℕ, zero, suc, ◌+◌, ◌-◌, ◌*◌, ◌/◌, ◌≤◌, ◌<◌}
use native.Mathlib.Nat.{add-zero, add-suc, suc-add, zero-add}
use native.Mathlib.Numerals.{add-one}
use native.Mathlib.Omega.{arith}
use mathlib.Core.List.{List, [], ◌∷◌, ◌++◌}
use lib.ListN.{length, get_or, length-append}
use Rattle.lists.specs.Lists.{put, part}
use Rattle.lists.specs.Ascends.{All}
use Rattle.lists.proofs.All.{all_append, all-imp}
use Rattle.lists.proofs.Put.{length-put, part-put-same, part-put-after, part-put-before, part-part, part-first, part-second, get_d-put-before, get_d-put-at}
use Rattle.queue.specs.Rows.{waiting_width, two_halves}

-- where the rows of a domain stand, how deep it is, and the place of its node in the record
pub record Stretch : Type 0 where
  pub start : ℕ
  pub count : ℕ
  pub depth : ℕ
  pub place : ℕ

abbrev pub rows_at : List ℕ → Stretch → List ℕ
rows_at rows q = part rows q.start q.count

-- the halves of a stretch, one deeper, where `below` nodes are under the left one
abbrev pub left_at : Stretch → Stretch
left_at q = record { start = q.start; count = q.count / 2; depth = suc q.depth; place = q.place + 1 }

abbrev pub right_at : ℕ → Stretch → Stretch
right_at below q = record { start = q.start + q.count / 2; count = q.count - q.count / 2; depth = suc q.depth; place = q.place + 1 + below }

abbrev pub halves_at : ℕ → Stretch → List Stretch
halves_at below q = left_at q ∷ right_at below q ∷ []

abbrev pub StretchIn : ℕ → Stretch → Type 0
StretchIn n q = q.start + q.count ≤ n

-- ---- stretches apart
abbrev pub Clear : Stretch → Stretch → Type 0
Clear p q = (p.start + p.count ≤ q.start) ⊎ (q.start + q.count ≤ p.start)

unfoldable pub Apart : List Stretch → Type 0
Apart [] = Unit
Apart (q ∷ qs) = All (Clear q) qs × Apart qs

apart-append : (xs ys : List Stretch) → Apart xs → Apart ys → All (λ x. All (Clear x) ys) xs → Apart (xs ++ ys)
unfolding Apart All
apart-append [] ys a b c = b
apart-append (x ∷ xs) ys a b c = (all_append (Clear x) xs ys a.0 c.0, apart-append xs ys a.1 b c.1)

clear-left : (q p : Stretch) → Clear q p → Clear p (left_at q)
clear-left q p (inl h) = inr (omega arith)
clear-left q p (inr h) = inl (omega arith)

clear-right : (below : ℕ) (q p : Stretch) → Clear q p → Clear p (right_at below q)
clear-right below q p (inl h) = inr (omega arith)
clear-right below q p (inr h) = inl (omega arith)

pub apart-halves : (below : ℕ) (q : Stretch) (qs : List Stretch) → Apart (q ∷ qs) → Apart (qs ++ halves_at below q)
unfolding Apart All
apart-halves below q qs a =
    apart-append qs (halves_at below q) a.1 ((inl (omega arith), tt), (tt, tt))
    (all-imp (Clear q) (λ p. All (Clear p) (halves_at below q)) qs (λ p h. (clear-left q p h, (clear-right below q p h, tt))) a.0)

-- ---- a cut of the stretch q: the lists l and r of half its size each are written to it
module _ (rows : List ℕ) (q : Stretch) (l r : List ℕ) (inside : StretchIn (length rows) q) (el : length l ≡ q.count / 2) (er : length r ≡ q.count - q.count / 2) where
  abbrev after : List ℕ
  after = put rows q.start (l ++ r)

  pub both-length : length (l ++ r) ≡ q.count
  both-length = length-append l r ∙ omega arith

  pub after-length : length after ≡ length rows
  after-length = length-put rows q.start (l ++ r) (omega (arith, both-length))

  -- the stretch holds both
  pub after_both : rows_at after q ≡ l ++ r
  after_both = part-put-same rows q.start (l ++ r) q.count (omega arith) both-length

  pub after-left : rows_at after (left_at q) ≡ l
  after-left =
      ap (λ (k : ℕ). part after k (q.count / 2)) (sym (add-zero q.start))
      ∙ sym (part-part after q.start q.count 0 (q.count / 2) (omega arith))
      ∙ ap (λ (x : List ℕ). part x 0 (q.count / 2)) after_both
      ∙ part-first l r (q.count / 2) el

  pub after-right : (below : ℕ) → rows_at after (right_at below q) ≡ r
  after-right below =
      sym (part-part after q.start q.count (q.count / 2) (q.count - q.count / 2) (omega arith))
      ∙ ap (λ (x : List ℕ). part x (q.count / 2) (q.count - q.count / 2)) after_both
      ∙ part-second l r (q.count / 2) (q.count - q.count / 2) el er

  -- and each other one what it held
  pub after-other : (p : Stretch) → Clear q p → rows_at after p ≡ rows_at rows p
  after-other p (inl h) = part-put-after rows q.start (l ++ r) p.start p.count (omega arith) (omega (arith, both-length))
  after-other p (inr h) = part-put-before rows q.start (l ++ r) p.start p.count (omega arith) h

-- ---- the queue in its room: the n stretches from the h-th on
abbrev pub stretch_at : List ℕ → ℕ → Stretch
stretch_at room h =
    record {
      start = get_or room (waiting_width * h) 0;
      count = get_or room (waiting_width * h + 1) 0;
      depth = get_or room (waiting_width * h + 2) 0;
      place = get_or room (waiting_width * h + 3) 0;
    }

unfoldable pub waiting : List ℕ → ℕ → ℕ → List Stretch
waiting room h zero = []
waiting room h (suc n) = stretch_at room h ∷ waiting room (suc h) n

waiting-append : (room : List ℕ) (h n m : ℕ) → waiting room h (n + m) ≡ waiting room h n ++ waiting room (h + n) m
unfolding waiting
waiting-append room h zero m = rw (zero-add m, add-zero h)
waiting-append room h (suc n) m = rw (suc-add n m, waiting-append room (suc h) n m, suc-add h n, add-suc h n)

-- what is written past the queue leaves it alone
waiting-put : (room : List ℕ) (k : ℕ) (xs : List ℕ) (h n : ℕ) → k ≤ length room → waiting_width * (h + n) ≤ k → waiting (put room k xs) h n ≡ waiting room h n
unfolding waiting
waiting-put room k xs h zero f g = refl
waiting-put room k xs h (suc n) f g =
    rw (
      get_d-put-before room k xs (waiting_width * h) 0 f (omega arith),
      get_d-put-before room k xs (waiting_width * h + 1) 0 f (omega arith),
      get_d-put-before room k xs (waiting_width * h + 2) 0 f (omega arith),
      get_d-put-before room k xs (waiting_width * h + 3) 0 f (omega arith),
      waiting-put room k xs (suc h) n f (omega arith),
    )

-- the head of the queue
pub waiting-next : (room : List ℕ) (h t : ℕ) → h < t → waiting room h (t - h) ≡ stretch_at room h ∷ waiting room (h + 1) (t - (h + 1))
unfolding waiting
waiting-next room h t g =
    let e : t - h ≡ suc (t - (h + 1)) = omega arith in
    rw (e, add-one h)

-- two halves that are written at the end of the queue join it
waiting-halves : (room : List ℕ) (t s n e p b : ℕ) → waiting_width * t ≤ length room
    → waiting (put room (waiting_width * t) (two_halves s n (suc e) p b)) t 2 ≡ halves_at b (record { start = s; count = n; depth = e; place = p })
unfolding waiting
waiting-halves room t s n e p b h =
    let xs = two_halves s n (suc e) p b in
    let at = waiting_width * t in
    let next = waiting_width * suc t in
    rw (
      get_d-put-at room at xs at 0 0 h (omega arith) (omega arith),
      get_d-put-at room at xs (at + 1) 1 0 h (omega arith) (omega arith),
      get_d-put-at room at xs (at + 2) 2 0 h (omega arith) (omega arith),
      get_d-put-at room at xs (at + 3) 3 0 h (omega arith) (omega arith),
      get_d-put-at room at xs next 4 0 h (omega arith) (omega arith),
      get_d-put-at room at xs (next + 1) 5 0 h (omega arith) (omega arith),
      get_d-put-at room at xs (next + 2) 6 0 h (omega arith) (omega arith),
      get_d-put-at room at xs (next + 3) 7 0 h (omega arith) (omega arith),
    )

pub waiting-join : (room : List ℕ) (h t s n e p b : ℕ) → h ≤ t → waiting_width * t ≤ length room
    → waiting (put room (waiting_width * t) (two_halves s n (suc e) p b)) h (t + 2 - h) ≡ waiting room h (t - h) ++ halves_at b (record { start = s; count = n; depth = e; place = p })
waiting-join room h t s n e p b g f =
    let m = t - h in
    let xs = two_halves s n (suc e) p b in
    let k : t + 2 - h ≡ m + 2 = omega arith in
    let d : h + m ≡ t = omega arith in
    rw (k, waiting-append (put room (waiting_width * t) xs) h m 2, waiting-put room (waiting_width * t) xs h m f (omega arith), d, waiting-halves room t s n e p b f)

pub waiting-length : (room : List ℕ) (h n : ℕ) → length (waiting room h n) ≡ n
unfolding waiting
waiting-length room h zero = refl
waiting-length room h (suc n) = ap suc (waiting-length room (suc h) n)

pub waiting_none : (room : List ℕ) (h t : ℕ) → t ≤ h → waiting room h (t - h) ≡ []
unfolding waiting
waiting_none room h t g = let e : t - h ≡ 0 = omega arith in rw e

-- the first stretch of a queue: all rows, at depth 0, with the record's first node
pub waiting-first : (room : List ℕ) (n p : ℕ) → waiting_width ≤ length room → waiting (put room 0 (0 ∷ n ∷ 0 ∷ p ∷ [])) 0 1 ≡ record { start = 0; count = n; depth = 0; place = p } ∷ []
unfolding waiting
waiting-first room n p h =
    let xs : List ℕ = 0 ∷ n ∷ 0 ∷ p ∷ [] in
    rw (
      get_d-put-at room 0 xs 0 0 0 (omega arith) (omega arith) (omega arith),
      get_d-put-at room 0 xs 1 1 0 (omega arith) (omega arith) (omega arith),
      get_d-put-at room 0 xs 2 2 0 (omega arith) (omega arith) (omega arith),
      get_d-put-at room 0 xs 3 3 0 (omega arith) (omega arith) (omega arith),
    )
