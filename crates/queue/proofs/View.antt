-- One list of working room that holds spare room for an ordering (one entry a row), the packed leaves (one a row), and behind them the queue
-- (eight numbers a row): what the code writes to the one list, as the loop's laws have it of each. Assumes nothing.
-- Holds: packed_in, room_in, packed-most, packed-length, room-length, start-at, view-count, view-depth, view-place, spare-room,
--   spare-packed, packed-put, packed-room, room-put, room-packed, first-room
use mathlib.Core.Path.{◌≡◌, sym, ap, ◌∙◌}
use Prim.Native.Nat.{ℕ, ◌+◌, ◌*◌, ◌≤◌, ◌<◌}
use native.Mathlib.Nat.{add-zero, add_assoc}
use native.Mathlib.Omega.{arith}
use mathlib.Core.List.{List, [], ◌∷◌}
use lib.ListN.{length, get_or, drop, length-take}
use Rattle.lists.specs.Lists.{put, part}
use Rattle.queue.specs.Rows.{waiting_width}
use Rattle.lists.proofs.Put.{length_part, view-put, part-put-after, part-put-before, get_d_part}

abbrev pub packed_in : ℕ → List ℕ → List ℕ
packed_in n w = part w n n

abbrev pub room_in : ℕ → List ℕ → List ℕ
room_in n w = part w (2 * n) (2 * waiting_width * n)

pub packed-most : (n : ℕ) (w : List ℕ) → length (packed_in n w) ≤ n
unfolding part
packed-most n w = omega (arith, length-take n (drop n w))

module _ (n : ℕ) (w : List ℕ) (fit : 10 * n ≤ length w) where
  pub packed-length : length (packed_in n w) ≡ n
  packed-length = length_part w n n (omega arith)

  pub room-length : length (room_in n w) ≡ 2 * waiting_width * n
  room-length = length_part w (2 * n) (2 * waiting_width * n) (omega arith)

  -- start, count, depth and place of the h-th stretch of the queue
  pub start-at : (h : ℕ) → h < 2 * n → get_or (room_in n w) (waiting_width * h) 0 ≡ get_or w (2 * n + waiting_width * h) 0
  start-at h g = get_d_part w (2 * n) (2 * waiting_width * n) (waiting_width * h) 0 (omega arith)

  pub view-count : (h : ℕ) → h < 2 * n → get_or (room_in n w) (waiting_width * h + 1) 0 ≡ get_or w (2 * n + waiting_width * h + 1) 0
  view-count h g = get_d_part w (2 * n) (2 * waiting_width * n) (waiting_width * h + 1) 0 (omega arith) ∙ ap (λ (i : ℕ). get_or w i 0) (sym (add_assoc (2 * n) (waiting_width * h) 1))

  pub view-depth : (h : ℕ) → h < 2 * n → get_or (room_in n w) (waiting_width * h + 2) 0 ≡ get_or w (2 * n + waiting_width * h + 2) 0
  view-depth h g = get_d_part w (2 * n) (2 * waiting_width * n) (waiting_width * h + 2) 0 (omega arith) ∙ ap (λ (i : ℕ). get_or w i 0) (sym (add_assoc (2 * n) (waiting_width * h) 2))

  pub view-place : (h : ℕ) → h < 2 * n → get_or (room_in n w) (waiting_width * h + 3) 0 ≡ get_or w (2 * n + waiting_width * h + 3) 0
  view-place h g = get_d_part w (2 * n) (2 * waiting_width * n) (waiting_width * h + 3) 0 (omega arith) ∙ ap (λ (i : ℕ). get_or w i 0) (sym (add_assoc (2 * n) (waiting_width * h) 3))

  -- a write to the spare room
  module _ (xs : List ℕ) (h : length xs ≤ n) where
    pub spare-room : room_in n (put w 0 xs) ≡ room_in n w
    spare-room = part-put-after w 0 xs (2 * n) (2 * waiting_width * n) (omega arith) (omega arith)

    pub spare-packed : packed_in n (put w 0 xs) ≡ packed_in n w
    spare-packed = part-put-after w 0 xs n n (omega arith) (omega arith)

  -- a write to the packed leaves
  module _ (i : ℕ) (xs : List ℕ) (h : i + length xs ≤ n) where
    pub packed-put : packed_in n (put w (n + i) xs) ≡ put (packed_in n w) i xs
    packed-put = view-put w n n i xs (omega arith) h

    pub packed-room : room_in n (put w (n + i) xs) ≡ room_in n w
    packed-room = part-put-after w (n + i) xs (2 * n) (2 * waiting_width * n) (omega arith) (omega arith)

  -- a write to the queue
  module _ (i : ℕ) (xs : List ℕ) (h : i + length xs ≤ 2 * waiting_width * n) where
    pub room-put : room_in n (put w (2 * n + i) xs) ≡ put (room_in n w) i xs
    room-put = view-put w (2 * n) (2 * waiting_width * n) i xs (omega arith) h

    pub room-packed : packed_in n (put w (2 * n + i) xs) ≡ packed_in n w
    room-packed = part-put-before w (2 * n + i) xs n n (omega arith) (omega arith)

-- the queue's first stretch
pub first-room : (n place : ℕ) (w w₁ : List ℕ) → 10 * n ≤ length w → 1 ≤ n → w₁ ≡ put w (2 * n) (0 ∷ n ∷ 0 ∷ place ∷ []) → room_in n w₁ ≡ put (room_in n w) 0 (0 ∷ n ∷ 0 ∷ place ∷ [])
first-room n place w w₁ fit some e =
    let f : w₁ ≡ put w (2 * n + 0) (0 ∷ n ∷ 0 ∷ place ∷ []) = rw (add-zero (2 * n)) e in
    rw f (room-put n w fit 0 (0 ∷ n ∷ 0 ∷ place ∷ []) (omega arith))
