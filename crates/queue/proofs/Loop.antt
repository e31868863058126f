-- The invariant of the loop over the queue, in the code's terms, and its turns, for any kind of domain. The queue stands in a list
-- `room`, four numbers a stretch, from its `head`-th up to its `tail`-th; `ds` are the domains that wait. Assumes nothing.
-- Holds: queued, cuts_left, places, StateOf, Inv, inv-first, first-places, inv-end, inv-next, turn_inside, turn-good, turn-same,
--   turn-shallow, turn-left, turn-right, turn-rows, turn-full, turn_end, turn-leaves, turn-wait, turn-done, turn-places,
--   turn-room, inv-wait, wait-places, less-wait, inv-done, less_done
use mathlib.Core.Path.{◌≡◌}
use Prim.Native.Nat.{ℕ, suc, ◌+◌, ◌-◌, ◌*◌, ◌/◌, ◌≤◌, ◌<◌}
use native.Mathlib.Omega.{arith}
use mathlib.Core.List.{List, [], ◌∷◌, ◌++◌, map, map-append}
use lib.ListN.{length, get_or, length-append}
use Rattle.lists.specs.Lists.{put, part, joined, total}
use Rattle.lists.proofs.Put.{length-put}
use Rattle.lists.proofs.Sums.{sum-append}
use Rattle.definition.specs.Packed.{row_numbers}
use Rattle.queue.specs.Rows.{waiting_width, two_halves, two_own, with_own}
use Rattle.queue.proofs.Kind.{Kind, halves_of, leaf_rows_lem, leaf_own}
use Rattle.queue.proofs.Stretches.{Stretch, halves_at, waiting, waiting-next, waiting-join, waiting-length, waiting_none, waiting-first}
use Rattle.queue.proofs.State.{Holds, State, queue_cuts, cuts-length, state-first, state-end, state-wait, state-done}
use Rattle.queue.proofs.State.{now-inside, now_full, now-rows, now-leaves, now-good, now-same, now-shallow, now-left, now-right, now-wait, now-done}

-- the waiting stretches, and what each turn of the loop brings down
abbrev pub queued : List ℕ → ℕ → ℕ → List Stretch
queued room head tail = waiting room head (tail - head)

unfoldable pub cuts_left : List ℕ → ℕ → ℕ → ℕ
cuts_left room head tail = queue_cuts (queued room head tail)

-- the places of their nodes
abbrev pub places : List Stretch → List ℕ
places qs = map (λ q. q.place) qs

-- the state, where the loop began with the domain d₀ of n rows, and with the lists I₀ and O₀
abbrev pub StateOf : {D : Type 0} {leaf : ℕ} → Kind D leaf → ℕ → D → List ℕ → List ℕ → ℕ → ℕ → List ℕ → List ℕ → List ℕ → List Stretch → List D → ℕ → ℕ → ℕ → Type 0
StateOf K n d₀ I₀ O₀ base k₀ rows I O qs ds head at k =
    State K base n n (k₀ + 2 * n)
    (put I₀ 0 (joined (leaf_rows_lem K (d₀ ∷ [])))) (with_own base (leaf_own K (d₀ ∷ [])) k₀ O₀) (k₀ + length (K.leaves (d₀ ∷ [])))
    rows I O qs ds head at k

pub record Inv {D : Type 0} {leaf : ℕ} (K : Kind D leaf) (n : ℕ) (d₀ : D) (I₀ O₀ : List ℕ) (base k₀ : ℕ) (rows room I O : List ℕ) (ds : List D) (head tail at k : ℕ) : Type 0 where
  pub order : head ≤ tail
  pub wide : 2 * waiting_width * n ≤ length room
  pub fits : tail < 2 * n
  pub up : k₀ ≤ k
  pub state : StateOf K n d₀ I₀ O₀ base k₀ rows I O (queued room head tail) ds head at k

pub inv-first : {D : Type 0} {leaf : ℕ} (K : Kind D leaf) (n : ℕ) (d₀ : D) (I₀ O₀ : List ℕ) (base k₀ place : ℕ) (rows room room₁ : List ℕ) → 1 ≤ leaf → rows ≡ K.rows_of d₀ → K.Good d₀ → 0 ≡ K.depth_of d₀
    → length rows ≡ n → 1 ≤ n → 2 * waiting_width * n ≤ length room → n ≤ length I₀ → row_numbers * (k₀ + 2 * n) ≤ length O₀ → room₁ ≡ put room 0 (0 ∷ n ∷ 0 ∷ place ∷ [])
    → Inv K n d₀ I₀ O₀ base k₀ rows room₁ I₀ O₀ (d₀ ∷ []) 0 1 0 k₀
inv-first K n d₀ I₀ O₀ base k₀ place rows room room₁ p r g z l h w f o e =
    record {
      order = omega arith;
      wide = rw (e, length-put room 0 (0 ∷ n ∷ 0 ∷ place ∷ []) (omega arith)) w;
      fits = omega arith;
      up = omega arith;
      state = rw (e, waiting-first room n place (omega arith), ← l) (state-first K d₀ rows I₀ O₀ base k₀ place p r g z (rw l h) (rw l f) (rw l o));
    }

pub first-places : (n place : ℕ) (room room₁ : List ℕ) → waiting_width ≤ length room → room₁ ≡ put room 0 (0 ∷ n ∷ 0 ∷ place ∷ []) → places (queued room₁ 0 1) ≡ place ∷ []
first-places n place room room₁ h e = rw (e, waiting-first room n place h)

module _ {D : Type 0} {leaf : ℕ} {K : Kind D leaf} {n : ℕ} {d₀ : D} {I₀ O₀ : List ℕ} {base k₀ : ℕ} {rows room I O : List ℕ} where
  -- the loop ends with what is due
  pub inv-end : {ds : List D} {head tail at k : ℕ} → Inv K n d₀ I₀ O₀ base k₀ rows room I O ds head tail at k → tail ≤ head
      → (k ≡ k₀ + length (K.leaves (d₀ ∷ []))) × (I ≡ put I₀ 0 (joined (leaf_rows_lem K (d₀ ∷ []))))
      × (O ≡ with_own base (leaf_own K (d₀ ∷ [])) k₀ O₀)
  inv-end {ds} {head} {tail} inv h = state-end ds (rw (waiting_none room head tail h) at inv.state)

  -- as long as a stretch waits, so does a domain
  pub inv-next : {head tail at k : ℕ} → Inv K n d₀ I₀ O₀ base k₀ rows room I O [] head tail at k → head < tail → ⊥
  unfolding Holds
  inv-next {head} {tail} inv h = rw (waiting-next room head tail h) at inv.state.holds

  -- a turn, with the stretch (s, c) at depth e with its node at p and the domain d that stand first
  module _ {d : D} {ds : List D} {head tail at k : ℕ} (inv : Inv K n d₀ I₀ O₀ base k₀ rows room I O (d ∷ ds) head tail at k)
      (h : head < tail) {s c e p : ℕ} (es : get_or room (waiting_width * head) 0 ≡ s) (ec : get_or room (waiting_width * head + 1) 0 ≡ c)
      (ee : get_or room (waiting_width * head + 2) 0 ≡ e) (ep : get_or room (waiting_width * head + 3) 0 ≡ p) where
    abbrev q : Stretch
    q = record { start = s; count = c; depth = e; place = p }

    abbrev rest : List Stretch
    rest = queued room (head + 1) tail

    -- the rows after the cut
    abbrev cut_rows : List ℕ
    cut_rows = put rows s (K.rows_of (K.left d) ++ K.rows_of (K.right d))

    st : StateOf K n d₀ I₀ O₀ base k₀ rows I O (q ∷ rest) (d ∷ ds) head at k
    st = rw (es, ec, ee, ep) at (rw (waiting-next room head tail h) at inv.state)

    pub turn_inside : s + c ≤ length rows
    turn_inside = rw inv.state.all (now-inside st)

    pub turn-good : K.Good d
    turn-good = now-good st

    pub turn-same : part rows s c ≡ K.rows_of d
    turn-same = now-same st

    -- a cut more can be counted
    pub turn-shallow : e ≤ head
    turn-shallow = now-shallow st

    pub turn-left : length (K.rows_of (K.left d)) ≡ c / 2
    turn-left = now-left st

    pub turn-right : length (K.rows_of (K.right d)) ≡ c - c / 2
    turn-right = now-right st

    pub turn-rows : at + c ≤ length I
    turn-rows = omega (arith, now-rows st, inv.state.fit-I)

    pub turn-full : 1 ≤ c
    turn-full = now_full st

    pub turn_end : k + 2 ≤ k₀ + 2 * n
    turn_end = omega (arith, now-leaves st, turn-full)

    pub turn-leaves : row_numbers * (k + 2) ≤ length O
    turn-leaves = omega (arith, turn_end, inv.state.fit-O)

    -- the leaves of what waits, for whatever else is kept of the domains
    pub turn-wait : leaf ≤ c / 2 → K.leaves (d ∷ ds) ≡ K.leaves (ds ++ halves_of K d)
    turn-wait g = now-wait st (omega arith)

    pub turn-done : c / 2 < leaf → K.leaves (d ∷ ds) ≡ K.left d ∷ K.right d ∷ K.leaves ds
    turn-done g = now-done st (omega arith)

    cuts_now : cuts_left room head tail ≡ 2 * c - 1 + queue_cuts rest
    unfolding cuts_left total
    cuts_now = rw (waiting-next room head tail h, ec)

    -- the places of what waits
    pub turn-places : places (queued room head tail) ≡ p ∷ places (queued room (head + 1) tail)
    turn-places = rw (waiting-next room head tail h, ep)

    module _ (g : leaf ≤ c / 2) where
      waited : (below : ℕ) → StateOf K n d₀ I₀ O₀ base k₀ cut_rows I O (rest ++ halves_at below q) (ds ++ halves_of K d) (head + 1) at k
      waited below = state-wait st below (omega arith)

      pub turn-room : tail + 2 < 2 * n
      turn-room =
          let w = waited 0 in
          omega (arith, w.room-left, cuts-length (rest ++ halves_at 0 q) w.waits.full, length-append rest (halves_at 0 q), waiting-length room (head + 1) (tail - (head + 1)))

      -- wherever the right half's node stands
      module _ (below : ℕ) where
        pub inv-wait : (rows₁ room₁ : List ℕ) → rows₁ ≡ cut_rows → room₁ ≡ put room (waiting_width * tail) (two_halves s c (suc e) p below)
            → Inv K n d₀ I₀ O₀ base k₀ rows₁ room₁ I O (ds ++ halves_of K d) (head + 1) (tail + 2) at k
        inv-wait rows₁ room₁ i f =
            let r = turn-room in
            record {
              order = omega arith;
              wide = rw (f, length-put room (waiting_width * tail) (two_halves s c (suc e) p below) (omega (arith, inv.wide))) inv.wide;
              fits = turn-room;
              up = inv.up;
              state = rw (i, f, waiting-join room (head + 1) tail s c e p below (omega arith) (omega (arith, inv.wide))) (waited below);
            }

        pub wait-places : (room₁ : List ℕ) → room₁ ≡ put room (waiting_width * tail) (two_halves s c (suc e) p below)
            → places (queued room₁ (head + 1) (tail + 2)) ≡ places (queued room (head + 1) tail) ++ (p + 1) ∷ (p + 1 + below) ∷ []
        wait-places room₁ f =
            let r = turn-room in
            rw (f, waiting-join room (head + 1) tail s c e p below (omega arith) (omega (arith, inv.wide))) (map-append (λ (q : Stretch). q.place) rest (halves_at below q))

        pub less-wait : (room₁ : List ℕ) → room₁ ≡ put room (waiting_width * tail) (two_halves s c (suc e) p below) → cuts_left room₁ (head + 1) (tail + 2) < cuts_left room head tail
        unfolding cuts_left total
        less-wait room₁ f =
            let r = turn-room in
            rw (f, waiting-join room (head + 1) tail s c e p below (omega arith) (omega (arith, inv.wide)))
            (omega (arith, sum-append (λ (p : Stretch). 2 * p.count - 1) rest (halves_at below q), cuts_now, turn-full, inv.state.pos))

    pub inv-done : c / 2 < leaf → (rows₁ I₁ O₁ : List ℕ) → rows₁ ≡ cut_rows → I₁ ≡ put I at (part rows₁ s c) → O₁ ≡ two_own O k (base + at) c (suc e)
        → Inv K n d₀ I₀ O₀ base k₀ rows₁ room I₁ O₁ ds (head + 1) tail (at + c) (k + 2)
    inv-done g rows₁ I₁ O₁ e f o =
        record {
          order = omega arith;
          wide = inv.wide;
          fits = inv.fits;
          up = omega (arith, inv.up);
          state = rw (f, o, e) (state-done st (omega arith));
        }

    pub less_done : cuts_left room (head + 1) tail < cuts_left room head tail
    unfolding cuts_left total
    less_done = omega (arith, cuts_now, turn-full)
