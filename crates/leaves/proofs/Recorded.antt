-- The record while the queue's loop goes on: the places that the queue holds are those of the domains that wait, the leaves that are still to
-- come have the next numbers, and both lists of the record are filled but for what is under those domains. Where that begins, its two
-- turns, and where it ends. Assumes nothing.
-- Holds: level_number, Recorded, NodeRoom, recorded-first, recorded-end, node-room, recorded-wait, recorded-done
use mathlib.Core.Path.{◌≡◌, sym, ap, ap₂, subst, ◌∙◌}
use mathlib.Core.List.{List, [], ◌∷◌, ◌++◌, map, map-append, head-eq_of_cons-eq, tail-eq_of_cons-eq, nil≢cons}
use Prim.Native.Nat.{ℕ, suc, ◌+◌, ◌-◌, ◌*◌, ◌/◌, ◌≤◌, ◌<◌}
use native.Mathlib.Omega.{arith}
use lib.ListN.{length, set}
use lib.Ieee.{Float, nan}
use Rattle.lists.specs.Lists.{put, from}
use Rattle.definition.specs.Number.{plus_zero}
use Rattle.definition.specs.Cut.{Domain, root_domain, longest_axis_lem, plane, left_of, right_of}
use Rattle.definition.specs.Record.{Cuts, whole_of, float_of, leaf_number, depths_of, nodes_from, record_of}
use Rattle.definition.proofs.Cuts.{left-length, left-good}
use Rattle.queue.specs.Nodes.{nodes_under_lem}
use Rattle.queue.proofs.Loop.{queued, places}
use Rattle.queue.proofs.Stretches.{waiting_none}
use Rattle.rows.specs.Rows.{GoodRows}
use Rattle.rows.proofs.Good.{good-good}
use Rattle.record_laws.specs.Table.{cuts_at, node_count, leaf_count}
use Rattle.record_laws.proofs.Entries.{node-count, leaf-count-leaf, leaf-count-some}
use Rattle.record_laws.proofs.Steps.{level-cuts}
use Rattle.record_laws.proofs.Under.{cuts-small, cuts-nodes}
use Rattle.record_laws.proofs.Depths.{level_leaves}
use Rattle.record_laws.proofs.Placed.{Placed, root_placed, half_cuts, half-more, half-done, placed_halves, placed_leaves}
use Rattle.record_laws.proofs.QueueNumbers.{placed-numbers}
use Rattle.record_laws.proofs.Filled.{Filled, filled-first, filled-end, filled-room, large-nodes, small-nodes, filled-wait, filled-done}

-- the number of the level's leaf that has i leaves to its left
abbrev pub level_number : ℕ → List Float → ℕ → List ℕ → ℕ → ℕ
level_number d cs leaf active = leaf_number (depths_of (level_leaves d cs leaf active))

-- Both lists began as C₀ and P₀, and the record stands from `node` on. The first leaf has the k₀-th domain row, and the next one the k-th.
pub record Recorded (d : ℕ) (cs : List Float) (leaf : ℕ) (active : List ℕ) (node k₀ : ℕ) (C₀ : List ℕ) (P₀ : List Float)
    (ws : List Placed) (room : List ℕ) (head tail k : ℕ) (C : List ℕ) (P : List Float) : Type 0 where
  pub placed : places (queued room head tail) ≡ map (λ w. w.place) ws
  pub numbers : map (λ w. level_number d cs leaf active w.index) (placed_leaves d cs leaf ws) ≡ from (k - k₀) (length (placed_leaves d cs leaf ws))
  pub cuts : Filled d cs leaf (level_number d cs leaf active) whole_of 0 (put C₀ node (map whole_of (record_of d cs leaf active))) C ws
  pub planes : Filled d cs leaf (level_number d cs leaf active) float_of nan (put P₀ node (map float_of (record_of d cs leaf active))) P ws

-- what the code may go by, where the first domain has c rows and its node stands at p
pub record NodeRoom (leaf c p : ℕ) (C : List ℕ) (P : List Float) : Type 0 where
  pub cut : (p < length C) × (p < length P)
  pub halves : leaf ≤ c / 2 → p + 1 + nodes_under_lem (c / 2) leaf < length C
  pub two : c / 2 < leaf → (p + 3 ≤ length C) × (p + 3 ≤ length P)

some-nodes : (t : Cuts) → 1 ≤ node_count t
some-nodes t = omega (arith, node-count t, leaf-count-some t)

module _ {d : ℕ} {cs : List Float} {leaf : ℕ} {active : List ℕ} {node k₀ : ℕ} {C₀ : List ℕ} {P₀ : List Float} (pos : 0 < d) (lp : 1 ≤ leaf) where
  pub recorded-first : {room : List ℕ} → GoodRows d cs active → 1 ≤ length active → node + 4 * length active ≤ length C₀ → node + 4 * length active ≤ length P₀
      → places (queued room 0 1) ≡ node ∷ [] → Recorded d cs leaf active node k₀ C₀ P₀ (root_placed d cs active node ∷ []) room 0 1 k₀ C₀ P₀
  unfolding record_of root_domain
  recorded-first g some hC hP e =
      let w = root_placed d cs active node in
      let small = cuts-small d cs leaf pos lp (root_domain d cs active) (good-good active g) some in
      let number = level_number d cs leaf active in
      record {
        placed = e;
        numbers = placed-numbers d cs leaf pos lp active g some node ∙ ap (λ (i : ℕ). from i (length (placed_leaves d cs leaf (w ∷ [])))) (omega arith);
        cuts =
            subst (λ (t : Cuts). Filled d cs leaf number whole_of 0 (put C₀ node (map whole_of (nodes_from number 0 t))) C₀ (w ∷ [])) (sym (level-cuts d cs leaf active))
            (filled-first d cs leaf number whole_of 0 C₀ w (omega (arith, small.1)));
        planes =
            subst (λ (t : Cuts). Filled d cs leaf number float_of nan (put P₀ node (map float_of (nodes_from number 0 t))) P₀ (w ∷ [])) (sym (level-cuts d cs leaf active))
            (filled-first d cs leaf number float_of nan P₀ w (omega (arith, small.1)));
      }

  pub recorded-end : {ws : List Placed} {room : List ℕ} {head tail k : ℕ} {C : List ℕ} {P : List Float} → tail ≤ head
      → Recorded d cs leaf active node k₀ C₀ P₀ ws room head tail k C P
      → (C ≡ put C₀ node (map whole_of (record_of d cs leaf active))) × (P ≡ put P₀ node (map float_of (record_of d cs leaf active)))
  recorded-end {ws = []} {C} {P} h x =
      let number = level_number d cs leaf active in
      (filled-end d cs leaf number whole_of 0 _ C x.cuts, filled-end d cs leaf number float_of nan _ P x.planes)
  recorded-end {ws = w ∷ ws} {room} {head} {tail} h x = absurd (nil≢cons (ap places (sym (waiting_none room head tail h)) ∙ x.placed))

  -- ---- a turn, with the domain w, whose node stands at p, first
  module _ {w : Placed} {ws : List Placed} {room : List ℕ} {head tail k : ℕ} {C : List ℕ} {P : List Float} {p c : ℕ}
      (x : Recorded d cs leaf active node k₀ C₀ P₀ (w ∷ ws) room head tail k C P) (good : GoodRows d cs w.domain.rows) (some : 1 ≤ length w.domain.rows)
      (size : length w.domain.rows ≡ c) (split : places (queued room head tail) ≡ p ∷ places (queued room (head + 1) tail)) where
    abbrev q : Domain
    q = w.domain

    abbrev l : Domain
    l = left_of d cs q

    both : p ∷ places (queued room (head + 1) tail) ≡ w.place ∷ map (λ w. w.place) ws
    both = sym split ∙ x.placed

    at : w.place ≡ p
    at = sym (head-eq_of_cons-eq both)

    rest : places (queued room (head + 1) tail) ≡ map (λ w. w.place) ws
    rest = tail-eq_of_cons-eq both

    left-size : length l.rows ≡ c / 2
    left-size = left-length d cs pos q (good-good q.rows good) ∙ ap (λ (n : ℕ). n / 2) size

    -- the nodes under the left half, where it waits
    left-nodes : 2 * leaf ≤ c → node_count (cuts_at d cs leaf l) ≡ nodes_under_lem (c / 2) leaf
    left-nodes big = cuts-nodes d cs leaf pos lp l (left-good d cs q (good-good q.rows good)) (omega (arith, left-size)) ∙ ap (λ (n : ℕ). nodes_under_lem n leaf) left-size

    pub node-room : NodeRoom leaf c p C P
    node-room =
        let g = good-good q.rows good in
        let hC = filled-room x.cuts pos lp g some in
        let hP = filled-room x.planes pos lp g some in
        let n = some-nodes (cuts_at d cs leaf q) in
        record {
          cut = (omega (arith, hC, at, n), omega (arith, hP, at, n));
          halves = λ h.
              let big : 2 * leaf ≤ length q.rows = omega (arith, size) in
              omega (arith, hC, at, large-nodes x.cuts pos lp g some big, left-nodes (omega arith), some-nodes (cuts_at d cs leaf (right_of d cs q)));
          two = λ h.
              let small : length q.rows < 2 * leaf = omega (arith, size) in
              let three = small-nodes x.cuts pos lp g some small in
              (omega (arith, hC, at, three), omega (arith, hP, at, three));
        }

    -- what the cut brings: its axis and its plane, which both lists got at p
    module _ {y : ℕ} {v : Float} (ey : y ≡ longest_axis_lem d cs q.rows) (ev : v ≡ plane d cs q.rows) (C₁ : List ℕ) (P₁ : List Float) where
      -- the halves wait, the right one with its node behind the `below` nodes under the left one
      pub recorded-wait : {room₁ : List ℕ} {below : ℕ} → leaf ≤ c / 2 → below ≡ nodes_under_lem (c / 2) leaf
          → places (queued room₁ (head + 1) (tail + 2)) ≡ places (queued room (head + 1) tail) ++ (p + 1) ∷ (p + 1 + below) ∷ []
          → placed_leaves d cs leaf (w ∷ ws) ≡ placed_leaves d cs leaf (ws ++ placed_halves d cs leaf w)
          → C₁ ≡ set C p y → P₁ ≡ set P p v
          → Recorded d cs leaf active node k₀ C₀ P₀ (ws ++ placed_halves d cs leaf w) room₁ (head + 1) (tail + 2) k C₁ P₁
      recorded-wait {room₁} {below} h eb joined same eC eP =
          let g = good-good q.rows good in
          let big : 2 * leaf ≤ length q.rows = omega (arith, size) in
          let half : node_count (half_cuts d cs leaf q l) ≡ below = ap node_count (half-more d cs leaf q l big) ∙ left-nodes (omega arith) ∙ sym eb in
          let one : p + 1 ≡ suc w.place = omega (arith, at) in
          let two : p + 1 + below ≡ suc w.place + node_count (half_cuts d cs leaf q l) = omega (arith, at, half) in
          record {
            placed =
                joined ∙ ap₂ (λ (xs ys : List ℕ). xs ++ ys) rest (ap₂ (λ (a b : ℕ). a ∷ b ∷ []) one two)
                ∙ sym (map-append (λ (w : Placed). w.place) ws (placed_halves d cs leaf w));
            numbers = rw (← same) x.numbers;
            cuts = filled-wait x.cuts pos lp g some big C₁ (eC ∙ ap₂ (λ (i a : ℕ). set C i a) (sym at) ey);
            planes = filled-wait x.planes pos lp g some big P₁ (eP ∙ ap₂ (λ (i : ℕ) (a : Float). set P i a) (sym at) ev);
          }

      -- they are leaves
      pub recorded-done : c / 2 < leaf → k₀ ≤ k → placed_leaves d cs leaf (w ∷ ws) ≡ placed_halves d cs leaf w ++ placed_leaves d cs leaf ws
          → C₁ ≡ set (set (set C p y) (p + 1) (3 + (k - k₀))) (p + 1 + 1) (3 + (k - k₀ + 1)) → P₁ ≡ set (set (set P p v) (p + 1) plus_zero) (p + 1 + 1) plus_zero
          → Recorded d cs leaf active node k₀ C₀ P₀ ws room (head + 1) tail (k + 2) C₁ P₁
      unfolding from
      recorded-done h up same eC eP =
          let g = good-good q.rows good in
          let small : length q.rows < 2 * leaf = omega (arith, size) in
          let number = level_number d cs leaf active in
          let left = placed_leaves d cs leaf ws in
          let m = k - k₀ in
          let one : leaf_count (half_cuts d cs leaf q l) ≡ 1 = ap leaf_count (half-done d cs leaf q l small) ∙ leaf-count-leaf l in
          let order : number w.index ∷ number (w.index + leaf_count (half_cuts d cs leaf q l)) ∷ map (λ (w : Placed). number w.index) left ≡ m ∷ suc m ∷ from (suc (suc m)) (length left) =
          subst (λ (z : List Placed). map (λ (w : Placed). number w.index) z ≡ from m (length z)) same x.numbers in
          let order₂ = tail-eq_of_cons-eq order in
          let next : w.index + leaf_count (half_cuts d cs leaf q l) ≡ suc w.index = omega (arith, one) in
          let first : number w.index ≡ m = head-eq_of_cons-eq order in
          let second : number (suc w.index) ≡ suc m = ap number (sym next) ∙ head-eq_of_cons-eq order₂ in
          let more : suc (suc m) ≡ k + 2 - k₀ = omega arith in
          let plus : m + 1 ≡ suc m = omega arith in
          record {
            placed = rest;
            numbers = tail-eq_of_cons-eq order₂ ∙ ap (λ (i : ℕ). from i (length left)) more;
            cuts = filled-done x.cuts pos lp g some small m first second C₁ (eC ∙ rw (at, ey, plus));
            planes = filled-done x.planes pos lp g some small m first second P₁ (eP ∙ rw (at, ev));
          }
