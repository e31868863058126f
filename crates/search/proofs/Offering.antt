-- Rows offered in two parts, one after the other, and one row offered. Assumes nothing.
-- Holds: offered-first, offered-then, offers-both, offers-none, offered-good, offer-itself, offer-more, offer-left, offer-full,
--   leaf-asked, leaf-more
use mathlib.Core.Path.{◌≡◌, sym, ap, ◌∙◌, subst}
use mathlib.Core.Bool.{true, false}
use mathlib.Core.List.{List, [], ◌∷◌, ◌++◌, append-nil, Memᴰ}
use Prim.Native.Nat.{ℕ, suc, ◌+◌, ◌-◌, ◌≤◌, ◌<◌}
use native.Mathlib.Omega.{arith}
use native.Mathlib.Numerals.{add-one}
use lib.Dec.{eqb}
use lib.ListN.{length, get_or, take, drop, take-append-drop}
use lib.Seq.{take-suc, drop-cons}
use lib.Ieee.{Float}
use Rattle.lists.specs.Lists.{keep, count, put, part}
use Rattle.lists.specs.Ascends.{All}
use Rattle.lists.specs.Same.{Same}
use Rattle.lists.specs.Times.{Once}
use Rattle.lists.proofs.All.{all_append, all-mem, all-of}
use Rattle.lists.proofs.Count.{count-append}
use Rattle.lists.proofs.Map.{get_d-map-in}
use Rattle.lists.proofs.Members.{mem-left, mem-right}
use Rattle.lists.proofs.Same.{same_mem}
use Rattle.lists.proofs.Times.{times-append}
use Rattle.definition.specs.Keys.{before}
use Rattle.definition.specs.Overlaps.{others}
use Rattle.definition.specs.Points.{rows_sq}
use Rattle.rows.specs.Rows.{Inside}
use Rattle.rows.proofs.Good.{good-mem}
use Rattle.cut_index.specs.Filed.{position_in, positions_of}
use Rattle.nearest_scan.specs.Near.{apart}
use Rattle.nearest_scan.proofs.Takes.{other-true, other-false}
use Rattle.kept_laws.specs.First.{place_key, kept_key, Slot}
use Rattle.kept_laws.proofs.Searches.{state-same, state-left, state-more, state-full}
use Rattle.search.specs.declared.Search.{Search}
use Rattle.search.specs.Visits.{HeldBy, Offered, Offers}
use Rattle.search.proofs.Places.{place-known, places-below, others-fewer, others-active, parts-same, others-same}

module _ (s : Search) (row : ℕ) where
  abbrev active : List ℕ
  active = s.active.now

  abbrev places : List ℕ → List ℕ
  places rows = positions_of active rows

  -- ---- in two parts, in any order
  module _ (xs ys rows : List ℕ) (same : Same (xs ++ ys) rows) where
    pub offered-first : (visited near : List ℕ) (far : List Float) (count : ℕ) → Offered s row rows visited near far count → Offered s row xs visited near far count
    offered-first visited near far count o =
        record {
          asked = o.asked;
          active = all-of (λ r. Memᴰ r active) xs (λ r m. all-mem (λ r. Memᴰ r active) rows o.active r (same_mem (xs ++ ys) rows same r (mem-left xs ys m)));
          below = o.below;
          once = λ r. omega (arith, o.once r, times-append r visited (places rows), times-append r visited (places xs), parts-same active row xs ys rows same (λ q. eqb q r));
          held = o.held;
        }

    module _ (near : List ℕ) (far : List Float) (count : ℕ) (near' : List ℕ) (far' : List Float) (count' : ℕ) (first : Offers s row xs near far count near' far' count') where
      pub offered-then : (visited : List ℕ) → Offered s row rows visited near far count → Offered s row ys (visited ++ positions_of s.active.now (others xs row)) near' far' count'
      offered-then visited o =
          let f = offered-first visited near far count o in
          record {
            asked = o.asked;
            active = all-of (λ r. Memᴰ r active) ys (λ r m. all-mem (λ r. Memᴰ r active) rows o.active r (same_mem (xs ++ ys) rows same r (mem-right xs ys m)));
            below = all_append (λ q. q < length active) visited (places (others xs row)) o.below
                (places-below active o.asked.good.ascends (others xs row) (others-active active row xs f.active));
            once = λ r.
                omega (
                  arith,
                  o.once r,
                  times-append r visited (places rows),
                  times-append r (visited ++ places (others xs row)) (places ys),
                  times-append r visited (places (others xs row)),
                  others-fewer active row (λ q. eqb q r) xs,
                  parts-same active row xs ys rows same (λ q. eqb q r),
                );
            held = first visited f;
          }

      pub offers-both : (near'' : List ℕ) (far'' : List Float) (count'' : ℕ) → Offers s row ys near' far' count' near'' far'' count'' → Offers s row rows near far count near'' far'' count''
      offers-both near'' far'' count'' second visited o =
          state-same s.points.dimensions s.points.coordinates.now active row o.asked.good o.asked.whose s.neighbours
          ((visited ++ places (others xs row)) ++ places (others ys row)) (visited ++ places (others rows row)) near'' far'' count''
          (λ p. omega (
            arith,
            count-append p (visited ++ places (others xs row)) (places (others ys row)),
            count-append p visited (places (others xs row)),
            count-append p visited (places (others rows row)),
            others-same active row xs ys rows same p,
          ))
          (second (visited ++ places (others xs row)) (offered-then visited o))

  pub offers-none : (near : List ℕ) (far : List Float) (count : ℕ) → Offers s row [] near far count near far count
  unfolding positions_of keep
  offers-none near far count visited o = subst (λ (l : List ℕ). HeldBy s row l near far count) (sym (append-nil visited)) o.held

  -- ---- one row
  module _ (x : ℕ) (near : List ℕ) (far : List Float) (count : ℕ) where
    pub offered-good : (visited : List ℕ) → Offered s row (x ∷ []) visited near far count → Inside s.points.dimensions s.points.coordinates.now x
    unfolding All
    offered-good visited o = (good-mem active o.asked.good x o.active.0).inside

    pub offer-itself : x ≡ row → Offers s row (x ∷ []) near far count near far count
    unfolding positions_of keep
    offer-itself e visited o =
        rw (other-false (x ∷ []) row 0 e) (subst (λ (l : List ℕ). HeldBy s row l near far count) (sym (append-nil visited)) o.held)

    module _ (other : x ≡ row → ⊥) (position : ℕ) (at : position ≡ position_in s.active.now x) (value : Float)
        (is : value ≡ rows_sq s.points.dimensions s.points.coordinates.now row x) where
      -- the row offered is another one, so that its position is visited
      visits : (visited near' : List ℕ) (far' : List Float) (count' : ℕ) → HeldBy s row (visited ++ position_in s.active.now x ∷ []) near' far' count'
          → HeldBy s row (visited ++ positions_of s.active.now (others (x ∷ []) row)) near' far' count'
      unfolding positions_of keep
      visits visited near' far' count' h = rw (other-true (x ∷ []) row 0 other) h

      module _ (visited : List ℕ) (o : Offered s row (x ∷ []) visited near far count) where
        known : (position_in s.active.now x < length s.active.now) × (get_or s.active.now (position_in s.active.now x) 0 ≡ x)
        unfolding All
        known = place-known active o.asked.good.ascends x o.active.0

        value-at : value ≡ apart s.points.dimensions s.points.coordinates.now s.active.now row (position_in s.active.now x)
        value-at = is ∙ ap (rows_sq s.points.dimensions s.points.coordinates.now row) (sym known.1)

        below : All (λ q. q < length s.active.now) (visited ++ position_in s.active.now x ∷ [])
        unfolding All
        below = all_append (λ q. q < length active) visited (position_in active x ∷ []) o.below (known.0, tt)

        once : Once (visited ++ position_in s.active.now x ∷ [])
        unfolding positions_of
        once = o.once

      -- there is room
      pub offer-more : (r : ℕ) → Slot near far count value position r → (near' : List ℕ) (far' : List Float) → near' ≡ put near r (position ∷ part near r (count - r))
          → far' ≡ put far r (value ∷ part far r (count - r)) → count < s.neighbours → Offers s row (x ∷ []) near far count near' far' (count + 1)
      offer-more r slot near' far' en ef less visited o =
          visits visited near' far' (count + 1)
          (state-more s.points.dimensions s.points.coordinates.now active row o.asked.good o.asked.whose s.neighbours visited near far count o.held (position_in active x)
          (once visited o) (below visited o) value (value-at visited o) count r
          (subst (λ (q : ℕ). Slot near far count value q r) at slot) near' far'
          (subst (λ (q : ℕ). near' ≡ put near r (q ∷ part near r (count - r))) at en) ef (omega arith) less)

      -- there is none, and it does not come before the last of those kept
      pub offer-left : s.neighbours ≤ count → 0 < s.neighbours → before (place_key value position) (kept_key near far (count - 1)) ≡ false
          → Offers s row (x ∷ []) near far count near far count
      offer-left full some f visited o =
          let m = o.held.most in
          let e : count ≡ s.neighbours = omega arith in
          visits visited near far count
          (state-left s.points.dimensions s.points.coordinates.now active row o.asked.good o.asked.whose s.neighbours visited near far count o.held (position_in active x)
          (once visited o) (below visited o) value (value-at visited o) e some
          (subst (λ (q : ℕ). before (place_key value q) (kept_key near far (s.neighbours - 1)) ≡ false) at
          (subst (λ (c : ℕ). before (place_key value position) (kept_key near far (c - 1)) ≡ false) e f)))

      -- there is none, and it takes the place of the last
      pub offer-full : (r : ℕ) → Slot near far (count - 1) value position r → (near' : List ℕ) (far' : List Float) → near' ≡ put near r (position ∷ part near r (count - 1 - r))
          → far' ≡ put far r (value ∷ part far r (count - 1 - r)) → s.neighbours ≤ count → 0 < s.neighbours
          → before (place_key value position) (kept_key near far (count - 1)) ≡ true → Offers s row (x ∷ []) near far count near' far' count
      offer-full r slot near' far' en ef full some f visited o =
          let m = o.held.most in
          let k = count - 1 in
          let e : k + 1 ≡ count = omega arith in
          visits visited near' far' count
          (subst (λ (c : ℕ). HeldBy s row (visited ++ position_in active x ∷ []) near' far' c) e
          (state-full s.points.dimensions s.points.coordinates.now active row o.asked.good o.asked.whose s.neighbours visited near far count o.held (position_in active x)
          (once visited o) (below visited o) value (value-at visited o) k r
          (subst (λ (q : ℕ). Slot near far k value q r) at slot) near' far'
          (subst (λ (q : ℕ). near' ≡ put near r (q ∷ part near r (k - r))) at en) ef (omega arith) (omega arith)
          (subst (λ (q : ℕ). before (place_key value q) (kept_key near far k) ≡ true) at f)))

  -- ---- the rows of a leaf, one after the other
  module _ (own places : List ℕ) (is : places ≡ positions_of s.active.now own) (near : List ℕ) (far : List Float) (n k : ℕ) (here : k < length own)
      (near' : List ℕ) (far' : List Float) (count' : ℕ) (done : Offers s row (take k own) near far n near' far' count') where
    abbrev x : ℕ
    x = get_or own k 0

    pub leaf-asked : (visited : List ℕ) → 0 < s.neighbours → Offered s row own visited near far n
        → (v : List ℕ) × (get_or places k 0 ≡ position_in s.active.now (get_or own k 0)) × (0 < s.neighbours) × Offered s row (get_or own k 0 ∷ []) v near' far' count'
    unfolding positions_of
    leaf-asked visited some o = (
      visited ++ positions_of active (others (take k own) row),
      rw is (get_d-map-in (position_in active) own k 0 0 here),
      some,
      offered-first (x ∷ []) (drop (suc k) own) (drop k own) (λ p. ap (count p) (sym (drop-cons own k 0 here)))
          (visited ++ positions_of active (others (take k own) row)) near' far' count'
          (offered-then (take k own) (drop k own) own (λ p. ap (count p) (take-append-drop k own)) near far n near' far' count' done visited o),
    )

    pub leaf-more : (near'' : List ℕ) (far'' : List Float) (count'' : ℕ) → Offers s row (get_or own k 0 ∷ []) near' far' count' near'' far'' count''
        → Offers s row (take (k + 1) own) near far n near'' far'' count''
    leaf-more near'' far'' count'' one =
        offers-both (take k own) (x ∷ []) (take (k + 1) own) (λ p. ap (count p) (sym (take-suc own k 0 here)) ∙ ap (λ (i : ℕ). count p (take i own)) (sym (add-one k)))
        near far n near' far' count' done near'' far'' count'' one
