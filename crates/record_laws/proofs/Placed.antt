-- Domains with the place of their node in the record, and with how many of the level's leaves stand to their left, as a kind of domain for the
-- queue: their leaves are the definition's, and from left to right they are counted up. Assumes nothing.
-- Holds: Placed, root_placed, domains_of, half_cuts, half-more, half-done, left_placed, right_placed, placed_halves,
--   placed_queue, placed_leaves, placed-domains, PlacedWait, leaves-wait, leaves-done, leaves-none, placed_kind, under-domains,
--   under-indices
use mathlib.Core.Path.{◌≡◌, refl, sym, ap, ap₂, ◌∙◌}
use mathlib.Core.Logic.{⊎_elim}
use mathlib.Core.Bool.{cond}
use mathlib.Core.List.{List, [], ◌∷◌, ◌++◌, map, map-append}
use Prim.Native.Nat.{ℕ, zero, suc, ◌+◌, ◌*◌, ◌≤◌, ◌<◌}
use native.Mathlib.Omega.{arith}
use borrow.Author.Tests.{le-leb, lt-leb}
use lib.Dec.{leb}
use lib.ListN.{length}
use lib.Ieee.{Float}
use Rattle.lists.specs.Lists.{from}
use Rattle.lists.specs.Ascends.{All}
use Rattle.lists.proofs.Tests.{le-or-lt}
use Rattle.lists.proofs.All.{all-imp, all_map}
use Rattle.lists.proofs.From.{from-append}
use Rattle.definition.specs.Cut.{Domain, root_domain, longest_axis_lem, plane, left_of, right_of, queue_leaves}
use Rattle.definition.specs.Record.{Cuts, uncut, leaves_under}
use Rattle.definition.proofs.Steps.{queue-wait, queue-done}
use Rattle.definition.proofs.Cuts.{Good, Full, cuts_for, left-length, right-length, left-depth, right-depth, full-wait, cuts-wait, cuts-done}
use Rattle.queue.proofs.Kind.{Kind, MayWait}
use Rattle.rows.specs.Rows.{GoodRows}
use Rattle.rows.proofs.Good.{good-good}
use Rattle.cut.proofs.Halves.{good_left, good_right}
use Rattle.record_laws.specs.Table.{cuts_at, node_count, leaf_count}
use Rattle.record_laws.proofs.Domains.{leaves_from}
use Rattle.record_laws.proofs.ByDepth.{deep_leaves, deep_more, deep-done}
use Rattle.record_laws.proofs.Entries.{leaves-leaf, leaves-cut, leaf-count-leaf, leaf-count-cut}
use Rattle.record_laws.proofs.Steps as steps

-- a domain, the place of its node in the record's lists, and how many of the level's leaves stand to the left of it
pub record Placed : Type 0 where
  pub domain : Domain
  pub place : ℕ
  pub index : ℕ

two-from : (i k : ℕ) → k ≡ 1 → i ∷ (i + k) ∷ [] ≡ from i 2
unfolding from
two-from i k e = rw e (ap (λ (x : ℕ). i ∷ x ∷ []) (omega arith))

-- the root of a level, with its node at this place
abbrev pub root_placed : ℕ → List Float → List ℕ → ℕ → Placed
root_placed d cs active place = record { domain = root_domain d cs active; place = place; index = 0 }

abbrev pub domains_of : List Placed → List Domain
domains_of ws = map (λ w. w.domain) ws

module _ (d : ℕ) (cs : List Float) (leaf : ℕ) where
  -- the cuts of a half of the domain q as the record has them: where q is not large, the half is a leaf
  abbrev pub half_cuts : Domain → Domain → Cuts
  half_cuts q h = cond (leb (2 * leaf) (length q.rows)) (cuts_at d cs leaf h) (uncut h)

  pub half-more : (q h : Domain) → 2 * leaf ≤ length q.rows → half_cuts q h ≡ cuts_at d cs leaf h
  half-more q h b = rw (le-leb (2 * leaf) (length q.rows) b)

  pub half-done : (q h : Domain) → length q.rows < 2 * leaf → half_cuts q h ≡ uncut h
  half-done q h b = rw (lt-leb (2 * leaf) (length q.rows) b)

  -- the halves of a placed domain: the left one's node stands behind its own, and the right one's behind those under the left one
  abbrev pub left_placed : Placed → Placed
  left_placed w = record { domain = left_of d cs w.domain; place = suc w.place; index = w.index }

  abbrev pub right_placed : Placed → Placed
  right_placed w =
      record {
        domain = right_of d cs w.domain;
        place = suc w.place + node_count (half_cuts w.domain (left_of d cs w.domain));
        index = w.index + leaf_count (half_cuts w.domain (left_of d cs w.domain));
      }

  abbrev pub placed_halves : Placed → List Placed
  placed_halves w = left_placed w ∷ right_placed w ∷ []

  -- ---- their leaves, in the queue's order, with fuel for the cuts
  unfoldable pub placed_queue : ℕ → List Placed → List Placed
  placed_queue zero ws = []
  placed_queue (suc fuel) [] = []
  placed_queue (suc fuel) (w ∷ ws) =
      let wait = placed_queue fuel (ws ++ left_placed w ∷ right_placed w ∷ []) in
      let done = left_placed w ∷ right_placed w ∷ placed_queue fuel ws in
      cond (leb (2 * leaf) (length w.domain.rows)) wait done

  placed-empty : (fuel : ℕ) → placed_queue fuel [] ≡ []
  unfolding placed_queue
  placed-empty zero = refl
  placed-empty (suc fuel) = refl

  placed-wait : (fuel : ℕ) (w : Placed) (ws : List Placed) → 2 * leaf ≤ length w.domain.rows → placed_queue (suc fuel) (w ∷ ws) ≡ placed_queue fuel (ws ++ placed_halves w)
  unfolding placed_queue
  placed-wait fuel w ws h = rw (le-leb (2 * leaf) (length w.domain.rows) h)

  placed-done : (fuel : ℕ) (w : Placed) (ws : List Placed) → length w.domain.rows < 2 * leaf
      → placed_queue (suc fuel) (w ∷ ws) ≡ left_placed w ∷ right_placed w ∷ placed_queue fuel ws
  unfolding placed_queue
  placed-done fuel w ws h = rw (lt-leb (2 * leaf) (length w.domain.rows) h)

  halves-domains : (w : Placed) (ws : List Placed) → domains_of (ws ++ placed_halves w) ≡ domains_of ws ++ left_of d cs w.domain ∷ right_of d cs w.domain ∷ []
  halves-domains w ws = map-append (λ (w : Placed). w.domain) ws (placed_halves w)

  -- they are the definition's
  queue-domains : (fuel : ℕ) (ws : List Placed) → domains_of (placed_queue fuel ws) ≡ queue_leaves d cs leaf fuel (domains_of ws)
  unfolding placed_queue queue_leaves
  queue-domains zero ws = refl
  queue-domains (suc fuel) [] = refl
  queue-domains (suc fuel) (w ∷ ws) =
      ⊎_elim
      (λ (big : 2 * leaf ≤ length w.domain.rows). rw (placed-wait fuel w ws big, queue-wait d cs leaf fuel w.domain (domains_of ws) big, ← (halves-domains w ws))
      (queue-domains fuel (ws ++ placed_halves w)))
      (λ (small : length w.domain.rows < 2 * leaf). rw (placed-done fuel w ws small, queue-done d cs leaf fuel w.domain (domains_of ws) small, queue-domains fuel ws))
      (le-or-lt (2 * leaf) (length w.domain.rows))

  -- with fuel for the cuts that are still to be made
  unfoldable pub placed_leaves : List Placed → List Placed
  placed_leaves ws = placed_queue (cuts_for (domains_of ws)) ws

  pub placed-domains : (ws : List Placed) → domains_of (placed_leaves ws) ≡ leaves_from d cs leaf (domains_of ws)
  unfolding placed_leaves leaves_from
  placed-domains ws = queue-domains (cuts_for (domains_of ws)) ws

  module _ (pos : 0 < d) (lp : 1 ≤ leaf) where
    enough : (fuel more : ℕ) (ws : List Placed) → Full d cs pos (domains_of ws) → cuts_for (domains_of ws) ≤ fuel → cuts_for (domains_of ws) ≤ more
        → placed_queue fuel ws ≡ placed_queue more ws
    unfolding All
    enough zero more [] u f m = placed-empty zero ∙ sym (placed-empty more)
    enough zero more (w ∷ ws) u f m = absurd (omega (arith, cuts-done d cs pos leaf lp w.domain (domains_of ws) u))
    enough (suc fuel) more [] u f m = placed-empty (suc fuel) ∙ sym (placed-empty more)
    enough (suc fuel) zero (w ∷ ws) u f m = absurd (omega (arith, cuts-done d cs pos leaf lp w.domain (domains_of ws) u))
    enough (suc fuel) (suc more) (w ∷ ws) u f m =
        let q = w.domain in
        let qs = domains_of ws in
        ⊎_elim
        (λ (big : 2 * leaf ≤ length q.rows).
        let c = cuts-wait d cs pos leaf lp q qs big u in
        let e = halves-domains w ws in
        rw (placed-wait fuel w ws big, placed-wait more w ws big)
        (enough fuel more (ws ++ placed_halves w) (rw e (full-wait d cs pos leaf lp q qs big u)) (rw e (omega arith)) (rw e (omega arith))))
        (λ (small : length q.rows < 2 * leaf).
        let c = cuts-done d cs pos leaf lp q qs u in
        rw (placed-done fuel w ws small, placed-done more w ws small)
        (ap (λ (l : List Placed). left_placed w ∷ right_placed w ∷ l) (enough fuel more ws u.1 (omega arith) (omega arith))))
        (le-or-lt (2 * leaf) (length q.rows))

    abbrev pub PlacedWait : List Placed → Type 0
    PlacedWait ws = MayWait (λ (w : Placed). w.domain.rows) (λ (w : Placed). GoodRows d cs w.domain.rows) ws

    placed-full : (ws : List Placed) → PlacedWait ws → Full d cs pos (domains_of ws)
    placed-full ws u =
        all_map (λ (q : Domain). (1 ≤ length q.rows) × Good d cs q.rows) (λ (w : Placed). w.domain) ws
        (all-imp (λ (w : Placed). (1 ≤ length w.domain.rows) × GoodRows d cs w.domain.rows) (λ (w : Placed). (1 ≤ length w.domain.rows) × Good d cs w.domain.rows) ws
        (λ w h. (h.0, good-good w.domain.rows h.1)) u)

    pub leaves-wait : (w : Placed) (ws : List Placed) → PlacedWait (w ∷ ws) → 2 * leaf ≤ length w.domain.rows → placed_leaves (w ∷ ws) ≡ placed_leaves (ws ++ placed_halves w)
    unfolding placed_leaves
    leaves-wait w ws u big =
        let g = placed-full (w ∷ ws) u in
        let q = w.domain in
        let qs = domains_of ws in
        let n = cuts_for (q ∷ qs) in
        let rest = ws ++ placed_halves w in
        let e = halves-domains w ws in
        let c = cuts-wait d cs pos leaf lp q qs big g in
        let less : cuts_for (domains_of rest) ≤ n = rw e (omega arith) in
        enough n (suc n) (w ∷ ws) g (omega arith) (omega arith)
        ∙ placed-wait n w ws big
        ∙ enough n (cuts_for (domains_of rest)) rest (rw e (full-wait d cs pos leaf lp q qs big g)) less (omega arith)

    pub leaves-done : (w : Placed) (ws : List Placed) → PlacedWait (w ∷ ws) → length w.domain.rows < 2 * leaf
        → placed_leaves (w ∷ ws) ≡ left_placed w ∷ right_placed w ∷ placed_leaves ws
    unfolding placed_leaves All
    leaves-done w ws u small =
        let g = placed-full (w ∷ ws) u in
        let q = w.domain in
        let qs = domains_of ws in
        let n = cuts_for (q ∷ qs) in
        let c = cuts-done d cs pos leaf lp q qs g in
        enough n (suc n) (w ∷ ws) g (omega arith) (omega arith)
        ∙ placed-done n w ws small
        ∙ ap (λ (ls : List Placed). left_placed w ∷ right_placed w ∷ ls) (enough n (cuts_for qs) ws g.1 (omega arith) (omega arith))

    pub leaves-none : placed_leaves [] ≡ []
    unfolding placed_leaves
    leaves-none = placed-empty _

    abbrev pub placed_kind : Kind Placed leaf
    placed_kind =
        record {
          rows_of = λ w. w.domain.rows;
          depth_of = λ w. w.domain.depth;
          left = left_placed;
          right = right_placed;
          Good = λ w. GoodRows d cs w.domain.rows;
          left-size = λ w g. left-length d cs pos w.domain (good-good w.domain.rows g);
          right-size = λ w g. right-length d cs pos w.domain (good-good w.domain.rows g);
          left-depth = λ w. left-depth d cs w.domain;
          right-depth = λ w. right-depth d cs w.domain;
          left-good = λ w g. good_left w.domain g;
          right-good = λ w g. good_right w.domain g;
          leaves = placed_leaves;
          leaves_none = leaves-none;
          leaves-wait = leaves-wait;
          leaves-done = leaves-done;
        }

    -- ---- those under a domain, from left to right: the leaves of its cuts, counted from its own count of leaves to the left
    pub under-domains : (fuel : ℕ) (w : Placed) → GoodRows d cs w.domain.rows → 1 ≤ length w.domain.rows → length w.domain.rows ≤ fuel
        → domains_of (deep_leaves placed_kind fuel w) ≡ leaves_under (cuts_at d cs leaf w.domain)
    under-domains zero w g s h = absurd (omega arith)
    under-domains (suc fuel) w g s h =
        let q = w.domain in
        let l = left_of d cs q in
        let r = right_of d cs q in
        let gq = good-good q.rows g in
        let nl = left-length d cs pos q gq in
        let nr = right-length d cs pos q gq in
        let a = longest_axis_lem d cs q.rows in
        let p = plane d cs q.rows in
        ⊎_elim
        (λ (big : 2 * leaf ≤ length q.rows).
        rw (deep_more placed_kind fuel w big, steps.cuts-more d cs leaf pos lp q gq s big, leaves-cut a p (cuts_at d cs leaf l) (cuts_at d cs leaf r))
        (map-append (λ (w : Placed). w.domain) (deep_leaves placed_kind fuel (left_placed w)) (deep_leaves placed_kind fuel (right_placed w))
        ∙ ap₂ ◌++◌ (under-domains fuel (left_placed w) (good_left q g) (omega arith) (omega arith)) (under-domains fuel (right_placed w) (good_right q g) (omega arith) (omega arith))))
        (λ (small : length q.rows < 2 * leaf).
        rw (deep-done placed_kind fuel w small, steps.cuts-done d cs leaf pos lp q gq s small, leaves-cut a p (uncut l) (uncut r), leaves-leaf l, leaves-leaf r))
        (le-or-lt (2 * leaf) (length q.rows))

    pub under-indices : (fuel : ℕ) (w : Placed) → GoodRows d cs w.domain.rows → 1 ≤ length w.domain.rows → length w.domain.rows ≤ fuel
        → map (λ w. w.index) (deep_leaves placed_kind fuel w) ≡ from w.index (leaf_count (cuts_at d cs leaf w.domain))
    under-indices zero w g s h = absurd (omega arith)
    under-indices (suc fuel) w g s h =
        let q = w.domain in
        let l = left_of d cs q in
        let r = right_of d cs q in
        let gq = good-good q.rows g in
        let nl = left-length d cs pos q gq in
        let nr = right-length d cs pos q gq in
        let a = longest_axis_lem d cs q.rows in
        let p = plane d cs q.rows in
        ⊎_elim
        (λ (big : 2 * leaf ≤ length q.rows).
        let kl = leaf_count (cuts_at d cs leaf l) in
        let kr = leaf_count (cuts_at d cs leaf r) in
        let e : leaf_count (half_cuts q l) ≡ kl = ap leaf_count (half-more q l big) in
        rw (deep_more placed_kind fuel w big, steps.cuts-more d cs leaf pos lp q gq s big, leaf-count-cut a p (cuts_at d cs leaf l) (cuts_at d cs leaf r))
        (map-append (λ (w : Placed). w.index) (deep_leaves placed_kind fuel (left_placed w)) (deep_leaves placed_kind fuel (right_placed w))
        ∙ ap₂ ◌++◌ (under-indices fuel (left_placed w) (good_left q g) (omega arith) (omega arith)) (under-indices fuel (right_placed w) (good_right q g) (omega arith) (omega arith))
        ∙ ap (λ (i : ℕ). from w.index kl ++ from (w.index + i) kr) e
        ∙ sym (from-append w.index kl kr)))
        (λ (small : length q.rows < 2 * leaf).
        let e : leaf_count (half_cuts q l) ≡ 1 = ap leaf_count (half-done q l small) ∙ leaf-count-leaf l in
        let n : leaf_count (cuts_at d cs leaf q) ≡ 2 =
        ap leaf_count (steps.cuts-done d cs leaf pos lp q gq s small) ∙ leaf-count-cut a p (uncut l) (uncut r) ∙ omega (arith, leaf-count-leaf l, leaf-count-leaf r) in
        rw (deep-done placed_kind fuel w small, n) (two-from w.index (leaf_count (half_cuts q l)) e))
        (le-or-lt (2 * leaf) (length q.rows))
