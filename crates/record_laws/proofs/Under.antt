-- What all leaves under a domain have, and how many there can be; and how many nodes there are, which goes by the size. Assumes nothing.
-- Holds: cuts-all, cuts-wide, cuts-small, cuts-nodes
use mathlib.Core.Path.{◌≡◌, ap₂, ◌∙◌}
use mathlib.Core.Logic.{⊎_elim}
use mathlib.Core.List.{List}
use Prim.Native.Nat.{ℕ, zero, suc, ◌+◌, ◌*◌, ◌≤◌, ◌<◌}
use native.Mathlib.Omega.{arith}
use lib.ListN.{length, length-set}
use lib.Ieee.{Float}
use Rattle.lists.specs.Ascends.{All}
use Rattle.lists.proofs.Tests.{le-or-lt}
use Rattle.lists.proofs.All.{all_append}
use Rattle.definition.specs.Cut.{Domain, longest_axis_lem, plane, left_of, right_of}
use Rattle.definition.specs.Record.{uncut, cuts_of, leaves_under}
use Rattle.definition.proofs.Cuts.{Good, left-length, right-length, left-good, right-good}
use Rattle.queue.specs.Nodes.{nodes_under_lem}
use Rattle.queue.proofs.Nodes.{nodes-many, nodes-few}
use Rattle.record_laws.specs.Table.{cuts_at, node_count, leaf_count}
use Rattle.record_laws.proofs.Entries.{leaf-count-leaf, leaf-count-cut, node-count-leaf, node-count-cut}
use Rattle.record_laws.proofs.Steps.{cuts-more, cuts-done, step-more, step-done}

-- ---- what both halves of a domain have if it has it, all leaves under it have
module _ (d : ℕ) (cs : List Float) (leaf : ℕ) where
  module _ (P : Domain → Type 0) (hl : (q : Domain) → P q → P (left_of d cs q)) (hr : (q : Domain) → P q → P (right_of d cs q)) where
    fuel-all : (fuel : ℕ) (q : Domain) → P q → All P (leaves_under (cuts_of d cs leaf fuel q))
    unfolding All cuts_of leaves_under
    fuel-all zero q h = (h, tt)
    fuel-all (suc fuel) q h =
        ⊎_elim
        (λ (big : 2 * leaf ≤ length q.rows). rw (step-more d cs leaf fuel q big)
        (all_append P (leaves_under (cuts_of d cs leaf fuel (left_of d cs q))) (leaves_under (cuts_of d cs leaf fuel (right_of d cs q)))
        (fuel-all fuel (left_of d cs q) (hl q h)) (fuel-all fuel (right_of d cs q) (hr q h))))
        (λ (small : length q.rows < 2 * leaf). rw (step-done d cs leaf fuel q small) (hl q h, (hr q h, tt)))
        (le-or-lt (2 * leaf) (length q.rows))

    pub cuts-all : (q : Domain) → P q → All P (leaves_under (cuts_at d cs leaf q))
    unfolding cuts_at
    cuts-all q h = fuel-all (length q.rows) q h

  -- their boxes are as wide as the domain's
  pub cuts-wide : (w : ℕ) (q : Domain) → length q.box ≡ w → All (λ (x : Domain). length x.box ≡ w) (leaves_under (cuts_at d cs leaf q))
  unfolding left_of right_of
  cuts-wide w q h =
      cuts-all (λ q. length q.box ≡ w)
      (λ q h. length-set q.box (d + longest_axis_lem d cs q.rows) (plane d cs q.rows) ∙ h)
      (λ q h. length-set q.box (longest_axis_lem d cs q.rows) (plane d cs q.rows) ∙ h) q h

-- ---- how much there can be under a domain: at most two leaves for each row, and a node less than four
pub cuts-small : (d : ℕ) (cs : List Float) (leaf : ℕ) → 0 < d → 1 ≤ leaf → (q : Domain) → Good d cs q.rows → 1 ≤ length q.rows
    → (leaf_count (cuts_at d cs leaf q) ≤ 2 * length q.rows) × (node_count (cuts_at d cs leaf q) + 1 ≤ 4 * length q.rows)
cuts-small d cs leaf pos lp q g s = go (length q.rows) q g s (omega arith)
  where
    go : (n : ℕ) (q : Domain) → Good d cs q.rows → 1 ≤ length q.rows → length q.rows ≤ n
        → (leaf_count (cuts_at d cs leaf q) ≤ 2 * length q.rows) × (node_count (cuts_at d cs leaf q) + 1 ≤ 4 * length q.rows)
    go zero q g s h = absurd (omega arith)
    go (suc n) q g s h =
        let l = left_of d cs q in
        let r = right_of d cs q in
        let a = longest_axis_lem d cs q.rows in
        let p = plane d cs q.rows in
        let nl = left-length d cs pos q g in
        let nr = right-length d cs pos q g in
        ⊎_elim
        (λ (big : 2 * leaf ≤ length q.rows).
        let u = go n l (left-good d cs q g) (omega arith) (omega arith) in
        let v = go n r (right-good d cs q g) (omega arith) (omega arith) in
        let tl = cuts_at d cs leaf l in
        let tr = cuts_at d cs leaf r in
        rw (cuts-more d cs leaf pos lp q g s big)
        (omega (arith, leaf-count-cut a p tl tr, u.0, v.0, nl, nr), omega (arith, node-count-cut a p tl tr, u.1, v.1, nl, nr)))
        (λ (small : length q.rows < 2 * leaf).
        rw (cuts-done d cs leaf pos lp q g s small)
        (omega (arith, leaf-count-cut a p (uncut l) (uncut r), leaf-count-leaf l, leaf-count-leaf r), omega (arith, node-count-cut a p (uncut l) (uncut r), node-count-leaf l, node-count-leaf r)))
        (le-or-lt (2 * leaf) (length q.rows))

-- ---- how many nodes there are goes by the size and the threshold
pub cuts-nodes : (d : ℕ) (cs : List Float) (leaf : ℕ) → 0 < d → 1 ≤ leaf → (q : Domain) → Good d cs q.rows → 1 ≤ length q.rows
    → node_count (cuts_at d cs leaf q) ≡ nodes_under_lem (length q.rows) leaf
cuts-nodes d cs leaf pos lp q g s = go (length q.rows) q g s (omega arith)
  where
    go : (n : ℕ) (q : Domain) → Good d cs q.rows → 1 ≤ length q.rows → length q.rows ≤ n → node_count (cuts_at d cs leaf q) ≡ nodes_under_lem (length q.rows) leaf
    go zero q g s h = absurd (omega arith)
    go (suc n) q g s h =
        let l = left_of d cs q in
        let r = right_of d cs q in
        let a = longest_axis_lem d cs q.rows in
        let p = plane d cs q.rows in
        let nl = left-length d cs pos q g in
        let nr = right-length d cs pos q g in
        ⊎_elim
        (λ (big : 2 * leaf ≤ length q.rows).
        rw (cuts-more d cs leaf pos lp q g s big, nodes-many leaf lp (length q.rows) big, ← nr, ← nl)
        (node-count-cut a p (cuts_at d cs leaf l) (cuts_at d cs leaf r)
        ∙ ap₂ (λ (x y : ℕ). suc (x + y)) (go n l (left-good d cs q g) (omega arith) (omega arith)) (go n r (right-good d cs q g) (omega arith) (omega arith))))
        (λ (small : length q.rows < 2 * leaf).
        rw (cuts-done d cs leaf pos lp q g s small, nodes-few leaf (length q.rows) small)
        (omega (arith, node-count-cut a p (uncut l) (uncut r), node-count-leaf l, node-count-leaf r)))
        (le-or-lt (2 * leaf) (length q.rows))
