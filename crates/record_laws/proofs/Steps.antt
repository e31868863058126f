-- One step of the cuts of a domain, as a proof of the engine uses them. Assumes nothing.
-- Holds: step-more, step-done, cuts-enough, cuts-more, cuts-done, level-cuts
use mathlib.Core.Path.{◌≡◌, refl, sym, ◌∙◌}
use mathlib.Core.Logic.{⊎_elim}
use mathlib.Core.List.{List}
use Prim.Native.Nat.{ℕ, zero, suc, ◌*◌, ◌≤◌, ◌<◌}
use native.Mathlib.Omega.{arith}
use borrow.Author.Tests.{le-leb, lt-leb}
use lib.ListN.{length}
use lib.Ieee.{Float}
use Rattle.lists.proofs.Tests.{le-or-lt}
use Rattle.definition.specs.Cut.{Domain, root_domain, longest_axis_lem, plane, left_of, right_of}
use Rattle.definition.specs.Record.{uncut, cut_at, cuts_of, level_cuts}
use Rattle.record_laws.specs.Table.{cuts_at}
use Rattle.definition.proofs.Cuts.{Good, left-length, right-length, left-good, right-good}

module _ (d : ℕ) (cs : List Float) (leaf : ℕ) where
  -- a step: a large domain's halves are cut too, and those of another are leaves
  pub step-more : (fuel : ℕ) (q : Domain) → 2 * leaf ≤ length q.rows
      → cuts_of d cs leaf (suc fuel) q
      ≡ cut_at (longest_axis_lem d cs q.rows) (plane d cs q.rows) (cuts_of d cs leaf fuel (left_of d cs q)) (cuts_of d cs leaf fuel (right_of d cs q))
  unfolding cuts_of
  step-more fuel q h = rw (le-leb (2 * leaf) (length q.rows) h)

  pub step-done : (fuel : ℕ) (q : Domain) → length q.rows < 2 * leaf
      → cuts_of d cs leaf (suc fuel) q ≡ cut_at (longest_axis_lem d cs q.rows) (plane d cs q.rows) (uncut (left_of d cs q)) (uncut (right_of d cs q))
  unfolding cuts_of
  step-done fuel q h = rw (lt-leb (2 * leaf) (length q.rows) h)

  module _ (pos : 0 < d) (lp : 1 ≤ leaf) where
    -- the fuel is enough: with as much as there are rows, or more, the cuts are the same
    pub cuts-enough : (fuel more : ℕ) (q : Domain) → Good d cs q.rows → 1 ≤ length q.rows → length q.rows ≤ fuel → length q.rows ≤ more
        → cuts_of d cs leaf fuel q ≡ cuts_of d cs leaf more q
    cuts-enough zero more q g s f m = absurd (omega arith)
    cuts-enough (suc fuel) zero q g s f m = absurd (omega arith)
    cuts-enough (suc fuel) (suc more) q g s f m =
        ⊎_elim
        (λ (big : 2 * leaf ≤ length q.rows).
        let l = left-length d cs pos q g in
        let r = right-length d cs pos q g in
        rw (
          step-more fuel q big,
          step-more more q big,
          cuts-enough fuel more (left_of d cs q) (left-good d cs q g) (omega arith) (omega arith) (omega arith),
          cuts-enough fuel more (right_of d cs q) (right-good d cs q g) (omega arith) (omega arith) (omega arith),
        ))
        (λ (small : length q.rows < 2 * leaf). rw (step-done fuel q small, step-done more q small))
        (le-or-lt (2 * leaf) (length q.rows))

    at_rows : (q : Domain) → Good d cs q.rows → 1 ≤ length q.rows → (fuel : ℕ) → length q.rows ≤ fuel → cuts_of d cs leaf fuel q ≡ cuts_at d cs leaf q
    unfolding cuts_at
    at_rows q g s fuel h = cuts-enough fuel (length q.rows) q g s h (omega arith)

    module _ (q : Domain) (g : Good d cs q.rows) (some : 1 ≤ length q.rows) where
      -- a large domain: its halves are cut too
      pub cuts-more : 2 * leaf ≤ length q.rows
          → cuts_at d cs leaf q
          ≡ cut_at (longest_axis_lem d cs q.rows) (plane d cs q.rows) (cuts_at d cs leaf (left_of d cs q)) (cuts_at d cs leaf (right_of d cs q))
      cuts-more big =
          let n = length q.rows in
          let l = left-length d cs pos q g in
          let r = right-length d cs pos q g in
          sym (at_rows q g some (suc n) (omega arith)) ∙ step-more n q big
          ∙ rw (
            at_rows (left_of d cs q) (left-good d cs q g) (omega arith) n (omega arith),
            at_rows (right_of d cs q) (right-good d cs q g) (omega arith) n (omega arith),
          )

      -- another: its halves are leaves
      pub cuts-done : length q.rows < 2 * leaf
          → cuts_at d cs leaf q ≡ cut_at (longest_axis_lem d cs q.rows) (plane d cs q.rows) (uncut (left_of d cs q)) (uncut (right_of d cs q))
      cuts-done small = let n = length q.rows in sym (at_rows q g some (suc n) (omega arith)) ∙ step-done n q small

  -- the cuts of a level are those of its root
  pub level-cuts : (active : List ℕ) → level_cuts d cs leaf active ≡ cuts_at d cs leaf (root_domain d cs active)
  unfolding level_cuts cuts_at root_domain
  level-cuts active = refl
