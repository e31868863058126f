-- The definition's domains as a kind of domain for the queue, and the definition's leaves as the queue's. Assumes nothing.
-- Holds: leaves_from, Waiting, from-wait, from-done, from-none, kind, leaves_are, leaves-fill
use mathlib.Core.Path.{◌≡◌, sym, ap, ◌∙◌}
use mathlib.Core.List.{List, [], ◌∷◌, ◌++◌, map, map-map}
use Prim.Native.Nat.{ℕ, suc, ◌*◌, ◌≤◌, ◌<◌}
use native.Mathlib.Omega.{arith}
use lib.ListN.{length}
use lib.Ieee.{Float}
use Rattle.lists.specs.Lists.{total, joined}
use Rattle.lists.specs.Ascends.{All}
use Rattle.lists.proofs.All.{all-imp}
use Rattle.lists.proofs.Joined.{length-joined}
use Rattle.definition.specs.Cut.{Domain, root_domain, left_of, right_of, queue_leaves, leaves_of}
use Rattle.definition.proofs.Steps.{queue-empty, queue-wait, queue-done}
use Rattle.definition.proofs.Cuts.{Good, cuts_for, left-length, right-length, left-depth, right-depth, queue-enough, full-wait, cuts-wait, cuts-done, leaves-sum}
use Rattle.definition_laws.proofs.Shape.{leaves-enough}
use Rattle.queue.proofs.Kind.{Kind, MayWait}
use Rattle.rows.specs.Rows.{GoodRows}
use Rattle.rows.proofs.Good.{good-good}
use Rattle.cut.proofs.Halves.{good_left, good_right}

-- the leaves of the waiting domains, with fuel for the cuts that are still to be made
unfoldable pub leaves_from : ℕ → List Float → ℕ → List Domain → List Domain
leaves_from d cs leaf qs = queue_leaves d cs leaf (cuts_for qs) qs

module _ (d : ℕ) (cs : List Float) (pos : 0 < d) (leaf : ℕ) (lp : 1 ≤ leaf) where
  abbrev pub Waiting : List Domain → Type 0
  Waiting qs = MayWait (λ (q : Domain). q.rows) (λ (q : Domain). GoodRows d cs q.rows) qs

  good-all : (qs : List Domain) → Waiting qs → All (λ (q : Domain). (1 ≤ length q.rows) × Good d cs q.rows) qs
  good-all qs u =
      all-imp (λ (q : Domain). (1 ≤ length q.rows) × GoodRows d cs q.rows) (λ (q : Domain). (1 ≤ length q.rows) × Good d cs q.rows) qs
      (λ q h. (h.0, good-good q.rows h.1)) u

  pub from-wait : (q : Domain) (qs : List Domain) → Waiting (q ∷ qs) → 2 * leaf ≤ length q.rows
      → leaves_from d cs leaf (q ∷ qs) ≡ leaves_from d cs leaf (qs ++ left_of d cs q ∷ right_of d cs q ∷ [])
  unfolding leaves_from
  from-wait q qs u big =
      let g = good-all (q ∷ qs) u in
      let n = cuts_for (q ∷ qs) in
      let rest = qs ++ left_of d cs q ∷ right_of d cs q ∷ [] in
      queue-enough d cs pos leaf lp n (suc n) (q ∷ qs) g (omega arith) (omega arith)
      ∙ queue-wait d cs leaf n q qs big
      ∙ queue-enough d cs pos leaf lp n (cuts_for rest) rest (full-wait d cs pos leaf lp q qs big g) (omega (arith, cuts-wait d cs pos leaf lp q qs big g)) (omega arith)

  pub from-done : (q : Domain) (qs : List Domain) → Waiting (q ∷ qs) → length q.rows < 2 * leaf
      → leaves_from d cs leaf (q ∷ qs) ≡ left_of d cs q ∷ right_of d cs q ∷ leaves_from d cs leaf qs
  unfolding leaves_from All
  from-done q qs u small =
      let g = good-all (q ∷ qs) u in
      let n = cuts_for (q ∷ qs) in
      queue-enough d cs pos leaf lp n (suc n) (q ∷ qs) g (omega arith) (omega arith)
      ∙ queue-done d cs leaf n q qs small
      ∙ ap (λ (ls : List Domain). left_of d cs q ∷ right_of d cs q ∷ ls)
      (queue-enough d cs pos leaf lp n (cuts_for qs) qs g.1 (omega (arith, cuts-done d cs pos leaf lp q qs g)) (omega arith))

  pub from-none : leaves_from d cs leaf [] ≡ []
  unfolding leaves_from
  from-none = queue-empty d cs leaf _

  abbrev pub kind : Kind Domain leaf
  kind =
      record {
        rows_of = λ q. q.rows;
        depth_of = λ q. q.depth;
        left = left_of d cs;
        right = right_of d cs;
        Good = λ q. GoodRows d cs q.rows;
        left-size = λ q g. left-length d cs pos q (good-good q.rows g);
        right-size = λ q g. right-length d cs pos q (good-good q.rows g);
        left-depth = left-depth d cs;
        right-depth = right-depth d cs;
        left-good = good_left;
        right-good = good_right;
        leaves = leaves_from d cs leaf;
        leaves_none = from-none;
        leaves-wait = from-wait;
        leaves-done = from-done;
      }

  -- the leaves of a level are those of its root
  pub leaves_are : (active : List ℕ) → GoodRows d cs active → 1 ≤ length active → leaves_of d cs leaf active ≡ leaves_from d cs leaf (root_domain d cs active ∷ [])
  unfolding leaves_from root_domain total
  leaves_are active g some = sym (leaves-enough d cs pos leaf lp active (good-good active g) some (cuts_for (root_domain d cs active ∷ [])) (omega arith))

  -- their rows, joined, are as many as the active ones
  pub leaves-fill : (active : List ℕ) → GoodRows d cs active → 1 ≤ length active → length (joined (map (λ (q : Domain). q.rows) (leaves_of d cs leaf active))) ≡ length active
  leaves-fill active g some =
      length-joined (map (λ (q : Domain). q.rows) (leaves_of d cs leaf active))
      ∙ rw (map-map length (λ (q : Domain). q.rows) (leaves_of d cs leaf active)) (leaves-sum d cs pos leaf lp active (good-good active g) some)
