-- The leaves of a fine level are those of the cut, each with what it sends up: as many, and alike in all but the cover. Assumes nothing.
-- Holds: sent-many, fine-many, fine-map, fine-each, fine-at-leaf
use mathlib.Core.Path.{◌≡◌, ◌∙◌}
use mathlib.Core.List.{List, [], map}
use Prim.Native.Nat.{ℕ, ◌<◌}
use native.Mathlib.Omega.{arith}
use lib.ListN.{length, get_or, length-map}
use lib.Ieee.{Float}
use Rattle.lists.specs.Ascends.{All}
use Rattle.lists.proofs.Map.{zip_length, zip_first, zip-at}
use Rattle.lists.proofs.All.{all-zip}
use Rattle.definition.specs.Quotas.{held_seats, quotas}
use Rattle.definition.specs.Sampling.{sent_by}
use Rattle.definition.specs.Cut.{Domain, leaves_of}
use Rattle.definition.specs.Tree.{Settings, Leaf, fine_leaf, fine_level_lem, sent_lists}
use Rattle.definition.proofs.Cuts.{domain_sizes}
use Rattle.definition.proofs.Steps.{sent_with, fine_of}
use Rattle.definition.proofs.Fairness.{quotas-length}
use Rattle.definition.proofs.Next.{no_domain}

-- a list of rows sent up for each leaf
pub sent-many : (d : ℕ) (cs : List Float) (qs : List Domain) (size : ℕ) → length (sent_lists d cs qs size) ≡ length qs
unfolding sent_lists quotas
sent-many d cs qs size =
    let sizes = domain_sizes qs in
    let n : length (quotas sizes size) ≡ length qs = quotas-length sizes (held_seats sizes size) (omega arith) ∙ length-map qs (λ q. length q.rows) in
    zip_length (λ (q : Domain) (w : ℕ). sent_by d cs q.rows w) qs (quotas sizes size) n

module _ (s : Settings) (cs : List Float) (size : ℕ) (active : List ℕ) where
  abbrev qs : List Domain
  qs = leaves_of s.dimension cs s.leaf active

  abbrev to_leaf : Domain → List ℕ → Leaf
  to_leaf = fine_leaf s.dimension cs s.neighbours active

  as_many : length (sent_with s cs size active) ≡ length qs
  as_many = sent-many s.dimension cs qs size

  pub fine-many : length (fine_of s cs size active).leaves ≡ length (leaves_of s.dimension cs s.leaf active)
  unfolding fine_level_lem
  fine-many = zip_length to_leaf qs (sent_with s cs size active) as_many

  -- what does not look at the rows sent up goes by the cut's leaf alone
  pub fine-map : {A : Type 0} (g : Leaf → A) (h : Domain → A)
      → ((q : Domain) (sent : List ℕ) → g (fine_leaf s.dimension cs s.neighbours active q sent) ≡ h q)
      → map g (fine_of s cs size active).leaves ≡ map h (leaves_of s.dimension cs s.leaf active)
  unfolding fine_level_lem
  fine-map g h same = zip_first to_leaf g h same qs (sent_with s cs size active) as_many

  pub fine-each : (Q : Domain → Type 0) (P : Leaf → Type 0)
      → ((q : Domain) (sent : List ℕ) → Q q → P (fine_leaf s.dimension cs s.neighbours active q sent))
      → All Q (leaves_of s.dimension cs s.leaf active) → All P (fine_of s cs size active).leaves
  unfolding fine_level_lem
  fine-each Q P each h = all-zip Q P to_leaf each qs (sent_with s cs size active) h

  -- leaf i, made of the cut's leaf i and what that sends up
  pub fine-at-leaf : (i : ℕ) (none : Leaf) → i < length (leaves_of s.dimension cs s.leaf active)
      → get_or (fine_of s cs size active).leaves i none
      ≡ fine_leaf s.dimension cs s.neighbours active (get_or (leaves_of s.dimension cs s.leaf active) i no_domain) (get_or (sent_with s cs size active) i [])
  unfolding fine_level_lem
  fine-at-leaf i none h = zip-at to_leaf qs (sent_with s cs size active) as_many i no_domain [] none h
