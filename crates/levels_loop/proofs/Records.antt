-- The records of the levels in a list that takes something of each node. What is written, with what the levels that are left will
-- write, is what is due. Assumes nothing.
-- Holds: Taken, levels-some, taken-first, taken-fits, taken_next, taken-end
use mathlib.Core.Path.{◌≡◌, refl, sym, ap, ◌∙◌}
use mathlib.Core.Logic.{⊎_elim}
use mathlib.Core.List.{List, [], ◌∷◌, ◌++◌, map, map-append}
use Prim.Native.Nat.{ℕ, zero, suc, ◌+◌, ◌*◌, ◌≤◌, ◌<◌}
use native.Mathlib.Omega.{arith}
use native.Mathlib.Nat.{suc-mul}
use lib.ListN.{length, length-map}
use lib.Ieee.{Float}
use Rattle.lists.specs.Lists.{put, joined}
use Rattle.lists.proofs.Tests.{le-or-lt}
use Rattle.lists.proofs.Put.{length-put, put-nil, put-next-at}
use Rattle.definition.specs.Tree.{Settings, Level, coarse_level_lem, levels_from}
use Rattle.definition.specs.Record.{Node, record_of, fine_levels, nodes_in}
use Rattle.definition.proofs.Steps.{fine_of, size_from, next_of, levels-last, levels-end, levels-more}
use Rattle.levels_loop.specs.Records.{level_nodes}
use Rattle.levels_loop.proofs.Spaces.{part-less}
use Rattle.levels_loop.proofs.Fine.{fine-rows}

-- A list when the loop began and now, with room for the records of t more levels over at most `a` rows each from `node` on.
pub record Taken {A : Type 0} (f : Node → A) (s : Settings) (cs : List Float) (all rest : List Level) (a t : ℕ) (X X₁ : List A) (node : ℕ) : Type 0 where
  pub room : node + t * level_nodes a ≤ length X₁
  pub long : length X₁ ≡ length X
  pub due : put X₁ node (map f (nodes_in s cs rest)) ≡ put X 0 (map f (nodes_in s cs all))

-- ---- the levels that are left are never none
module _ (s : Settings) (cs : List Float) (c k : ℕ) where
  pub levels-some : (fuel built : ℕ) (active : List ℕ) → (l : Level) × ((ls : List Level) × (levels_from s cs c k fuel built active ≡ l ∷ ls))
  levels-some zero built active = (coarse_level_lem s.dimension active, ([], levels-last s cs c k built active))
  levels-some (suc fuel) built active =
      ⊎_elim
      (λ (h : length active ≤ c). (coarse_level_lem s.dimension active, ([], levels-end s cs c k fuel built active h)))
      (λ (h : c < length active). (fine_of s cs (size_from c k built active) active, (levels_from s cs c k fuel (suc built) (next_of s cs c k built active), levels-more s cs c k fuel built active h)))
      (le-or-lt (length active) c)

-- ---- the records of a fine level and of those after it
module _ (s : Settings) (cs : List Float) where
  nodes-more : (l m : Level) (ls : List Level) → nodes_in s cs (l ∷ m ∷ ls) ≡ record_of s.dimension cs s.leaf l.points ++ nodes_in s cs (m ∷ ls)
  unfolding nodes_in fine_levels joined
  nodes-more l m ls = refl

  nodes-last : (l : Level) → nodes_in s cs (l ∷ []) ≡ []
  unfolding nodes_in fine_levels joined
  nodes-last l = refl

  records-more : (size : ℕ) (active : List ℕ) (rest : List Level) (m : Level) (ls : List Level) → rest ≡ m ∷ ls
      → nodes_in s cs (fine_of s cs size active ∷ rest) ≡ record_of s.dimension cs s.leaf active ++ nodes_in s cs rest
  records-more size active rest m ls e =
      rw e (nodes-more (fine_of s cs size active) m ls
      ∙ ap (λ (z : List ℕ). record_of s.dimension cs s.leaf z ++ nodes_in s cs (m ∷ ls)) (fine-rows s cs size active))

-- fewer rows ask for less
nodes-fewer : (b a : ℕ) → b ≤ a → level_nodes b ≤ level_nodes a
nodes-fewer b a h = omega arith

module _ {A : Type 0} (f : Node → A) (s : Settings) (cs : List Float) (all : List Level) where
  -- ---- before the first level
  pub taken-first : (n t : ℕ) (X : List A) → t * level_nodes n ≤ length X → Taken f s cs all all n t X X 0
  taken-first n t X h = record { room = omega (arith, h); long = refl; due = refl }

  -- ---- one more level fits
  pub taken-fits : {rest : List Level} {a t : ℕ} {X X₁ : List A} {node : ℕ} → Taken f s cs all rest a t X X₁ node → 1 ≤ t → node + level_nodes a ≤ length X₁
  taken-fits {t = zero} v h = absurd (omega arith)
  taken-fits {a = a} {t = suc t} v h = omega (arith, v.room, suc-mul t (level_nodes a))

  -- ---- and it has written m nodes
  pub taken_next : {rest : List Level} {a t₀ : ℕ} {X X₁ : List A} {node : ℕ} (v : Taken f s cs all rest a t₀ X X₁ node) (t : ℕ) → t₀ ≡ suc t
      → (size : ℕ) (active : List ℕ) (next : List Level) → rest ≡ fine_of s cs size active ∷ next → (l : Level) × ((ls : List Level) × (next ≡ l ∷ ls))
      → (b m : ℕ) → b ≤ a → m ≡ length (record_of s.dimension cs s.leaf active) → m ≤ level_nodes a
      → (X₂ : List A) → X₂ ≡ put X₁ node (map f (record_of s.dimension cs s.leaf active)) → Taken f s cs all next b t X X₂ (node + m)
  taken_next {rest = rest} {a = a} {X₁ = X₁} {node = node} v t et size active next first some b m hb em hm X₂ eX =
      let r = record_of s.dimension cs s.leaf active in
      let mapped : length (map f r) ≡ m = length-map r f ∙ sym em in
      let room : node + suc t * level_nodes a ≤ length X₁ = rw et at v.room in
      let kept : length X₂ ≡ length X₁ = rw eX (length-put X₁ node (map f r) (omega (arith, mapped, suc-mul t (level_nodes a)))) in
      let both : nodes_in s cs rest ≡ r ++ nodes_in s cs next = rw first (records-more s cs size active next some.0 some.1.0 some.1.1) in
      let more : map f (nodes_in s cs rest) ≡ map f r ++ map f (nodes_in s cs next) = ap (map f) both ∙ map-append f r (nodes_in s cs next) in
      record {
        room = omega (arith, part-less node m (level_nodes a) (level_nodes b) t hm (nodes-fewer b a hb), kept);
        long = kept ∙ v.long;
        due =
            rw eX (put-next-at X₁ node (map f r) (map f (nodes_in s cs next)) (node + m) (omega (arith, suc-mul t (level_nodes a))) (omega (arith, mapped)))
            ∙ ap (put X₁ node) (sym more) ∙ v.due;
      }

  -- ---- after the last: the coarse level has no record
  pub taken-end : {rest : List Level} {a t : ℕ} {X X₁ : List A} {node : ℕ} → Taken f s cs all rest a t X X₁ node → (l : Level) → rest ≡ l ∷ []
      → X₁ ≡ put X 0 (map f (nodes_in s cs all))
  taken-end {rest = rest} {X₁ = X₁} {node = node} v l e =
      let none : nodes_in s cs rest ≡ [] = rw e (nodes-last s cs l) in
      sym (put-nil X₁ node) ∙ ap (λ (z : List Node). put X₁ node (map f z)) (sym none) ∙ v.due
