-- The domains of a level, a level, and the levels of a tree read back, and what stands after them. Assumes nothing.
-- Holds: domains_bytes, domains-next, StowedLevel, level-parts, leaf-count, one-leaf, level-size, at-leaves, level-back,
--   level-after, StowedTree, records-last, records-more, levels-back
use mathlib.Core.Path.{◌≡◌, refl, sym, ap, ap₂, ◌∙◌}
use Prim.Native.Nat.{ℕ, zero, suc, ◌+◌, ◌*◌, ◌≤◌}
use native.Mathlib.Omega.{arith}
use mathlib.Core.Bool.{Bool, true, false}
use mathlib.Core.List.{List, [], ◌∷◌, ◌++◌, map, append_assoc, append-nil}
use lib.ListN.{length, drop}
use lib.Dec.{eqb}
use Rattle.lists.specs.Lists.{joined}
use Rattle.lists.specs.Ascends.{All}
use Rattle.lists.proofs.Joined.{joined-append}
use Rattle.lists.proofs.Tests.{cond-true, cond-false}
use Rattle.definition.specs.Tree.{Leaf, Level}
use Rattle.formats.specs.Bytes.{mark_size, mark_bytes, number_size, number_bytes, numbers_at, numbers_bytes}
use Rattle.bytes_out.proofs.Bytes.{length-bytes}
use Rattle.tree_tests.proofs.Lengths.{length-numbers, length-level}
use Rattle.stored.specs.File.{level_mark, level_bytes, domain_bytes, tree_records}
use Rattle.stored.specs.Stored.{counts_size, first_count_lem, second_count, one_domain, domains_place, leaf_size, leaves_at_lem, after_leaves, level_in, after_level, levels_at}
use Rattle.stored_laws.specs.Writable.{NumberFits}
use Rattle.stored_laws.proofs.Fields.{field_back, drop-on, numbers-back}
use Rattle.stored_laws.proofs.Domains.{Stowed, Boxed, bounds_of, leaf-back, leaf-after}

-- ---- domains one after the other
abbrev pub domains_bytes : Bool → List Leaf → List ℕ
domains_bytes coarse fs = joined (map (λ f. domain_bytes (bounds_of coarse f) f) fs)

-- the first, and the others
pub domains-next : (coarse : Bool) (f : Leaf) (fs : List Leaf) (bs rest : List ℕ) → bs ≡ domains_bytes coarse (f ∷ fs) ++ rest
    → bs ≡ domain_bytes (bounds_of coarse f) f ++ (domains_bytes coarse fs ++ rest)
unfolding joined
domains-next coarse f fs bs rest e = e ∙ append_assoc (domain_bytes (bounds_of coarse f) f) (domains_bytes coarse fs) rest

module _ (d : ℕ) (coarse : Bool) where
  leaves-back : (fs : List Leaf) (bs rest : List ℕ) → All Stowed fs → All (Boxed d coarse) fs → bs ≡ domains_bytes coarse fs ++ rest → leaves_at_lem d coarse (length fs) bs ≡ fs
  unfolding leaves_at_lem All
  leaves-back [] bs rest k x e = refl
  leaves-back (f ∷ fs) bs rest k x e =
      let g = domains-next coarse f fs bs rest e in
      ap₂ (λ (l : Leaf) (ls : List Leaf). l ∷ ls) (leaf-back d coarse f bs (domains_bytes coarse fs ++ rest) k.0 x.0 g)
      (leaves-back fs (drop (leaf_size d coarse bs) bs) rest k.1 x.1 (leaf-after d coarse f bs (domains_bytes coarse fs ++ rest) k.0 x.0 g))

  leaves_after : (fs : List Leaf) (bs rest : List ℕ) → All Stowed fs → All (Boxed d coarse) fs → bs ≡ domains_bytes coarse fs ++ rest → after_leaves d coarse (length fs) bs ≡ rest
  unfolding after_leaves All joined
  leaves_after [] bs rest k x e = e
  leaves_after (f ∷ fs) bs rest k x e =
      let g = domains-next coarse f fs bs rest e in
      leaves_after fs (drop (leaf_size d coarse bs) bs) rest k.1 x.1 (leaf-after d coarse f bs (domains_bytes coarse fs ++ rest) k.0 x.0 g)

-- ---- a level

-- a level that its record, and those of its domains, hold
pub record StowedLevel (d : ℕ) (coarse : Bool) (l : Level) : Type 0 where
  pub one : eqb (length l.leaves) 1 ≡ coarse
  pub rows_few : NumberFits (length l.points)
  pub leaves-few : NumberFits (length l.leaves)
  pub rows-small : All NumberFits l.points
  pub stowed : All Stowed l.leaves
  pub boxed : All (Boxed d coarse) l.leaves

-- its fields, one after the other
pub level-parts : (l : Level) (rest : List ℕ)
    → level_bytes l ++ rest ≡ mark_bytes level_mark ++ (number_bytes (length l.points) ++ (number_bytes (length l.leaves) ++ (numbers_bytes l.points ++ rest)))
unfolding level_bytes
level-parts l rest = simp append_assoc

module _ (d : ℕ) (coarse : Bool) (l : Level) (bs rest : List ℕ) (k : StowedLevel d coarse l) (e : bs ≡ level_bytes l ++ (domains_bytes coarse l.leaves ++ rest)) where
  abbrev a : ℕ
  a = length l.points

  abbrev m : ℕ
  m = length l.leaves

  abbrev r3 : List ℕ
  r3 = domains_bytes coarse l.leaves ++ rest

  abbrev r2 : List ℕ
  r2 = numbers_bytes l.points ++ r3

  abbrev r1 : List ℕ
  r1 = number_bytes m ++ r2

  at_first : drop mark_size bs ≡ number_bytes a ++ r1
  at_first = ap (drop mark_size) (e ∙ level-parts l r3)

  at_second : drop (mark_size + number_size) bs ≡ r1
  at_second = drop-on mark_size number_size bs (number_bytes a) r1 (length-bytes number_size a) at_first

  at_rows : drop counts_size bs ≡ r2
  at_rows = drop-on (mark_size + number_size) number_size bs (number_bytes m) r2 (length-bytes number_size m) at_second

  row_count : first_count_lem bs ≡ a
  row_count = field_back number_size a mark_size bs r1 k.rows_few at_first

  pub leaf-count : second_count bs ≡ m
  leaf-count = field_back number_size m (mark_size + number_size) bs r2 k.leaves-few at_second

  pub one-leaf : one_domain bs ≡ coarse
  one-leaf = ap (λ (n : ℕ). eqb n 1) leaf-count ∙ k.one

  pub level-size : domains_place bs ≡ length (level_bytes l)
  level-size = ap (λ (n : ℕ). counts_size + number_size * n) row_count ∙ sym (length-level l)

  pub at-leaves : drop (domains_place bs) bs ≡ r3
  at-leaves =
      ap (λ (n : ℕ). drop (counts_size + number_size * n) bs) row_count
      ∙ drop-on counts_size (number_size * a) bs (numbers_bytes l.points) r3 (length-numbers l.points) at_rows

  pub level-back : level_in d bs ≡ l
  unfolding level_in
  level-back =
      ap₂ (λ (points : List ℕ) (leaves : List Leaf). record { points = points; leaves = leaves })
      (ap (λ (n : ℕ). numbers_at n counts_size bs) row_count ∙ numbers-back l.points counts_size bs r3 k.rows-small at_rows)
      (ap₂ (λ (c : Bool) (n : ℕ). leaves_at_lem d c n (drop (domains_place bs) bs)) one-leaf leaf-count
      ∙ leaves-back d coarse l.leaves (drop (domains_place bs) bs) rest k.stowed k.boxed at-leaves)

  pub level-after : after_level d bs ≡ rest
  unfolding after_level
  level-after =
      ap₂ (λ (c : Bool) (n : ℕ). after_leaves d c n (drop (domains_place bs) bs)) one-leaf leaf-count
      ∙ leaves_after d coarse l.leaves (drop (domains_place bs) bs) rest k.stowed k.boxed at-leaves

-- ---- the levels
unfoldable pub StowedTree : ℕ → List Level → Type 0
StowedTree d [] = ⊥
StowedTree d (l ∷ []) = StowedLevel d true l
StowedTree d (l ∷ m ∷ ls) = StowedLevel d false l × StowedTree d (m ∷ ls)

-- the last level's bytes, and those of another one with the levels after it
pub records-last : (l : Level) → joined (tree_records (l ∷ [])) ≡ level_bytes l ++ (domains_bytes true l.leaves ++ [])
unfolding tree_records joined
records-last l = ap (λ (r : List ℕ). level_bytes l ++ r) (sym (append-nil _))

pub records-more : (l m : Level) (ls : List Level)
    → joined (tree_records (l ∷ m ∷ ls)) ≡ level_bytes l ++ (domains_bytes false l.leaves ++ joined (tree_records (m ∷ ls)))
unfolding tree_records joined
records-more l m ls =
    ap (λ (r : List ℕ). level_bytes l ++ r) (joined-append (map (λ f. domain_bytes f.box f) l.leaves) (tree_records (m ∷ ls)))

pub levels-back : (d fuel : ℕ) (ls : List Level) (bs : List ℕ) → length ls ≤ fuel → StowedTree d ls → bs ≡ joined (tree_records ls) → levels_at d fuel bs ≡ ls
unfolding StowedTree levels_at
levels-back d zero [] bs h k e = absurd k
levels-back d zero (l ∷ ls) bs h k e = absurd (omega arith)
levels-back d (suc fuel) [] bs h k e = absurd k
levels-back d (suc fuel) (l ∷ []) bs h k e =
    let f = e ∙ records-last l in
    ap₂ (λ (x : Level) (xs : List Level). x ∷ xs) (level-back d true l bs [] k f)
    (cond-true (one_domain bs) [] (levels_at d fuel (after_level d bs)) (one-leaf d true l bs [] k f))
levels-back d (suc fuel) (l ∷ m ∷ ls) bs h k e =
    let more = joined (tree_records (m ∷ ls)) in
    let f = e ∙ records-more l m ls in
    ap₂ (λ (x : Level) (xs : List Level). x ∷ xs) (level-back d false l bs more k.0 f)
    (cond-false (one_domain bs) [] (levels_at d fuel (after_level d bs)) (one-leaf d false l bs more k.0 f)
    ∙ levels-back d fuel (m ∷ ls) (after_level d bs) (omega arith) k.1 (level-after d false l bs more k.0 f))
