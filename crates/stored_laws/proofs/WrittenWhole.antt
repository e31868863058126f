-- Bytes that begin with the records of a tree hold them whole, each at its place: a domain, a level, a tree, the head and the points,
-- and so a written file (`written-whole`). Assumes nothing.
use mathlib.Core.Path.{◌≡◌, refl, sym, ap, ap₂, ◌∙◌}
use Prim.Native.Nat.{ℕ, zero, suc, ◌≤◌}
use native.Mathlib.Omega.{arith}
use mathlib.Core.Bool.{Bool, true, false, ◌&&◌, ◌||◌}
use mathlib.Core.List.{List, [], ◌∷◌, ◌++◌, map, append_assoc}
use lib.ListN.{length, get_or, drop, length-append}
use lib.Seq.{drop_at}
use lib.Dec.{eqb}
use lib.Ieee.{Float}
use borrow.Author.Tests.{le-leb, eq-eqb}
use Rattle.lists.specs.Lists.{from, joined}
use Rattle.lists.specs.Ascends.{All}
use Rattle.lists.proofs.Tests.{and-of, cond-true, cond-false}
use Rattle.definition.specs.Levels.{Policy, auto, fixed}
use Rattle.definition.specs.Tree.{Settings, Leaf, Level, point_count}
use Rattle.definition.specs.Packed.{most_levels}
use Rattle.formats.specs.Bytes.{Mark, whole, value_at}
use Rattle.formats.specs.Stream.{policy_field, threshold_field, policy_fits_lem, point_size_lem}
use Rattle.tree_tests.proofs.Lengths.{length-head, length-point}
use Rattle.stored.specs.File.{head_mark, file_point_mark, level_mark, domain_mark, head_bytes_lem, point_bytes, front_bytes_lem, level_bytes, domain_bytes, tree_records, file_bytes}
use Rattle.stored.specs.Stored.{head_size, one_domain, domains_place, levels_place, leaf_size, after_level}
use Rattle.tree_tests.specs.Whole.{points_whole, front_whole, leaves_whole, level_whole, levels_whole}
use Rattle.stored_laws.specs.Writable.{NumberFits, FloatFits, policy_number, policy_threshold, Writable}
use Rattle.stored_laws.proofs.Domains.{Stowed, Boxed, bounds_of, leaf-size, leaf-after}
use Rattle.stored_laws.proofs.Levels.{domains_bytes, domains-next, StowedLevel, leaf-count, one-leaf, level-size, at-leaves, level-after, StowedTree, records-last, records-more}
use Rattle.stored_laws.proofs.Front.{SmallSettings, policy-back, threshold-back, front-parts, points-stand, settings-read, count-read, levels-stand}
use Rattle.stored_laws.proofs.ReadBack.{settings-small, few-small, tree-stowed}

-- ---- one record
whole_of : (m : Mark) (size : ℕ) (bs xs rest : List ℕ) → bs ≡ xs ++ rest → size ≡ length xs
    → get_or (xs ++ rest) 0 0 ≡ m.first → get_or (xs ++ rest) 1 0 ≡ m.second → whole m size bs ≡ true
whole_of m size bs xs rest e l a b =
    and-of (le-leb size (length bs) (omega (arith, l, ap length e, length-append xs rest)))
    (and-of (eq-eqb (get_or bs 0 0) m.first (ap (λ (y : List ℕ). get_or y 0 0) e ∙ a)) (eq-eqb (get_or bs 1 0) m.second (ap (λ (y : List ℕ). get_or y 1 0) e ∙ b)))

-- ---- domains
module _ (d : ℕ) (coarse : Bool) where
  leaf-whole : (f : Leaf) (bs rest : List ℕ) → Stowed f → Boxed d coarse f → bs ≡ domain_bytes (bounds_of coarse f) f ++ rest → whole domain_mark (leaf_size d coarse bs) bs ≡ true
  unfolding domain_bytes
  leaf-whole f bs rest k x e = whole_of domain_mark (leaf_size d coarse bs) bs (domain_bytes (bounds_of coarse f) f) rest e (leaf-size d coarse f bs rest k x e) refl refl

  leaves-whole : (fs : List Leaf) (bs rest : List ℕ) → All Stowed fs → All (Boxed d coarse) fs → bs ≡ domains_bytes coarse fs ++ rest → leaves_whole d coarse (length fs) bs ≡ true
  unfolding leaves_whole All
  leaves-whole [] bs rest k x e = refl
  leaves-whole (f ∷ fs) bs rest k x e =
      let g = domains-next coarse f fs bs rest e in
      let more = domains_bytes coarse fs ++ rest in
      and-of (leaf-whole f bs more k.0 x.0 g)
      (leaves-whole fs (drop (leaf_size d coarse bs) bs) rest k.1 x.1 (leaf-after d coarse f bs more k.0 x.0 g))

-- ---- levels
level-whole : (d : ℕ) (coarse : Bool) (l : Level) (bs rest : List ℕ) → StowedLevel d coarse l → bs ≡ level_bytes l ++ (domains_bytes coarse l.leaves ++ rest) → level_whole d bs ≡ true
unfolding level_whole level_bytes
level-whole d coarse l bs rest k e =
    and-of (whole_of level_mark (domains_place bs) bs (level_bytes l) (domains_bytes coarse l.leaves ++ rest) e (level-size d coarse l bs rest k e) refl refl)
    (ap₂ (λ (c : Bool) (n : ℕ). leaves_whole d c n (drop (domains_place bs) bs)) (one-leaf d coarse l bs rest k e) (leaf-count d coarse l bs rest k e)
    ∙ leaves-whole d coarse l.leaves (drop (domains_place bs) bs) rest k.stowed k.boxed (at-leaves d coarse l bs rest k e))

levels-whole : (d fuel : ℕ) (ls : List Level) (bs : List ℕ) → length ls ≤ fuel → StowedTree d ls → bs ≡ joined (tree_records ls) → levels_whole d fuel bs ≡ true
unfolding StowedTree levels_whole
levels-whole d zero [] bs h k e = absurd k
levels-whole d zero (l ∷ ls) bs h k e = absurd (omega arith)
levels-whole d (suc fuel) [] bs h k e = absurd k
levels-whole d (suc fuel) (l ∷ []) bs h k e =
    let f = e ∙ records-last l in
    and-of (level-whole d true l bs [] k f)
    (cond-true (one_domain bs) (eqb (length (after_level d bs)) 0) (levels_whole d fuel (after_level d bs)) (one-leaf d true l bs [] k f)
    ∙ eq-eqb (length (after_level d bs)) 0 (ap length (level-after d true l bs [] k f)))
levels-whole d (suc fuel) (l ∷ m ∷ ls) bs h k e =
    let more = joined (tree_records (m ∷ ls)) in
    let f = e ∙ records-more l m ls in
    and-of (level-whole d false l bs more k.0 f)
    (cond-false (one_domain bs) (eqb (length (after_level d bs)) 0) (levels_whole d fuel (after_level d bs)) (one-leaf d false l bs more k.0 f)
    ∙ levels-whole d fuel (m ∷ ls) (after_level d bs) (omega arith) k.1 (level-after d false l bs more k.0 f))

-- ---- points
point-whole : (d : ℕ) (cs : List Float) (i : ℕ) (bs rest : List ℕ) → bs ≡ point_bytes d cs i ++ rest → whole file_point_mark (point_size_lem d) bs ≡ true
unfolding point_bytes
point-whole d cs i bs rest e = whole_of file_point_mark (point_size_lem d) bs (point_bytes d cs i) rest e (sym (length-point d cs i)) refl refl

points-whole : (d : ℕ) (cs : List Float) (i n : ℕ) (bs rest : List ℕ) → bs ≡ joined (map (point_bytes d cs) (from i n)) ++ rest → points_whole d n bs ≡ true
unfolding points_whole from joined
points-whole d cs i zero bs rest e = refl
points-whole d cs i (suc n) bs rest e =
    let more = joined (map (point_bytes d cs) (from (suc i) n)) ++ rest in
    let f : bs ≡ point_bytes d cs i ++ more = e ∙ append_assoc (point_bytes d cs i) (joined (map (point_bytes d cs) (from (suc i) n))) rest in
    and-of (point-whole d cs i bs more f)
    (points-whole d cs (suc i) n (drop (point_size_lem d) bs) rest (ap (drop (point_size_lem d)) f ∙ drop_at (point_bytes d cs i) more (point_size_lem d) (length-point d cs i)))

-- ---- the head
policy-fits : (p : Policy) (kind limit : ℕ) → kind ≡ policy_number p → limit ≡ policy_threshold p → eqb kind 1 || (eqb kind 0 && eqb limit 0) ≡ true
policy-fits auto kind limit a b = rw (a, b)
policy-fits (fixed c) kind limit a b = rw a

-- ---- a written file
module _ (s : Settings) (cs : List Float) (bs rest : List ℕ) (k : SmallSettings s) (h : All FloatFits cs) (few : NumberFits (point_count s.dimension cs)) (e : bs ≡ front_bytes_lem s cs ++ rest) where
  abbrev n : ℕ
  n = point_count s.dimension cs

  abbrev behind : List ℕ
  behind = joined (map (point_bytes s.dimension cs) (from 0 n)) ++ rest

  parts : bs ≡ head_bytes_lem s n ++ behind
  parts = front-parts s cs bs rest k h e

  head-whole : whole head_mark head_size bs ≡ true
  unfolding head_bytes_lem
  head-whole = whole_of head_mark head_size bs (head_bytes_lem s n) behind parts (sym (length-head s n)) refl refl

  front-whole : front_whole bs ≡ true
  unfolding front_whole policy_fits_lem
  front-whole =
      and-of (and-of head-whole (policy-fits s.policy (value_at policy_field bs) (value_at threshold_field bs) (policy-back s n bs behind k parts) (threshold-back s n bs behind k parts)))
      (ap₂ (λ (t : Settings) (m : ℕ). points_whole t.dimension m (drop head_size bs)) (settings-read s cs bs rest k h e) (count-read s cs bs rest k h e few)
      ∙ points-whole s.dimension cs 0 n (drop head_size bs) rest (points-stand s cs bs rest k h e))

pub written-whole : (s : Settings) (cs : List Float) (ls : List Level) (bs : List ℕ) → Writable s cs ls → bs ≡ file_bytes s cs ls
    → (front_whole bs ≡ true) × (levels_whole s.dimension most_levels (drop (levels_place bs) bs) ≡ true)
unfolding file_bytes
written-whole s cs ls bs w e =
    let k = settings-small s cs ls w in
    let few = few-small s cs ls w in
    let t = tree-stowed s cs ls w in
    let rest = joined (tree_records ls) in (
      front-whole s cs bs rest k w.points_fit few e,
      levels-whole s.dimension most_levels ls (drop (levels_place bs) bs) t.0 t.1 (levels-stand s cs bs rest k w.points_fit e few),
    )
