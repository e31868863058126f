-- The tests of a level's depths pass where its leaves hold what depths say, and only there. Assumes nothing.
-- Holds: falls-pass, passed-falls, deep-pass, passed_deep, depths-pass, passed-depths, depth-most
use mathlib.Core.Path.{◌≡◌, refl, sym, subst}
use mathlib.Core.Logic.{inl, inr, ⊎_elim}
use Prim.Native.Nat.{ℕ, ◌+◌, ◌/◌, ◌^◌, ◌≤◌}
use mathlib.Core.Bool.{true, ◌||◌}
use mathlib.Core.List.{List, [], ◌∷◌, map, map-map, Memᴰ}
use lib.ListN.{length}
use lib.Dec.{leb, eqb}
use borrow.Author.Tests.{leb-true, le-leb, eqb-true, eq-eqb}
use Rattle.lists.specs.Ascends.{All, NeverFalls}
use Rattle.lists.proofs.Tests.{and-of, and-fst, and-snd, or_cases, or_left, or_right}
use Rattle.lists.proofs.All.{all-mem, all-of, all-imp, all_map, map-all}
use Rattle.definition.specs.Tree.{Leaf, Level, most_depth}
use Rattle.definition_laws.specs.Shape.{Sized}
use Rattle.definition_laws.proofs.Depths.{Halved, leaf_sized, LevelHolds}
use Rattle.stored.specs.Sound.{all_of, never_falls, deep_enough, sound_depths}
use Rattle.tree_tests.proofs.AllPass.{all-passed, all_pass}

-- ---- a list that never falls
pub falls-pass : (x : ℕ) (l : List ℕ) → NeverFalls x l → never_falls x l ≡ true
unfolding NeverFalls never_falls
falls-pass x [] h = refl
falls-pass x (y ∷ l) h = and-of (le-leb x y h.0) (falls-pass y l h.1)

pub passed-falls : (x : ℕ) (l : List ℕ) → never_falls x l ≡ true → NeverFalls x l
unfolding NeverFalls never_falls
passed-falls x [] h = tt
passed-falls x (y ∷ l) h = (leb-true x y (and-fst (leb x y) (never_falls y l) h), passed-falls y l (and-snd (leb x y) (never_falls y l) h))

-- ---- a leaf with `own` of a rows at depth e
pub deep-pass : (a own e : ℕ) → e ≤ most_depth → Halved a e own → deep_enough a own e ≡ true
unfolding deep_enough
deep-pass a own e h g =
    let x = eqb own (a / 2 ^ e) in
    let y = eqb own (a / 2 ^ e + 1) in
    and-of (le-leb e most_depth h)
    (⊎_elim (λ (q : own ≡ a / 2 ^ e). or_left x y (eq-eqb own (a / 2 ^ e) q)) (λ (q : own ≡ a / 2 ^ e + 1). or_right x y (eq-eqb own (a / 2 ^ e + 1) q)) g)

pub passed_deep : (a own e : ℕ) → deep_enough a own e ≡ true → (e ≤ most_depth) × Halved a e own
unfolding deep_enough
passed_deep a own e h =
    let x = eqb own (a / 2 ^ e) in
    let y = eqb own (a / 2 ^ e + 1) in (
      leb-true e most_depth (and-fst (leb e most_depth) (x || y) h),
      ⊎_elim (λ (q : x ≡ true). inl (eqb-true own (a / 2 ^ e) q)) (λ (q : y ≡ true). inr (eqb-true own (a / 2 ^ e + 1) q)) (or_cases x y (and-snd (leb e most_depth) (x || y) h)),
    )

-- ---- a level
module _ (l : Level) where
  abbrev a : ℕ
  a = length l.points

  abbrev Deep : Leaf → Type 0
  Deep f = deep_enough a (length f.own) f.depth ≡ true

  same_depths : map (λ (z : Sized). z.depth) (map leaf_sized l.leaves) ≡ map (λ (f : Leaf). f.depth) l.leaves
  same_depths = map-map (λ (z : Sized). z.depth) leaf_sized l.leaves

  pub depths-pass : LevelHolds l → sound_depths l ≡ true
  unfolding sound_depths
  depths-pass h =
      and-of (falls-pass 0 (map (λ f. f.depth) l.leaves) (subst (NeverFalls 0) same_depths h.never_fall))
      (all_pass (λ f. deep_enough a (length f.own) f.depth) l.leaves
      (all-of Deep l.leaves
      (λ f m. deep-pass a (length f.own) f.depth
      (all-mem (λ (f : Leaf). f.depth ≤ most_depth) l.leaves (map-all (λ (z : Sized). z.depth ≤ most_depth) leaf_sized l.leaves h.at_most) f m)
      (all-mem (λ (f : Leaf). Halved a f.depth (length f.own)) l.leaves (map-all (λ (z : Sized). Halved a z.depth z.size) leaf_sized l.leaves h.halved) f m))))

  pub passed-depths : sound_depths l ≡ true → LevelHolds l
  unfolding sound_depths
  passed-depths h =
      let x = never_falls 0 (map (λ (f : Leaf). f.depth) l.leaves) in
      let y = all_of (λ (f : Leaf). deep_enough a (length f.own) f.depth) l.leaves in
      let deep : All Deep l.leaves = all-passed (λ f. deep_enough a (length f.own) f.depth) l.leaves (and-snd x y h) in
      record {
        never_fall = subst (NeverFalls 0) (sym same_depths) (passed-falls 0 (map (λ f. f.depth) l.leaves) (and-fst x y h));
        at_most = all_map (λ (z : Sized). z.depth ≤ most_depth) leaf_sized l.leaves
            (all-imp Deep (λ f. f.depth ≤ most_depth) l.leaves (λ f u. (passed_deep a (length f.own) f.depth u).0) deep);
        halved = all_map (λ (z : Sized). Halved a z.depth z.size) leaf_sized l.leaves
            (all-imp Deep (λ f. Halved a f.depth (length f.own)) l.leaves (λ f u. (passed_deep a (length f.own) f.depth u).1) deep);
      }

  -- so no leaf is deeper than 21
  pub depth-most : sound_depths l ≡ true → (f : Leaf) → Memᴰ f l.leaves → f.depth ≤ most_depth
  depth-most h =
      all-mem (λ f. f.depth ≤ most_depth) l.leaves (map-all (λ (z : Sized). z.depth ≤ most_depth) leaf_sized l.leaves (passed-depths h).at_most)
