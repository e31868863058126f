-- Box, cover and depth of leaves tested one after the other: each box as it is to be, and `sound_depths`. Assumes nothing.
use mathlib.Core.Path.{◌≡◌, refl, sym, ◌∙◌}
use Prim.Native.Nat.{ℕ}
use mathlib.Core.Bool.{Bool, true, false, ◌&&◌, cond, and_assoc, and_comm}
use mathlib.Core.List.{List, [], ◌∷◌, map}
use lib.ListN.{length}
use lib.Dec.{leb, eqb}
use Rattle.definition.specs.Tree.{Leaf}
use Rattle.stored.specs.Sound.{all_of, never_falls, deep_enough, at_root}
use Rattle.tree_tests.specs.InTurn.{boxed, depth_passes_lem, fitted}
use Rattle.tree_tests.proofs.AllPass.{all-pass-nil, all-pass-cons}
use Rattle.tree_tests.proofs.Leaves.{each_from}

pub and_left : (a b c : Bool) → a && (b && c) ≡ b && (a && c)
and_left a b c = sym (and_assoc a b c) ∙ rw (and_comm a b) (and_assoc b a c)

regroup : (b n e r bs ns es rs : Bool) → b && (n && e && r) && (bs && (ns && es) && rs) ≡ (b && bs) && ((n && ns) && (e && es)) && (r && rs)
regroup b n e r bs ns es rs = simp (and_assoc, and_left)

-- of the coarse level alone: each at the root's depth
abbrev pub root_only : Bool → List Leaf → Bool
root_only coarse fs = cond coarse (all_of at_root fs) true

root-nil : (coarse : Bool) → root_only coarse [] ≡ true
root-nil true = all-pass-nil at_root
root-nil false = refl

root-cons : (coarse : Bool) (f : Leaf) (fs : List Leaf) → root_only coarse (f ∷ fs) ≡ cond coarse (eqb f.depth 0) true && root_only coarse fs
root-cons true f fs = all-pass-cons at_root f fs
root-cons false f fs = refl

-- the tests of one leaf, and of those behind it
one_by_one : (coarse : Bool) (a least own e : ℕ) (b bs ns es rs : Bool)
    → b && depth_passes_lem coarse a least own e && (bs && (ns && es) && rs)
    ≡ (b && bs) && ((leb least e && ns) && (deep_enough a own e && es)) && (cond coarse (eqb e 0) true && rs)
unfolding depth_passes_lem
one_by_one coarse a least own e b bs ns es rs = regroup b (leb least e) (deep_enough a own e) (cond coarse (eqb e 0) true) bs ns es rs

-- the leaf has the rows that its depth says
abbrev deep : ℕ → Leaf → Bool
deep a f = deep_enough a (length f.own) f.depth

-- THE LEAVES: from one on, where the one before it has the depth `least`
pub fitted-in-turn : (d : ℕ) (coarse : Bool) (a least : ℕ) (fs : List Leaf)
    → each_from (fitted d coarse a) least fs
    ≡ all_of (boxed d coarse) fs && (never_falls least (map (λ f. f.depth) fs) && all_of (λ f. deep_enough a (length f.own) f.depth) fs) && root_only coarse fs
unfolding each_from never_falls
fitted-in-turn d coarse a least [] = rw (all-pass-nil (boxed d coarse), all-pass-nil (deep a), root-nil coarse)
fitted-in-turn d coarse a least (f ∷ fs) =
    rw (all-pass-cons (boxed d coarse) f fs, all-pass-cons (deep a) f fs, root-cons coarse f fs, fitted-in-turn d coarse a f.depth fs)
    (one_by_one coarse a least (length f.own) f.depth
    (boxed d coarse f) (all_of (boxed d coarse) fs) (never_falls f.depth (map (λ f. f.depth) fs)) (all_of (deep a) fs) (root_only coarse fs))
