-- The tests of a tree in the order in which a reader meets its rows. Inner contracts cite them; `sound-in-turn` says that they come to
-- `sound`. A set of rows is a test of a row. Definitions only.
use Rattle.std.specs.Prelude.{ℕ, suc, ◌-◌, Bool, true, false, not, ◌&&◌, cond, List, [], ◌∷◌, length, leb, ltb, eqb}
use Rattle.lists.specs.Lists.{member}
use Rattle.definition.specs.Tree.{Leaf, Level}
use Rattle.stored.specs.Sound.{sound_box, no_box, deep_enough}

-- ---- sets of rows

-- the rows of a list
abbrev pub among : List ℕ → ℕ → Bool
among rows i = member i rows

-- the set without the rows of a list
abbrev pub without : List ℕ → (ℕ → Bool) → ℕ → Bool
without rows p i = p i && not (member i rows)

-- ---- rows: each is at or above `least` and in the set, and the next one is above it
unfoldable pub in_order_lem : ℕ → (ℕ → Bool) → List ℕ → Bool
in_order_lem least p [] = true
in_order_lem least p (x ∷ xs) = leb least x && p x && in_order_lem (suc x) p xs

-- ---- the box and the cover of a leaf: the coarse level's domain has no box
abbrev pub boxed : ℕ → Bool → Leaf → Bool
boxed d coarse = cond coarse (no_box d) (sound_box d)

-- ---- its depth e, where it has `own` rows, its level a, and the leaf before it the depth `least`: the coarse level's domain is at the root's
unfoldable pub depth_passes_lem : Bool → ℕ → ℕ → ℕ → ℕ → Bool
depth_passes_lem coarse a least own e = leb least e && deep_enough a own e && cond coarse (eqb e 0) true

-- ---- box, cover and depth of a leaf on d axes
abbrev pub fitted : ℕ → Bool → ℕ → ℕ → Leaf → Bool
fitted d coarse a least f = boxed d coarse f && depth_passes_lem coarse a least (length f.own) f.depth

-- ---- leaves: `listed` are the rows of the level, `left` those that no leaf before has, k in number, and `least` is the depth of the leaf before

unfoldable pub leaf_passes : (Leaf → Bool) → (ℕ → Bool) → (ℕ → Bool) → ℕ → Leaf → Bool
leaf_passes fitted listed left k f =
    leb (length f.own) k && in_order_lem 0 left f.own && in_order_lem 0 (without f.own listed) f.borrowed && fitted f

unfoldable pub leaves_pass : (ℕ → Leaf → Bool) → (ℕ → Bool) → (ℕ → Bool) → ℕ → ℕ → List Leaf → Bool
leaves_pass fitted listed left k least [] = eqb k 0
leaves_pass fitted listed left k least (f ∷ fs) =
    leaf_passes (fitted least) listed left k f && leaves_pass fitted listed (without f.own left) (k - length f.own) f.depth fs

-- ---- levels: `counts` is the test of the row count, and `above` the rows of the level above

unfoldable pub level_passes : ℕ → Bool → (ℕ → Bool) → (ℕ → Bool) → Level → Bool
level_passes d coarse counts above l =
    let a = length l.points in
    counts a && in_order_lem 0 above l.points && leaves_pass (fitted d coarse a) (among l.points) (among l.points) a 0 l.leaves

-- at least one row, and fewer than a
abbrev pub fewer : ℕ → ℕ → Bool
fewer a k = ltb 0 k && ltb k a

unfoldable pub levels_pass : ℕ → (ℕ → Bool) → (ℕ → Bool) → List Level → Bool
levels_pass d counts above [] = false
levels_pass d counts above (l ∷ []) = eqb (length l.leaves) 1 && level_passes d true counts above l
levels_pass d counts above (l ∷ m ∷ ls) =
    not (eqb (length l.leaves) 1) && level_passes d false counts above l
    && levels_pass d (fewer (length l.points)) (among l.points) (m ∷ ls)
