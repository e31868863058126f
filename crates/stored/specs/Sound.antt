-- The tests that a tree has to pass before it is written or handed out. Definitions only.
use Rattle.std.specs.Prelude.{ℕ, ◌+◌, ◌/◌, ◌^◌, Bool, true, false, not, ◌&&◌, ◌||◌, List, [], ◌∷◌, map, length, replicate, leb, ltb, eqb}
use Rattle.std.specs.Float.{binary64}
use Rattle.std.specs.Float.Ieee.{to_bits, is_nan}
use Rattle.lists.specs.Lists.{any_of, member, count, from, joined}
use Rattle.definition.specs.Number.{plus_zero}
use Rattle.definition.specs.Points.{box_width_lem}
use Rattle.definition.specs.Tree.{Settings, Leaf, Level, most_depth}
use Rattle.definition.specs.Packed.{most_levels, leaf_floats, tree_stated, packed_level_points, packed_internals, packed_domains, packed_borrowed}

-- ---- lists

-- each element passes the test
abbrev pub all_of : {A : Type 0} → (A → Bool) → List A → Bool
all_of p xs = not (any_of (λ x. not (p x)) xs)

-- the same numbers in the same order
unfoldable pub same : List ℕ → List ℕ → Bool
same [] [] = true
same [] (y ∷ ys) = false
same (x ∷ xs) [] = false
same (x ∷ xs) (y ∷ ys) = eqb x y && same xs ys

-- ascending without repeats
unfoldable pub ascending : List ℕ → Bool
ascending [] = true
ascending (x ∷ xs) = all_of (λ y. ltb x y) xs && ascending xs

-- x and then the list never fall: each is at least the one before it
unfoldable pub never_falls : ℕ → List ℕ → Bool
never_falls x [] = true
never_falls x (y ∷ ys) = leb x y && never_falls y ys

-- ---- a level

-- internals a partition: each listed row is internal once, and no other row is
unfoldable pub partitioned : Level → Bool
partitioned l =
    let own = joined (map (λ f. f.own) l.leaves) in
    all_of (λ i. eqb (count (λ j. eqb j i) own) 1) l.points && all_of (λ i. member i l.points) own

-- lists ascending without repeats; borrowed rows active and foreign
unfoldable pub sound_leaf : List ℕ → Leaf → Bool
sound_leaf active f =
    ascending f.own && ascending f.borrowed && all_of (λ j. member j active && not (member j f.own)) f.borrowed

-- a box of two bounds on each axis and a cover, none of them a NaN
unfoldable pub sound_box : ℕ → Leaf → Bool
sound_box d f = eqb (length f.box) (box_width_lem d) && not (any_of is_nan (leaf_floats f))

-- no box, that is +0 for each bound, and a cover that is no NaN
unfoldable pub no_box : ℕ → Leaf → Bool
no_box d f = same (map (to_bits binary64) f.box) (map (to_bits binary64) (replicate (box_width_lem d) plus_zero)) && not (is_nan f.cover)

unfoldable pub sound_rows : Level → Bool
sound_rows l = ascending l.points && partitioned l && all_of (sound_leaf l.points) l.leaves

-- a leaf with `own` rows at depth e in a level of a rows: e is at most 21, and it has a / 2^e rows, rounded down, or one more
unfoldable pub deep_enough : ℕ → ℕ → ℕ → Bool
deep_enough a own e = leb e most_depth && (eqb own (a / 2 ^ e) || eqb own (a / 2 ^ e + 1))

-- in row order depths never fall, and each leaf has the rows that its depth says
unfoldable pub sound_depths : Level → Bool
sound_depths l =
    never_falls 0 (map (λ f. f.depth) l.leaves) && all_of (λ f. deep_enough (length l.points) (length f.own) f.depth) l.leaves

-- the coarse domain's depth is the root's
abbrev pub at_root : Leaf → Bool
at_root f = eqb f.depth 0

-- a nonempty proper part (both lists ascend, so a proper part is a shorter one)
unfoldable pub proper_part : List ℕ → List ℕ → Bool
proper_part rows above = ltb 0 (length rows) && ltb (length rows) (length above) && all_of (λ i. member i above) rows

-- ---- the levels: one domain in the last one, and only there; each a nonempty proper part of the one above

unfoldable pub sound_levels : ℕ → List Level → Bool
sound_levels d [] = false
sound_levels d (l ∷ []) = sound_rows l && sound_depths l && eqb (length l.leaves) 1 && all_of (no_box d) l.leaves && all_of at_root l.leaves
sound_levels d (l ∷ m ∷ ls) =
    sound_rows l && sound_depths l && not (eqb (length l.leaves) 1) && all_of (sound_box d) l.leaves && proper_part m.points l.points
    && sound_levels d (m ∷ ls)

-- the first level lists all rows
unfoldable pub first_all : ℕ → List Level → Bool
first_all n [] = false
first_all n (l ∷ ls) = same l.points (from 0 n)

-- no more than document 01's lists hold
unfoldable pub fits : ℕ → ℕ → ℕ → List Level → Bool
fits d n neighbours ls =
    let stated = tree_stated d n neighbours in
    leb (length (packed_level_points ls)) stated.level_points && leb (length (packed_internals ls)) stated.internals
    && leb (length (packed_domains ls)) stated.domains && leb (length (packed_borrowed ls)) stated.borrowed

-- the tests of a tree over n rows
unfoldable pub sound : Settings → ℕ → List Level → Bool
sound s n ls =
    let d = s.dimension in
    leb (length ls) most_levels && first_all n ls && sound_levels d ls && fits d n s.neighbours ls
