-- What stands in a file, by its places and counts alone, and when it is the file of a tree. Definitions only.
use Rattle.std.specs.Prelude.{ℕ, zero, suc, ◌+◌, ◌*◌, Bool, true, false, ◌&&◌, cond, List, [], ◌∷◌, map, drop, replicate, eqb, Float}
use Rattle.lists.specs.Lists.{from, joined}
use Rattle.definition.specs.Number.{plus_zero}
use Rattle.definition.specs.Points.{box_width_lem}
use Rattle.definition.specs.Tree.{Settings, Leaf, Level, point_count}
use Rattle.definition.specs.Packed.{most_levels}
use Rattle.definition.specs.Refusals.{Verdict, accepted, refused, verdict, build_tests, not_finite_lem}
use Rattle.formats.specs.Bytes.{mark_size, number_size, number_at, numbers_at, float_size, float_at, floats_at}
use Rattle.formats.specs.Stream.{settings_in, settings_size, point_size_lem}
use Rattle.stored.specs.File.{file_bytes}
use Rattle.stored.specs.Sound.{same, sound}

-- ---- read by place and count, whatever the marks are

-- the head's bytes: the settings record's and the point count
abbrev pub head_size : ℕ
head_size = settings_size + number_size

-- a level's or a domain's bytes before its rows: the mark's and two counts
abbrev pub counts_size : ℕ
counts_size = mark_size + 2 * number_size

-- The two counts: a level's rows and domains, a domain's internal and borrowed rows.
abbrev pub first_count_lem : List ℕ → ℕ
first_count_lem bs = number_at mark_size bs

abbrev pub second_count : List ℕ → ℕ
second_count bs = number_at (mark_size + number_size) bs

-- where a domain's borrowed rows, its bounds, its cover and its depth begin; the coarse one has no bounds
abbrev pub borrowed_place : List ℕ → ℕ
borrowed_place bs = counts_size + number_size * first_count_lem bs

abbrev pub bounds_place : List ℕ → ℕ
bounds_place bs = counts_size + number_size * (first_count_lem bs + second_count bs)

abbrev pub cover_place : ℕ → Bool → List ℕ → ℕ
cover_place d coarse bs = bounds_place bs + cond coarse 0 (float_size * box_width_lem d)

abbrev pub depth_place : ℕ → Bool → List ℕ → ℕ
depth_place d coarse bs = cover_place d coarse bs + float_size

-- the domain at the front of bs; the coarse one has no box
unfoldable pub leaf_in : ℕ → Bool → List ℕ → Leaf
leaf_in d coarse bs =
    record {
      own = numbers_at (first_count_lem bs) counts_size bs;
      borrowed = numbers_at (second_count bs) (borrowed_place bs) bs;
      box = cond coarse (replicate (box_width_lem d) plus_zero) (floats_at (box_width_lem d) (bounds_place bs) bs);
      cover = float_at (cover_place d coarse bs) bs;
      depth = number_at (depth_place d coarse bs) bs;
    }

-- its bytes
unfoldable pub leaf_size : ℕ → Bool → List ℕ → ℕ
leaf_size d coarse bs = depth_place d coarse bs + number_size

-- m domains one after another, and what stands after them
unfoldable pub leaves_at_lem : ℕ → Bool → ℕ → List ℕ → List Leaf
leaves_at_lem d coarse zero bs = []
leaves_at_lem d coarse (suc m) bs = leaf_in d coarse bs ∷ leaves_at_lem d coarse m (drop (leaf_size d coarse bs) bs)

unfoldable pub after_leaves : ℕ → Bool → ℕ → List ℕ → List ℕ
after_leaves d coarse zero bs = bs
after_leaves d coarse (suc m) bs = after_leaves d coarse m (drop (leaf_size d coarse bs) bs)

-- the level at the front of bs: one domain makes it the coarse one
abbrev pub one_domain : List ℕ → Bool
one_domain bs = eqb (second_count bs) 1

-- where its domains begin
abbrev pub domains_place : List ℕ → ℕ
domains_place bs = counts_size + number_size * first_count_lem bs

unfoldable pub level_in : ℕ → List ℕ → Level
level_in d bs =
    record {
      points = numbers_at (first_count_lem bs) counts_size bs;
      leaves = leaves_at_lem d (one_domain bs) (second_count bs) (drop (domains_place bs) bs);
    }

unfoldable pub after_level : ℕ → List ℕ → List ℕ
after_level d bs = after_leaves d (one_domain bs) (second_count bs) (drop (domains_place bs) bs)

-- the levels to the coarse one, at most `fuel` of them
unfoldable pub levels_at : ℕ → ℕ → List ℕ → List Level
levels_at d zero bs = []
levels_at d (suc fuel) bs =
    let more = levels_at d fuel (after_level d bs) in
    level_in d bs ∷ cond (one_domain bs) [] more

-- ---- settings, points and tree in a file

abbrev pub count_in : List ℕ → ℕ
count_in bs = number_at settings_size bs

unfoldable pub points_in : List ℕ → List Float
points_in bs =
    let d = (settings_in bs).dimension in
    joined (map (λ i. floats_at d (head_size + i * point_size_lem d + mark_size) bs) (from 0 (count_in bs)))

-- where the levels begin
abbrev pub levels_place : List ℕ → ℕ
levels_place bs = head_size + count_in bs * point_size_lem (settings_in bs).dimension

unfoldable pub tree_in : List ℕ → List Level
tree_in bs = levels_at (settings_in bs).dimension most_levels (drop (levels_place bs) bs)

-- ---- 20

unfoldable pub taken : Verdict → Bool
taken accepted = true
taken (refused r) = false

-- the build takes these settings and points, in lists that are long enough
unfoldable pub buildable : Settings → List Float → Bool
buildable s cs = taken (verdict (build_tests s (point_count s.dimension cs) false false (not_finite_lem cs)))

-- The bytes are the writer's bytes of what stands in them, which is sound, over settings and points that the build takes. (So marks,
-- policy, length and each bit agree.)
unfoldable pub well_formed : List ℕ → Bool
well_formed bs =
    let s = settings_in bs in
    buildable s (points_in bs) && sound s (count_in bs) (tree_in bs) && same bs (file_bytes s (points_in bs) (tree_in bs))
