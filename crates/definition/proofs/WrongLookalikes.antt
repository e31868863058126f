-- Rows that tell the definition from lookalikes that come out wrong, each with the answer that document 01 gives; the comments say
-- what a lookalike would give. Each row is computed. Assumes nothing.
use Prim.Native.Nat.{ℕ}
use mathlib.Core.Path.{◌≡◌, refl}
use mathlib.Core.List.{List, [], ◌∷◌, map}
use lib.ListN.{length, replicate}
use lib.Ieee.{Float, binary64, of_bits}
use Rattle.lists.specs.Lists.{from}
use Rattle.definition.specs.Levels.{auto, threshold, reductions, level_size_lem}
use Rattle.definition.specs.Cut.{leaves_of}
use Rattle.definition.specs.Quotas.{quotas}
use Rattle.definition.specs.Sampling.{seed_of}
use Rattle.definition.specs.Overlaps.{nearest}
use Rattle.definition.specs.Tree.{Settings, Level, levels, levels_from}
use Rattle.definition.specs.Outcome.{root_answer, quota_answer, sample_output}
use Rattle.definition.proofs.WorkedSamples.{opened, line, on_line}
use Rattle.definition.proofs.WorkedExamples.{reports}

-- the rows of each leaf of a level, the box of each, and the rows of each level
abbrev rows_cut_lem : ℕ → List Float → ℕ → ℕ → List (List ℕ)
rows_cut_lem d cs leaf n = map (λ q. q.rows) (leaves_of d cs leaf (from 0 n))

abbrev boxes_cut : ℕ → List Float → ℕ → ℕ → List (List Float)
boxes_cut d cs leaf n = map (λ q. q.box) (leaves_of d cs leaf (from 0 n))

abbrev points_in : List Level → List (List ℕ)
points_in ls = map (λ l. l.points) ls

abbrev floats : List ℕ → List Float
floats bits = map (of_bits binary64) bits

-- the corners of a square, the second axis slower
abbrev square : List Float
square = line (0 ∷ 0 ∷ 1 ∷ 0 ∷ 0 ∷ 1 ∷ 1 ∷ 1 ∷ [])

-- three points of the plane: rows 1 and 2 lie at squared distances 1 and 1 + 2^-52 from row 0, which share the root 1
abbrev same_root : List Float
same_root = floats (0 ∷ 0 ∷ 0x3ff0000000000000 ∷ 0 ∷ 0x3ff0000000000000 ∷ 0x3e50000000000000 ∷ [])

-- the same with rows 1 and 2 exchanged
abbrev same_root_turned : List Float
same_root_turned = floats (0 ∷ 0 ∷ 0x3ff0000000000000 ∷ 0x3e50000000000000 ∷ 0x3ff0000000000000 ∷ 0 ∷ [])

-- Four points of space. All together they are longest on the third axis, rows 1 and 2 on the second, rows 0 and 3 on the first.
abbrev solid : List Float
solid = line (4 ∷ 7 ∷ 9 ∷ 5 ∷ 5 ∷ 1 ∷ 4 ∷ 0 ∷ 0 ∷ 0 ∷ 6 ∷ 8 ∷ [])

-- +0 and then -0
abbrev zeros : List Float
zeros = floats (0 ∷ 0x8000000000000000 ∷ [])

-- the settings `on_line 2`, but for the policy Auto
abbrev auto_line : Settings
auto_line = record { dimension = 1; leaf = 2; neighbours = 1; factor = 2; policy = auto }

pub record Lookalikes : Type 0 where
  -- cutting depth first would give the two shallow leaves of the right half later
  breadth_first : map length (rows_cut_lem 1 (line (from 0 14)) 2 14) ≡ 1 ∷ 2 ∷ 1 ∷ 2 ∷ 1 ∷ 1 ∷ 1 ∷ 1 ∷ 1 ∷ 1 ∷ 1 ∷ 1 ∷ []
  -- and remainder ties would fall elsewhere: the next level would be 0, 1, 2
  breadth_first_ties : points_in (levels (on_line 1 3) (line (from 0 6))) ≡ from 0 6 ∷ (0 ∷ 1 ∷ 3 ∷ []) ∷ []
  -- a cut on the third axis, then on the second and on the first: cut on the first axis alone, the leaves would be rows 3, 0, 2, 1
  cut_axes : rows_cut_lem 3 solid 2 4 ≡ (2 ∷ []) ∷ (1 ∷ []) ∷ (3 ∷ []) ∷ (0 ∷ []) ∷ []
  -- each child changes one bound, on the axis that is cut, and has the others from its parent
  cut_boxes :
      boxes_cut 3 solid 2 4
      ≡ line (0 ∷ 0 ∷ 0 ∷ 5 ∷ 5 ∷ 8 ∷ []) ∷ line (0 ∷ 5 ∷ 0 ∷ 5 ∷ 7 ∷ 8 ∷ []) ∷ line (0 ∷ 0 ∷ 8 ∷ 4 ∷ 7 ∷ 9 ∷ []) ∷ line (4 ∷ 0 ∷ 8 ∷ 5 ∷ 7 ∷ 9 ∷ []) ∷ []
  -- the first of the longest axes: by the last one the halves would be rows 0, 1 and 2, 3
  first_longest : rows_cut_lem 2 square 3 4 ≡ (0 ∷ 2 ∷ []) ∷ (1 ∷ 3 ∷ []) ∷ []
  -- a box is inherited: measured from its own points, the left leaf's would end at 1
  box_inherited : boxes_cut 1 (line (0 ∷ 1 ∷ 5 ∷ 9 ∷ [])) 3 4 ≡ line (0 ∷ 5 ∷ []) ∷ line (5 ∷ 9 ∷ []) ∷ []
  -- -0 equals +0, so the lower row goes left: with -0 below +0 it would be row 1
  zero_rows : rows_cut_lem 1 zeros 2 2 ≡ (0 ∷ []) ∷ (1 ∷ []) ∷ []
  -- both bounds of the root are +0, the sign met first, and the plane is row 1's -0
  zero_boxes : boxes_cut 1 zeros 2 2 ≡ zeros ∷ floats (0x8000000000000000 ∷ 0 ∷ []) ∷ []
  -- two squares share one root, and then the lower row is due: by squares row 2 would come
  sampled_by_root : sample_output 2 same_root 2 0 (replicate 2 9) (line (replicate 6 9)) (replicate 3 9) ≡ 0 ∷ 1 ∷ []
  -- the same of the seed: by squares it would be row 1
  seeded_by_root : seed_of 2 (line (0 ∷ 4 ∷ 1 ∷ 5 ∷ 4 ∷ 1 ∷ [])) (from 0 3) ≡ 0
  -- the seed is the row nearest the centroid, 2.75, and not the first row
  seed_inside : seed_of 1 (line (0 ∷ 1 ∷ 3 ∷ 7 ∷ [])) (from 0 4) ≡ 2
  -- the centroid's sum runs in row order, each step rounded, and comes to -1 here: backwards it would be 1, and the seed row 1
  seed_by_row_order : seed_of 1 (floats (0x4340000000000000 ∷ 0x3ff0000000000000 ∷ 0xbff0000000000000 ∷ 0xc340000000000000 ∷ [])) (from 0 4) ≡ 2
  -- neighbours go by the squares: by roots row 1 would be taken
  nearest_by_square : nearest 2 same_root_turned 1 (from 0 3) 0 ≡ 0 ∷ 2 ∷ []
  -- equal distances: the lower rows are taken
  lower_row : nearest 1 (line (3 ∷ 5 ∷ 4 ∷ 3 ∷ 5 ∷ [])) 2 (from 0 5) 2 ≡ 2 ∷ 0 ∷ 1 ∷ []
  -- duplicates count: a leaf with two rows at one place sends both; left out, the next level would be 0, 2
  duplicates_count : points_in (levels (on_line 3 3) (line (replicate 4 5))) ≡ from 0 4 ∷ (0 ∷ 1 ∷ 2 ∷ []) ∷ []
  -- one seat for each nonempty leaf where the seats reach: by plain shares the first leaf would get both
  one_each : quotas (9 ∷ 1 ∷ []) 2 ≡ 1 ∷ 1 ∷ []
  -- where they do not reach there are plain shares
  one_each_not : quotas (9 ∷ 1 ∷ 1 ∷ []) 2 ≡ 2 ∷ 0 ∷ 0 ∷ []
  -- the rest is shared by the capacity that remains: by sizes leaf 1 would get 2
  remaining_shared : quotas (4 ∷ 2 ∷ []) 4 ≡ 3 ∷ 1 ∷ []
  -- equal remainders: the seat goes to the lower leaf
  lower_leaf : quotas (2 ∷ 2 ∷ 2 ∷ []) 4 ≡ 2 ∷ 1 ∷ 1 ∷ []
  -- S is held to the total: 5 seats more would be shared, and 9 reported
  held_to_total : quotas (2 ∷ 2 ∷ []) 9 ≡ 2 ∷ 2 ∷ []
  held_reported :
      quota_answer (2 ∷ 2 ∷ []) 9 (replicate 2 9) (replicate 2 9)
      ≡ reports (record { leaves = 2; seats = 4 })
  -- the least m with m^r at least c a^(r - 1): rounded to the nearest, the root of 30 would give 5
  size_not_nearest : level_size_lem 10 3 2 ≡ 6
  -- Auto is held to 4,096: the ceiling would be 4,097
  auto_held : threshold auto 131073 ≡ 4096
  -- c * f^k has to reach n, no more: 8 is 1 * 2^3
  reductions_reach : reductions 8 1 2 ≡ 3
  -- c is resolved once, and each level goes by it: Auto resolved anew would give 512, and no fine level
  resolved_once : points_in (levels_from auto_line (line (from 0 4)) 2 1 3 0 (from 0 4)) ≡ from 0 4 ∷ (0 ∷ 1 ∷ []) ∷ []
  -- -0 is its own root, not +0; +infinity is its own, no refusal
  root_of_minus_zero : root_answer (of_bits binary64 0x8000000000000000) ≡ reports (of_bits binary64 0x8000000000000000)
  root_of_infinity : root_answer (of_bits binary64 0x7ff0000000000000) ≡ reports (of_bits binary64 0x7ff0000000000000)

-- the definitions yield every row
pub lookalikes : Lookalikes
unfolding opened
lookalikes =
    record {
      breadth_first = refl;
      breadth_first_ties = refl;
      cut_axes = refl;
      cut_boxes = refl;
      first_longest = refl;
      box_inherited = refl;
      zero_rows = refl;
      zero_boxes = refl;
      sampled_by_root = refl;
      seeded_by_root = refl;
      seed_inside = refl;
      seed_by_row_order = refl;
      nearest_by_square = refl;
      lower_row = refl;
      duplicates_count = refl;
      one_each = refl;
      one_each_not = refl;
      remaining_shared = refl;
      lower_leaf = refl;
      held_to_total = refl;
      held_reported = refl;
      size_not_nearest = refl;
      auto_held = refl;
      reductions_reach = refl;
      resolved_once = refl;
      root_of_minus_zero = refl;
      root_of_infinity = refl;
    }
