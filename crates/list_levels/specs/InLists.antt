-- The tests of a tree that stands in packed lists, one level after the other, by counts alone: no number is added before it is held against
-- what is left of its limit. Inner contracts cite them; `tree-passes` says that they come to `packs` and `sound`. Definitions only.
use Rattle.std.specs.Prelude.{ℕ, zero, suc, ◌-◌, Bool, true, not, ◌&&◌, cond, List, length, get_or, drop, leb, ltb, eqb}
use Rattle.lists.specs.Lists.{part}
use Rattle.definition.specs.Packed.{Counts, most_levels, most_rows, tree_stated}
use Rattle.definition.specs.Outcome.{TreeLists}
use Rattle.packed.specs.Reading.{Packed, packed, up_to, points_at}
use Rattle.stored.specs.Sound.{all_of}
use Rattle.tree_tests.specs.InTurn.{among, in_order_lem, fewer}
use Rattle.list_domains.specs.InLists.{domains_pass, borrowed_end}

-- ---- counts

-- the first level has n rows, and any other at least one and fewer than the level above it
unfoldable pub count_fits_lem : ℕ → ℕ → ℕ → ℕ → Bool
count_fits_lem zero n above rows = eqb rows n
count_fits_lem (suc l) n above rows = fewer above rows

-- one domain in the coarse level, and in no other
abbrev pub one_only : Bool → ℕ → Bool
one_only coarse m = cond coarse (eqb m 1) (not (eqb m 1))

-- each count is 0
abbrev pub all_zero : List ℕ → Bool
all_zero counts = all_of (λ x. eqb x 0) counts

-- no count beyond the last level
abbrev pub none_beyond_lem : ℕ → List ℕ → Bool
none_beyond_lem levels counts = all_zero (drop levels counts)

-- a count for each level that there can be, no more levels, and no count beyond the last one
unfoldable pub four_counts_lem : ℕ → List ℕ → Bool
four_counts_lem levels counts = eqb (length counts) most_levels && leb levels most_levels && none_beyond_lem levels counts

-- one to four levels, with their counts
unfoldable pub counts_stand_lem : Counts → Bool
counts_stand_lem c = ltb 0 c.levels && four_counts_lem c.levels c.rows && four_counts_lem c.levels c.domains

-- ---- a level: its rows stand at a, are so many, and are among those above; its m domain rows begin with the row number j, and its borrowed
-- rows start at b
unfoldable pub held_level_passes : Bool → Packed → List ℕ → ℕ → (ℕ → Bool) → ℕ → ℕ → ℕ → ℕ → ℕ → Bool
held_level_passes coarse p level_points most above j a b rows m =
    let points = part level_points a rows in
    in_order_lem 0 above points && domains_pass coarse p most rows (among points) (among points) j a b rows 0 m

-- ---- k levels from the level number l on; the level above has so many rows
unfoldable pub held_levels_pass : Packed → List ℕ → Counts → ℕ → ℕ → ℕ → ℕ → (ℕ → Bool) → ℕ → ℕ → Bool
held_levels_pass p level_points c n most l many above b zero = true
held_levels_pass p level_points c n most l many above b (suc k) =
    let coarse = eqb k 0 in
    let rows = get_or c.rows l 0 in
    let m = get_or c.domains l 0 in
    let j = up_to c.domains l in
    count_fits_lem l n many rows && one_only coarse m && leb m (most_rows n - j)
    && held_level_passes coarse p level_points most above j (up_to c.rows l) b rows m
    && held_levels_pass p level_points c n most (suc l) rows (among (points_at level_points c.rows l)) (borrowed_end p.domains j b m) k

-- ---- the tree on d axes, over n rows and with this neighbour count
unfoldable pub held_tree_passes : ℕ → ℕ → ℕ → Counts → TreeLists → Bool
held_tree_passes d n neighbours c l =
    counts_stand_lem c
    && held_levels_pass (packed l.internals l.domains l.boxes l.borrowed d) l.level_points c n (tree_stated d n neighbours).borrowed 0 n
    (λ i. ltb i n) 0 c.levels
