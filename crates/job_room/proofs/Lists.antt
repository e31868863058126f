-- Lists of the lengths that the largest job asks for are long enough for every job. Assumes nothing.
-- Holds: tree-as-stated, largest-enough, largest-tree-enough, build-as-stated, lent-largest-tree, lent-largest, lent-sizes
use mathlib.Core.Path.{◌≡◌}
use mathlib.Core.Bool.{false}
use Prim.Native.Nat.{ℕ, ◌+◌, ◌*◌, ◌≤◌}
use native.Mathlib.Nat.{mul-le-mul, le_refl}
use native.Mathlib.Omega.{arith}
use mathlib.Core.List.{List}
use lib.ListN.{length-replicate}
use lib.Ieee.{Float}
use borrow.Author.Tests.{le-ltb}
use Rattle.definition.specs.Number.{plus_zero}
use Rattle.definition.specs.Tree.{Settings, point_count}
use Rattle.definition.specs.Packed.{TreeSizes, BuildSizes, tree_stated, build_stated, most_rows, row_numbers, row_floats_lem}
use Rattle.definition.specs.Record.{most_nodes}
use Rattle.definition.specs.Refusals.{tree_short, build_short, build_verdict}
use Rattle.definition.specs.Outcome.{RecordLists, TreeLists, lent_tree, lent_sizes}
use Rattle.definition_laws.proofs.Accepted.{TreeEnough, LentEnough}
use Rattle.formats.specs.Stream.{stream_points, stream_neighbours}
use Rattle.stream_laws.specs.Sizes.{JobLimits}
use Rattle.stream_laws.proofs.Stream.{job-points}
use Rattle.job_room.specs.Room.{lent_lists, lent_floats, lent_wholes, lent_records}

-- ---- lists that are long enough
tree-none-short : (lent stated : TreeSizes) → TreeEnough lent stated → tree_short lent stated ≡ false
unfolding tree_short
tree-none-short lent stated e =
    rw (
      le-ltb lent.level_points stated.level_points e.level_points,
      le-ltb lent.internals stated.internals e.internals,
      le-ltb lent.domains stated.domains e.domains,
      le-ltb lent.boxes stated.boxes e.boxes,
      le-ltb lent.borrowed stated.borrowed e.borrowed,
    )

none-short : (lent stated : BuildSizes) → LentEnough lent stated → build_short lent stated ≡ false
unfolding build_short
none-short lent stated e =
    rw (
      tree-none-short lent.tree stated.tree e.tree,
      le-ltb lent.floats stated.floats e.floats,
      le-ltb lent.wholes stated.wholes e.wholes,
      le-ltb lent.cuts stated.cuts e.cuts,
      le-ltb lent.planes stated.planes e.planes,
    )

-- the same lists as stated
pub tree-as-stated : (stated : TreeSizes) → TreeEnough stated stated
tree-as-stated stated =
    record {
      level_points = le_refl stated.level_points;
      internals = le_refl stated.internals;
      domains = le_refl stated.domains;
      boxes = le_refl stated.boxes;
      borrowed = le_refl stated.borrowed;
    }

as-stated : (stated : BuildSizes) → LentEnough stated stated
as-stated stated =
    record {
      tree = tree-as-stated stated.tree;
      floats = le_refl stated.floats;
      wholes = le_refl stated.wholes;
      cuts = le_refl stated.cuts;
      planes = le_refl stated.planes;
    }

-- what the largest job asks for
abbrev largest : BuildSizes
largest = build_stated 3 stream_points stream_neighbours

tree-roomy : (d n k : ℕ) → d ≤ 3 → n ≤ stream_points → k ≤ stream_neighbours → TreeEnough (tree_stated 3 stream_points stream_neighbours) (tree_stated d n k)
unfolding tree_stated
tree-roomy d n k hd hn hk =
    let a = mul-le-mul {n₁ = row_floats_lem d} {m₁ = most_rows n} {n₂ = row_floats_lem 3} {m₂ = most_rows stream_points} (omega arith) (omega arith) in
    let b = mul-le-mul {n₁ = 6 * n} {m₁ = k + 1} {n₂ = 6 * stream_points} {m₂ = stream_neighbours + 1} (omega arith) (omega arith) in
    record {
      level_points = omega arith;
      internals = omega arith;
      domains = omega arith;
      boxes = omega arith;
      borrowed = omega arith;
    }

roomy : (d n k : ℕ) → d ≤ 3 → n ≤ stream_points → k ≤ stream_neighbours → LentEnough largest (build_stated d n k)
unfolding build_stated
roomy d n k hd hn hk =
    let c = mul-le-mul {n₁ = 8 * n} {m₁ = k + 1} {n₂ = 8 * stream_points} {m₂ = stream_neighbours + 1} (omega arith) (omega arith) in
    record {
      tree = tree-roomy d n k hd hn hk;
      floats = omega arith;
      wholes = omega arith;
      cuts = omega arith;
      planes = omega arith;
    }

-- THE LAW: no job asks for more
pub largest-enough : (s : Settings) (cs : List Float) → JobLimits s cs
    → LentEnough (build_stated 3 stream_points stream_neighbours) (build_stated s.dimension (point_count s.dimension cs) s.neighbours)
largest-enough s cs limits = roomy s.dimension (point_count s.dimension cs) s.neighbours limits.axes_few (job-points s cs limits) limits.neighbours_few

pub largest-tree-enough : (s : Settings) (cs : List Float) → JobLimits s cs
    → TreeEnough (tree_stated 3 stream_points stream_neighbours) (tree_stated s.dimension (point_count s.dimension cs) s.neighbours)
largest-tree-enough s cs limits = tree-roomy s.dimension (point_count s.dimension cs) s.neighbours limits.axes_few (job-points s cs limits) limits.neighbours_few

-- so a build in such lists is judged as in lists of the stated lengths
pub build-as-stated : (s : Settings) (cs : List Float) → JobLimits s cs
    → build_verdict s cs (build_stated 3 stream_points stream_neighbours) ≡ build_verdict s cs (build_stated s.dimension (point_count s.dimension cs) s.neighbours)
unfolding build_verdict
build-as-stated s cs limits =
    let stated = build_stated s.dimension (point_count s.dimension cs) s.neighbours in
    rw (none-short largest stated (largest-enough s cs limits), none-short stated stated (as-stated stated))

-- ---- the lists and the working room of that length, as they are lent
pub lent-largest-tree : lent_tree lent_lists ≡ tree_stated 3 stream_points stream_neighbours
unfolding tree_stated
lent-largest-tree =
    rw (
      length-replicate {A = ℕ} (4 * stream_points) 0,
      length-replicate {A = ℕ} (row_numbers * most_rows stream_points) 0,
      length-replicate (row_floats_lem 3 * most_rows stream_points) plus_zero,
      length-replicate {A = ℕ} (6 * stream_points * (stream_neighbours + 1)) 0,
    )

pub lent-largest : lent_sizes lent_lists lent_floats lent_wholes lent_records ≡ build_stated 3 stream_points stream_neighbours
unfolding build_stated
lent-largest =
    rw (
      lent-largest-tree,
      length-replicate (32 * stream_points) plus_zero,
      length-replicate {A = ℕ} (40 * stream_points + 8 * stream_points * (stream_neighbours + 1)) 0,
      length-replicate {A = ℕ} (most_nodes stream_points) 0,
      length-replicate (most_nodes stream_points) plus_zero,
    )

-- and so are lists and room that hold the same
pub lent-sizes : (lists : TreeLists) (floats : List Float) (wholes : List ℕ) (records : RecordLists) → lists ≡ lent_lists → floats ≡ lent_floats → wholes ≡ lent_wholes
    → records.cuts ≡ lent_records.cuts → records.planes ≡ lent_records.planes
    → lent_sizes lists floats wholes records ≡ build_stated 3 stream_points stream_neighbours
lent-sizes lists floats wholes records e f g h k = rw (e, f, g, h, k) lent-largest
