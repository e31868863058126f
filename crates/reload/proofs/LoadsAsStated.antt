-- A load into the lists of the largest job is judged as one into lists of the stated lengths. Assumes nothing.
use mathlib.Core.Path.{◌≡◌}
use mathlib.Core.Bool.{false}
use Prim.Native.Nat.{ℕ}
use mathlib.Core.List.{List}
use lib.ListN.{length-replicate}
use lib.Ieee.{Float}
use Rattle.definition.specs.Number.{plus_zero}
use Rattle.definition.specs.Tree.{Settings, point_count}
use Rattle.definition.specs.Packed.{TreeSizes, tree_stated}
use Rattle.definition.specs.Outcome.{lent_tree}
use Rattle.stored.specs.Outcome.{lists_short_lem, own_tests, load_verdict}
use Rattle.stored.specs.Programs.{blank_lists}
use Rattle.stored_built.proofs.Written.{lent-long}
use Rattle.stream_laws.specs.Sizes.{JobLimits}
use Rattle.job_room.specs.Room.{lent_lists}
use Rattle.job_room.proofs.Lists.{tree-as-stated, largest-tree-enough, lent-largest-tree}

module _ (s : Settings) (cs : List Float) where
  abbrev stated : TreeSizes
  stated = tree_stated s.dimension (point_count s.dimension cs) s.neighbours

  -- lists of the stated lengths
  blank-sizes : lent_tree (blank_lists s cs) ≡ stated
  unfolding blank_lists tree_stated
  blank-sizes =
      rw (
        length-replicate {A = ℕ} stated.level_points 0,
        length-replicate {A = ℕ} stated.domains 0,
        length-replicate stated.boxes plus_zero,
        length-replicate {A = ℕ} stated.borrowed 0,
      )

  blank-long : lists_short_lem (blank_lists s cs) stated ≡ false
  blank-long = lent-long (blank_lists s cs) stated (rw blank-sizes (tree-as-stated stated))

  largest-long : JobLimits s cs → lists_short_lem lent_lists stated ≡ false
  largest-long limits = lent-long lent_lists stated (rw lent-largest-tree (largest-tree-enough s cs limits))

  -- THE LAW
  pub load-as-stated : JobLimits s cs → (bs : List ℕ) → load_verdict s cs bs lent_lists ≡ load_verdict s cs bs (blank_lists s cs)
  unfolding load_verdict own_tests
  load-as-stated limits bs = rw (largest-long limits, blank-long)
