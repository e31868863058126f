-- Runs of records in a stored tree. Definitions only.
use Rattle.std.specs.Prelude.{ℕ, Bool, List, ◌++◌, map, Float}
use Rattle.lists.specs.Lists.{joined}
use Rattle.definition.specs.Tree.{Settings, Leaf, Level}
use Rattle.packed.specs.Reading.{Packed, read_levels}
use Rattle.definition.specs.Packed.{Counts}
use Rattle.tree_answer.specs.Answers.{lists_of}
use Rattle.stored.specs.File.{level_bytes, file_bytes}
use Rattle.stored.specs.Outcome.{tree_held}
use Rattle.store_records.specs.Records.{domain_record}

-- the records of domains, one after the other
unfoldable pub domain_records : Bool → List Leaf → List ℕ
domain_records coarse fs = joined (map (domain_record coarse) fs)

abbrev pub level_of : List ℕ → List Leaf → Level
level_of rows fs = record { points = rows; leaves = fs }

-- a level's record, and those of its domains after it
unfoldable pub level_records : Bool → Level → List ℕ
level_records coarse l = level_bytes l ++ domain_records coarse l.leaves

-- the levels that stand in the lists with these counts
abbrev pub levels_in : Counts → List ℕ → Packed → List Level
levels_in counts level_points p = read_levels p level_points counts.rows counts.domains counts.levels

-- the file of the tree that stands there, for these settings and points
abbrev pub file_of : Settings → List Float → Counts → List ℕ → Packed → List ℕ
file_of s cs counts level_points p =
    file_bytes s cs
    (tree_held p.dimension counts (lists_of level_points p.internals p.domains p.boxes p.borrowed))
