-- The code's lengths and answers as those of the definition. Definitions only.
use Rattle.std.specs.Prelude.{ℕ, List, [], ◌∷◌, Result}
use Rattle.definition.specs.Packed.{TreeSizes, BuildSizes}
use Rattle.definition.specs.Outcome.{Answer, zero_sizes}
use Rattle.build_sizes.specs.declared.TreeSizes.{TreeSizes as TreeLengths}
use Rattle.build_sizes.specs.declared.BuildSizes.{BuildSizes as Lengths}
use Rattle.refusal.specs.declared.Refusal.{Refusal}
use Rattle.refusal.specs.Refusals.{answer_of}

-- the lengths, as the definition names them
abbrev pub tree_sizes_of : TreeLengths → TreeSizes
tree_sizes_of l =
    record {
      level_points = l.level_points;
      internals = l.internals;
      domains = l.domains;
      boxes = l.boxes;
      borrowed = l.borrowed;
    }

abbrev pub sizes_of : Lengths → BuildSizes
sizes_of l = record { tree = tree_sizes_of l.tree; floats = l.floats; wholes = l.wholes; cuts = l.cuts; planes = l.planes }

-- the lengths one after the other
abbrev pub tree_lengths_of : TreeSizes → List ℕ
tree_lengths_of t = t.level_points ∷ t.internals ∷ t.domains ∷ t.boxes ∷ t.borrowed ∷ []

abbrev pub lengths_of : BuildSizes → List ℕ
lengths_of b =
    b.tree.level_points ∷ b.tree.internals ∷ b.tree.domains ∷ b.tree.boxes ∷ b.tree.borrowed ∷ b.floats ∷ b.wholes ∷ b.cuts ∷ b.planes ∷ []

-- the answer: the lengths, which are 0 for a refusal
abbrev pub sizes_report : Result Lengths Refusal → Answer BuildSizes
sizes_report = answer_of sizes_of zero_sizes
