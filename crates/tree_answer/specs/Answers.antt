-- The code's answer and counts, and the lists of a tree, as those of the definition. Definitions only.
use Rattle.std.specs.Prelude.{ℕ, List, Float, Result}
use Rattle.definition.specs.Packed.{Counts}
use Rattle.definition.specs.Outcome.{Answer, TreeLists, RecordLists, zero_counts}
use Rattle.tree_lists.specs.declared.TreeRead.{TreeRead}
use Rattle.tree_answer.specs.declared.DDMTree.{DDMTree}
use Rattle.tree_answer.specs.declared.PackedTree.{PackedTree}
use Rattle.packed.specs.declared.Packed.{Packed}
use Rattle.refusal.specs.declared.Refusal.{Refusal}
use Rattle.refusal.specs.Refusals.{answer_of}

-- the counts, as the definition names them
abbrev pub counts_given : DDMTree → Counts
counts_given t = record { levels = t.levels; rows = t.rows; domains = t.domains }

-- the same of a tree that is lent whole
abbrev pub tree_counts : PackedTree → Counts
tree_counts t = record { levels = t.levels; rows = t.rows.now; domains = t.domains.now }

-- the answer: number and place of a refusal, and the counts
abbrev pub tree_answer_lem : Result DDMTree Refusal → Answer Counts
tree_answer_lem = answer_of counts_given zero_counts

-- the lists of a tree
abbrev pub lists_of : List ℕ → List ℕ → List ℕ → List Float → List ℕ → TreeLists
lists_of level_points internals domains boxes borrowed =
    record { level_points = level_points; internals = internals; domains = domains; boxes = boxes; borrowed = borrowed }

-- the two lists of its records
abbrev pub records_of : List ℕ → List Float → RecordLists
records_of cuts planes = record { cuts = cuts; planes = planes }

-- the leaves in the lists of a tree on d axes
abbrev pub packed_leaves : TreeRead → ℕ → Packed
packed_leaves lists d =
    record { internals = lists.internals; domains = lists.domains; boxes = lists.boxes; borrowed = lists.borrowed; dimensions = d }
