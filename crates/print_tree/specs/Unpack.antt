-- The texts of a tree's parts, from packed lists. Definitions only.
use Rattle.std.specs.Prelude.{ℕ, Bool, false, cond, List, [], ◌++◌, Float, Result, Ok, Err}
use Rattle.packed.specs.Reading.{Packed, Stands, read_leaf, read_leaves, read_levels}
use Rattle.packed.specs.View.{packed_of}
use Rattle.refusal.specs.declared.Refusal.{Refusal}
use Rattle.refusal.specs.Refusals.{as_refusal}
use Rattle.tree_lists.specs.declared.TreeRead.{TreeRead}
use Rattle.tree_answer.specs.declared.DDMTree.{DDMTree}
use Rattle.tree_answer.specs.Answers.{packed_leaves}
use Rattle.formats.specs.Printout.{ascii, floats_text, level_line, domain_line, fine_lines, tree_text, refusal_text}

-- the text of a box; a dash for the coarse domain's
unfoldable pub box_part : Bool → List Float → List ℕ
box_part fine box = cond fine (floats_text box) (ascii " -")

-- the line of the level number t, whose rows these are
abbrev pub points_line : ℕ → List ℕ → List ℕ
points_line t rows = level_line t (record { points = rows; leaves = [] })

-- a domain's line, from the domain row number j
unfoldable pub leaf_line : Bool → ℕ → Packed → ℕ → List ℕ
leaf_line fine i p j = domain_line i (read_leaf p j) (box_part fine (read_leaf p j).box)

-- a fine level's text, and the coarse one's, from the domain row number j on
unfoldable pub fine_level_text : ℕ → List ℕ → Packed → ℕ → ℕ → List ℕ
fine_level_text t rows p j m = points_line t rows ++ fine_lines 0 (read_leaves p j m)

unfoldable pub coarse_level_text : ℕ → List ℕ → Packed → ℕ → List ℕ
coarse_level_text t rows p j = points_line t rows ++ leaf_line false 0 p j

-- ---- the answer of a call that makes a tree, and the lists on d axes that hold it

-- an accepted call's tree stands there
abbrev pub AnswerStands : Result DDMTree Refusal → TreeRead → ℕ → Type 0
AnswerStands (Ok t) lists d = Stands (packed_of (packed_leaves lists d)) lists.level_points.now t.rows t.domains t.levels
AnswerStands (Err r) lists d = Unit {0}

-- the tree's text, or the refusal's
abbrev pub answer_text : Result DDMTree Refusal → TreeRead → ℕ → List ℕ
answer_text (Ok t) lists d =
    tree_text (read_levels (packed_of (packed_leaves lists d)) lists.level_points.now t.rows t.domains t.levels)
answer_text (Err r) lists d = refusal_text (as_refusal r)
