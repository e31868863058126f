-- The lists of document 01's example (points 0, 1, 3, 7 on a line; leaf 2, one neighbour, factor 2, Fixed 2), which have demand 3, and
-- the same with one of them changed. Assumes nothing.
-- Holds: all-open, four, set, in_lists, counts, level_points, internals, domains_with, domains, coarse_floats, boxes_with, boxes,
--   borrowed, two, right, right-has-it, right-depths, level-points-but, internals-but, domains-but, boxes-but, borrowed-but
use Prim.Native.Nat.{ℕ}
use mathlib.Core.Path.{◌≡◌, refl, subst}
use mathlib.Core.List.{List, [], ◌∷◌, ◌++◌}
use lib.ListN.{replicate}
use lib.Ieee.{Float}
use Rattle.definition.specs.Number.{plus_zero, plus_infinity}
use Rattle.definition.specs.Packed.{Counts}
use Rattle.definition.specs.Tree.{Settings}
use Rattle.definition.proofs.WorkedSamples.{opened, line, on_line, nines, float_room, whole_room, record_room}
use Rattle.demand3.specs.Handed.{Handed, listed, row_number, domain_row, own_of, borrowed_of, box_of, cover_in, depth_of, own_lists, leaf_sizes, leaf_boxes, leaf_depths_lem}
use Rattle.demand3.specs.Demand3.{share_of, sent_of, sent_up, Demand3, handed_back}
use Rattle.demand3.specs.Depths.{TreeDepths}
use Rattle.demand3.proofs.Demand.{demand-3, tree-depths}

-- To unfold this is to unfold every definition that its line names.
unfoldable pub all-open : ℕ
unfolding opened listed row_number domain_row own_of borrowed_of box_of cover_in depth_of own_lists leaf_sizes leaf_boxes leaf_depths_lem share_of sent_of sent_up
all-open = 0

abbrev pub four : List Float
four = line (0 ∷ 1 ∷ 3 ∷ 7 ∷ [])

abbrev pub set : Settings
set = on_line 2 2

-- lists that held nines, with these at their fronts
abbrev pub in_lists : List ℕ → List ℕ → List ℕ → List Float → List ℕ → Counts → Handed
in_lists level_points internals domains boxes borrowed counts =
    record {
      lists = record {
        level_points = level_points ++ replicate 10 9;
        internals = internals ++ replicate 10 9;
        domains = domains ++ replicate 100 9;
        boxes = boxes ++ line (replicate 60 9);
        borrowed = borrowed ++ replicate 42 9;
      };
      counts = counts;
    }

abbrev pub counts : ℕ → List ℕ → List ℕ → Counts
counts levels rows domains = record { levels = levels; rows = rows; domains = domains }

-- ---- the right lists
abbrev pub level_points : List ℕ
level_points = 0 ∷ 1 ∷ 2 ∷ 3 ∷ 0 ∷ 1 ∷ []

abbrev pub internals : List ℕ
internals = 0 ∷ 1 ∷ 2 ∷ 3 ∷ 0 ∷ 1 ∷ []

-- the domain rows with these depths, those of the four leaves and that of the coarse domain
abbrev pub domains_with : ℕ → ℕ → ℕ → ℕ → ℕ → List ℕ
domains_with a b c d coarse =
    0 ∷ 1 ∷ 0 ∷ 1 ∷ a ∷ 1 ∷ 1 ∷ 1 ∷ 2 ∷ b ∷ 2 ∷ 1 ∷ 3 ∷ 2 ∷ c ∷ 3 ∷ 1 ∷ 5 ∷ 1 ∷ d ∷ 4 ∷ 2 ∷ 6 ∷ 0 ∷ coarse ∷ []

abbrev pub domains : List ℕ
domains = domains_with 2 2 2 2 0

-- the floats of the coarse domain row
abbrev pub coarse_floats : List Float
coarse_floats = line (0 ∷ 0 ∷ 0 ∷ [])

-- those of all domain rows, with these covers for the first two leaves and for the last two, which send no row up
abbrev pub boxes_with : Float → Float → List Float → List Float
boxes_with up none coarse =
    line (0 ∷ 1 ∷ []) ++ up ∷ line (1 ∷ 3 ∷ []) ++ up ∷ line (3 ∷ 7 ∷ []) ++ none ∷ line (7 ∷ 7 ∷ []) ++ none ∷ coarse

abbrev pub boxes : List Float
boxes = boxes_with plus_zero plus_infinity coarse_floats

abbrev pub borrowed : List ℕ
borrowed = 1 ∷ 0 ∷ 2 ∷ 1 ∷ 3 ∷ 2 ∷ []

abbrev pub two : Counts
two = counts 2 (4 ∷ 2 ∷ 0 ∷ 0 ∷ []) (4 ∷ 1 ∷ 0 ∷ 0 ∷ [])

abbrev pub right : Handed
right = in_lists level_points internals domains boxes borrowed two

-- a build hands them back
is_right : handed_back set four (nines 4) (float_room 4) (whole_room 4) (record_room 4) ≡ right
unfolding all-open
is_right = refl

-- the call is accepted, so they have demand 3
pub right-has-it : Demand3 set four right
unfolding all-open
right-has-it = subst (Demand3 set four) is_right (demand-3 set four (nines 4) (float_room 4) (whole_room 4) (record_room 4) refl)

-- and its record of depths
pub right-depths : TreeDepths right
unfolding all-open
right-depths = subst TreeDepths is_right (tree-depths set four (nines 4) (float_room 4) (whole_room 4) (record_room 4) refl)

-- ---- wrong in one thing
abbrev pub level-points-but : List ℕ → Counts → Handed
level-points-but p c = in_lists p internals domains boxes borrowed c

abbrev pub internals-but : List ℕ → Handed
internals-but i = in_lists level_points i domains boxes borrowed two

abbrev pub domains-but : List ℕ → Handed
domains-but d = in_lists level_points internals d boxes borrowed two

abbrev pub boxes-but : List Float → Handed
boxes-but b = in_lists level_points internals domains b borrowed two

abbrev pub borrowed-but : List ℕ → Handed
borrowed-but b = in_lists level_points internals domains boxes b two
