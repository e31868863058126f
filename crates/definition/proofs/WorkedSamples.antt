-- Inputs of the tables of examples, and the one name that opens every definition for computing. Assumes nothing.
-- Holds: line, on_line, nines, float_room, whole_room, record_nines, record_room, opened
use Prim.Native.Nat.{ℕ, ◌*◌}
use mathlib.Core.List.{List, map, zip_with}
use lib.IntN.{pos}
use lib.ListN.{replicate}
use lib.Ieee.{Float, binary64, of_int, of_bits, to_bits, round, size, add, sub, mul, div, lt, eq, is_nan}
use Rattle.lists.specs.Lists.{keep, count, any_of, member, best, least_from, total, from, joined, part, put}
use Rattle.definition.specs.Levels.{fixed}
use Rattle.definition.specs.Tree.{Settings}
use Rattle.definition.specs.Outcome.{TreeLists, RecordLists}
use Rattle.definition.specs.Cut.{root_domain, longest_axis_lem, cut_keys, plane_of, plane, left_of, right_of, queue_leaves, leaves_of}
use Rattle.definition.specs.Keys.{keyed, before, rank, first_rows_lem, other_rows, key_at, nearest_row, farthest_row}
use Rattle.definition.specs.Levels.{threshold, reductions, exact_size_lem, level_size_lem}
use Rattle.definition.specs.Number.{whole_root, halves, root_of_units, square_root_lem}
use Rattle.definition.specs.Outcome.{number_of, place_of, value_of, written, list_after, root_answer, size_answer, quota_answer, quota_output, sample_answer, sample_output, build_answer, tree_lists_after, build_lists, record_lists_after, build_records, sizes_answer, asked_verdict, row_test_lem, rows_asked}
use Rattle.definition.specs.Overlaps.{nearest_others, nearest, paired, borrowed_by}
use Rattle.definition.specs.Packed.{leaves_in_lem, packed_level_points, packed_internals, packed_borrowed, packed_boxes, stretches, packed_domains, per_level, counts_of, tree_stated, build_stated, sample_stated, quota_stated}
use Rattle.definition.specs.Points.{distance_sq_lem, distance, rows_sq, rows_apart, least_of, greatest_of, extents, extent}
use Rattle.definition.specs.Quotas.{leaves_before, seats_of, quotas_for, quotas}
use Rattle.definition.specs.Refusals.{verdict, first_bad, tree_short, build_short, sample_short, quota_short, build_tests, build_verdict, sizes_verdict, sample_verdict, size_verdict, quota_verdict, stretch_verdict, root_verdict}
use Rattle.definition.specs.Sampling.{gap, pick, cover_of, sample_more, sample, sum_from, centroid, from_centroid, seed_of, sent_by, leaf_cover}
use Rattle.definition.specs.Tree.{coarse_level_lem, fine_level_lem, sent_lists, next_active, levels_from, levels_over, levels}

-- whole numbers as points on a line
unfoldable pub line : List ℕ → List Float
line ns = map (λ n. of_int binary64 (pos n)) ns

-- settings for points on a line, with one neighbour and factor 2
unfoldable pub on_line : ℕ → ℕ → Settings
on_line leaf c = record { dimension = 1; leaf = leaf; neighbours = 1; factor = 2; policy = fixed c }

-- lists of the stated lengths for n points on a line with one neighbour, each entry 9
unfoldable pub nines : ℕ → TreeLists
nines n =
    let b = tree_stated 1 n 1 in
    record {
      level_points = replicate b.level_points 9;
      internals = replicate b.internals 9;
      domains = replicate b.domains 9;
      boxes = line (replicate b.boxes 9);
      borrowed = replicate b.borrowed 9;
    }

-- their working room
unfoldable pub float_room : ℕ → List Float
float_room n = line (replicate (build_stated 1 n 1).floats 9)

unfoldable pub whole_room : ℕ → List ℕ
whole_room n = replicate (build_stated 1 n 1).wholes 9

-- the lists of the records, of these lengths, and as long as stated
abbrev pub record_nines : ℕ → ℕ → RecordLists
record_nines cuts planes = record { cuts = replicate cuts 9; planes = line (replicate planes 9) }

abbrev pub record_room : ℕ → RecordLists
record_room n = record_nines (12 * n) (12 * n)

-- To unfold this is to unfold every definition that its line names.
unfoldable pub opened : ℕ
unfolding of_int of_bits to_bits round size add sub mul div lt eq is_nan zip_with keep count any_of member best least_from total from joined part put root_domain longest_axis_lem cut_keys plane_of plane left_of right_of queue_leaves leaves_of keyed before rank first_rows_lem other_rows key_at nearest_row farthest_row threshold reductions exact_size_lem level_size_lem whole_root halves root_of_units square_root_lem number_of place_of value_of written list_after root_answer size_answer quota_answer quota_output sample_answer sample_output build_answer tree_lists_after build_lists record_lists_after build_records sizes_answer asked_verdict row_test_lem rows_asked nearest_others nearest paired borrowed_by leaves_in_lem packed_level_points packed_internals packed_borrowed packed_boxes stretches packed_domains per_level counts_of tree_stated build_stated sample_stated quota_stated distance_sq_lem distance rows_sq rows_apart least_of greatest_of extents extent leaves_before seats_of quotas_for quotas verdict first_bad tree_short build_short sample_short quota_short build_tests build_verdict sizes_verdict sample_verdict size_verdict quota_verdict stretch_verdict root_verdict gap pick sample_more sample cover_of sum_from centroid from_centroid seed_of sent_by leaf_cover coarse_level_lem fine_level_lem sent_lists next_active levels_from levels_over levels line on_line nines float_room whole_room
opened = 0
