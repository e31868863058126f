-- The file of document 01's four points, byte for byte, and what the definitions make of it, of damaged copies, and of trees at the
-- limits. Each row is computed. Assumes nothing.
-- Holds: four_file, everything, Files, files
use Prim.Native.Nat.{ℕ}
use mathlib.Core.Bool.{Bool, true, false}
use mathlib.Core.Path.{◌≡◌, refl}
use mathlib.Core.List.{List, [], ◌∷◌, ◌++◌, map}
use lib.ListN.{set, get_or, take, length, replicate}
use lib.Ieee.{Float, nan, binary64, of_bits}
use Rattle.lists.specs.Lists.{joined, part, put}
use Rattle.definition.specs.Number.{plus_zero, plus_infinity}
use Rattle.definition.specs.Levels.{Policy, auto, fixed}
use Rattle.definition.specs.Tree.{Settings, Leaf, Level, levels}
use Rattle.definition.specs.Packed.{Counts}
use Rattle.definition.specs.Outcome.{Answer, TreeLists, zero_counts, build_lists}
use Rattle.definition.proofs.WorkedSamples.{opened, line, on_line, nines, float_room, whole_room, record_room}
use Rattle.packed.specs.Reading.{read_leaf, read_leaves, read_level, read_levels}
use Rattle.formats.specs.Bytes.{little, bytes_of, numbers_at, numbers_bytes, float_bytes, floats_at, floats_bytes}
use Rattle.formats.specs.Stream.{settings_in, settings_bytes, policy_fits_lem, read_points, held, job_in}
use Rattle.formats.specs.Printout.{ascii, decimal_onto, decimal, hex_onto, rows_text, floats_text, domain_line, fine_lines, coarse_lines, level_line, levels_text, tree_text, refusal_text, built_text, job_text, printout}
use Rattle.stored.specs.File.{head_bytes_lem, point_bytes, front_bytes_lem, level_bytes, domain_bytes, tree_records, file_bytes}
use Rattle.stored.specs.Sound.{same, ascending, partitioned, sound_leaf, sound_box, no_box, sound_rows, never_falls, deep_enough, sound_depths, proper_part, sound_levels, first_all, fits, sound}
use Rattle.stored.specs.Stored.{leaf_in, leaf_size, leaves_at_lem, after_leaves, level_in, after_level, levels_at, points_in, tree_in, taken, buildable, well_formed}
use Rattle.stored.specs.Programs.{file, nothing, kept_by, kept_job, kept, blank_lists, reloaded_by, reloaded_for, reloaded}
use Rattle.stored.specs.Outcome.{lists_short_lem, own_tests, load_verdict, load_answer, load_lists_lem, tree_held, packs, write_verdict, write_answer, write_output}

-- head; four points; level 0 and its four domains, each with its box, its cover and its depth; level 1 and the coarse domain, with its
-- cover and its depth
unfoldable pub four_file : List ℕ
four_file =
    (0x54 ∷ 0x48 ∷ 1 ∷ 2 ∷ 0 ∷ 0 ∷ 0 ∷ 1 ∷ 0 ∷ 0 ∷ 0 ∷ 2 ∷ 0 ∷ 0 ∷ 0 ∷ 1 ∷ 2 ∷ 0 ∷ 0 ∷ 0 ∷ 4 ∷ 0 ∷ 0 ∷ 0 ∷ [])
    ++ (0x54 ∷ 0x50 ∷ 0 ∷ 0 ∷ 0 ∷ 0 ∷ 0 ∷ 0 ∷ 0 ∷ 0 ∷ 0x54 ∷ 0x50 ∷ 0 ∷ 0 ∷ 0 ∷ 0 ∷ 0 ∷ 0 ∷ 0xf0 ∷ 0x3f ∷ 0x54 ∷ 0x50 ∷ 0 ∷ 0 ∷ 0 ∷ 0 ∷ 0 ∷ 0 ∷ 8 ∷ 0x40 ∷ 0x54 ∷ 0x50 ∷ 0 ∷ 0 ∷ 0 ∷ 0 ∷ 0 ∷ 0 ∷ 0x1c ∷ 0x40 ∷ [])
    ++ (0x54 ∷ 0x4c ∷ 4 ∷ 0 ∷ 0 ∷ 0 ∷ 4 ∷ 0 ∷ 0 ∷ 0 ∷ 0 ∷ 0 ∷ 0 ∷ 0 ∷ 1 ∷ 0 ∷ 0 ∷ 0 ∷ 2 ∷ 0 ∷ 0 ∷ 0 ∷ 3 ∷ 0 ∷ 0 ∷ 0 ∷ [])
    ++ (0x54 ∷ 0x44 ∷ 1 ∷ 0 ∷ 0 ∷ 0 ∷ 1 ∷ 0 ∷ 0 ∷ 0 ∷ 0 ∷ 0 ∷ 0 ∷ 0 ∷ 1 ∷ 0 ∷ 0 ∷ 0 ∷ 0 ∷ 0 ∷ 0 ∷ 0 ∷ 0 ∷ 0 ∷ 0 ∷ 0 ∷ 0 ∷ 0 ∷ 0 ∷ 0 ∷ 0 ∷ 0 ∷ 0xf0 ∷ 0x3f ∷ 0 ∷ 0 ∷ 0 ∷ 0 ∷ 0 ∷ 0 ∷ 0 ∷ 0 ∷ 2 ∷ 0 ∷ 0 ∷ 0 ∷ [])
    ++ (0x54 ∷ 0x44 ∷ 1 ∷ 0 ∷ 0 ∷ 0 ∷ 2 ∷ 0 ∷ 0 ∷ 0 ∷ 1 ∷ 0 ∷ 0 ∷ 0 ∷ 0 ∷ 0 ∷ 0 ∷ 0 ∷ 2 ∷ 0 ∷ 0 ∷ 0 ∷ 0 ∷ 0 ∷ 0 ∷ 0 ∷ 0 ∷ 0 ∷ 0xf0 ∷ 0x3f ∷ 0 ∷ 0 ∷ 0 ∷ 0 ∷ 0 ∷ 0 ∷ 8 ∷ 0x40 ∷ 0 ∷ 0 ∷ 0 ∷ 0 ∷ 0 ∷ 0 ∷ 0 ∷ 0 ∷ 2 ∷ 0 ∷ 0 ∷ 0 ∷ [])
    ++ (0x54 ∷ 0x44 ∷ 1 ∷ 0 ∷ 0 ∷ 0 ∷ 2 ∷ 0 ∷ 0 ∷ 0 ∷ 2 ∷ 0 ∷ 0 ∷ 0 ∷ 1 ∷ 0 ∷ 0 ∷ 0 ∷ 3 ∷ 0 ∷ 0 ∷ 0 ∷ 0 ∷ 0 ∷ 0 ∷ 0 ∷ 0 ∷ 0 ∷ 8 ∷ 0x40 ∷ 0 ∷ 0 ∷ 0 ∷ 0 ∷ 0 ∷ 0 ∷ 0x1c ∷ 0x40 ∷ 0 ∷ 0 ∷ 0 ∷ 0 ∷ 0 ∷ 0 ∷ 0xf0 ∷ 0x7f ∷ 2 ∷ 0 ∷ 0 ∷ 0 ∷ [])
    ++ (0x54 ∷ 0x44 ∷ 1 ∷ 0 ∷ 0 ∷ 0 ∷ 1 ∷ 0 ∷ 0 ∷ 0 ∷ 3 ∷ 0 ∷ 0 ∷ 0 ∷ 2 ∷ 0 ∷ 0 ∷ 0 ∷ 0 ∷ 0 ∷ 0 ∷ 0 ∷ 0 ∷ 0 ∷ 0x1c ∷ 0x40 ∷ 0 ∷ 0 ∷ 0 ∷ 0 ∷ 0 ∷ 0 ∷ 0x1c ∷ 0x40 ∷ 0 ∷ 0 ∷ 0 ∷ 0 ∷ 0 ∷ 0 ∷ 0xf0 ∷ 0x7f ∷ 2 ∷ 0 ∷ 0 ∷ 0 ∷ [])
    ++ (0x54 ∷ 0x4c ∷ 2 ∷ 0 ∷ 0 ∷ 0 ∷ 1 ∷ 0 ∷ 0 ∷ 0 ∷ 0 ∷ 0 ∷ 0 ∷ 0 ∷ 1 ∷ 0 ∷ 0 ∷ 0 ∷ [])
    ++ (0x54 ∷ 0x44 ∷ 2 ∷ 0 ∷ 0 ∷ 0 ∷ 0 ∷ 0 ∷ 0 ∷ 0 ∷ 0 ∷ 0 ∷ 0 ∷ 0 ∷ 1 ∷ 0 ∷ 0 ∷ 0 ∷ 0 ∷ 0 ∷ 0 ∷ 0 ∷ 0 ∷ 0 ∷ 0 ∷ 0 ∷ 0 ∷ 0 ∷ 0 ∷ 0 ∷ [])

-- the file of the form before, without depths
unfoldable old_file : List ℕ
old_file = part four_file 0 132 ++ part four_file 136 46 ++ part four_file 186 46 ++ part four_file 236 42 ++ part four_file 282 44

-- and of the form before that one, without covers too
unfoldable older_file : List ℕ
older_file = part four_file 0 124 ++ part four_file 136 38 ++ part four_file 186 38 ++ part four_file 236 34 ++ part four_file 282 36

-- the settings and points, the tree, its counts and its lists, with tails of nines
abbrev place : List Float
place = line (0 ∷ 1 ∷ 3 ∷ 7 ∷ [])

abbrev four : List Level
four = levels (on_line 2 2) place

abbrev four_counts : Counts
four_counts = record { levels = 2; rows = 4 ∷ 2 ∷ 0 ∷ 0 ∷ []; domains = 4 ∷ 1 ∷ 0 ∷ 0 ∷ [] }

abbrev four_lists : TreeLists
four_lists = build_lists (on_line 2 2) place (nines 4) (float_room 4) (whole_room 4) (record_room 4)

abbrev one : Float
one = of_bits binary64 0x3ff0000000000000

abbrev minus_zero : Float
minus_zero = of_bits binary64 0x8000000000000000

-- answers
abbrev reports : {A : Type 0} → A → Answer A
reports x = record { number = 0; place = 0; value = x }

abbrev refuses : {A : Type 0} → ℕ → A → Answer A
refuses k zeros = record { number = k; place = 0; value = zeros }

-- the job stream of these settings and points
unfoldable stream : ℕ → List ℕ
stream threshold =
    0x53 ∷ 0x54 ∷ settings_bytes (on_line 2 threshold) ++ joined (map (λ x. 0x50 ∷ 0x54 ∷ floats_bytes (x ∷ [])) place)

-- ---- loading

-- the file with one byte changed
abbrev with : ℕ → ℕ → List ℕ
with at b = set four_file at b

-- the file with the float at this place changed
abbrev with_float : ℕ → Float → List ℕ
with_float at x = put four_file at (float_bytes x)

abbrev load : List ℕ → Answer Counts
load bs = load_answer (on_line 2 2) place bs (nines 4)

-- Auto, which resolves to 512 here, and the Fixed 512
abbrev on_auto : Policy → Settings
on_auto p = record { dimension = 1; leaf = 2; neighbours = 1; factor = 2; policy = p }

-- ---- writing

-- what a call with these counts and lists answers, and the lists with one number changed
abbrev write : Counts → TreeLists → ℕ → Answer ℕ
write c l room = write_answer (on_line 2 2) place c l (replicate room 9)

abbrev with_domain : ℕ → ℕ → TreeLists
with_domain at x =
    record {
      level_points = four_lists.level_points;
      internals = four_lists.internals;
      domains = set four_lists.domains at x;
      boxes = four_lists.boxes;
      borrowed = four_lists.borrowed;
    }

abbrev with_boxes : List Float → TreeLists
with_boxes boxes =
    record {
      level_points = four_lists.level_points;
      internals = four_lists.internals;
      domains = four_lists.domains;
      boxes = boxes;
      borrowed = four_lists.borrowed;
    }

abbrev with_box_float : ℕ → Float → TreeLists
with_box_float at x = with_boxes (set four_lists.boxes at x)

-- the box list one float short of 75, which is 3 for each of 25 domains
abbrev short_boxes : TreeLists
short_boxes = with_boxes (line (replicate 74 9))

abbrev counts : ℕ → List ℕ → List ℕ → Counts
counts n rows domains = record { levels = n; rows = rows; domains = domains }

-- ---- the limits: two points, leaves over both rows, and a coarse level of one row

-- a leaf at this depth, with the box 0, 1 and the cover 3
abbrev leaf : ℕ → List ℕ → List ℕ → Leaf
leaf e own borrowed =
    record { own = own; borrowed = borrowed; box = line (0 ∷ 1 ∷ []); cover = of_bits binary64 0x4008000000000000; depth = e }

unfoldable over : List Leaf → List Level
over leaves =
    record { points = 0 ∷ 1 ∷ []; leaves = leaves }
    ∷ record { points = 0 ∷ []; leaves = record { own = 0 ∷ []; borrowed = []; box = line (0 ∷ 0 ∷ []); cover = plus_zero; depth = 0 } ∷ [] }
    ∷ []

-- two leaves of one row each, then leaves without rows
unfoldable pair : List Leaf → List Level
pair more = over (leaf 1 (0 ∷ []) [] ∷ leaf 1 (1 ∷ []) [] ∷ more)

-- so many leaves that hold and borrow nothing, and that borrow both rows
abbrev empty : ℕ → List Leaf
empty m = replicate m (leaf 2 [] [])

abbrev borrowing : ℕ → List Leaf
borrowing m = replicate m (leaf 2 [] (0 ∷ 1 ∷ []))

abbrev on_pair : ℕ → Settings
on_pair neighbours = record { dimension = 1; leaf = 1; neighbours = neighbours; factor = 2; policy = fixed 1 }

-- their file's verdict alone, by the file's own settings and points
abbrev passes : ℕ → List Leaf → Bool
passes neighbours more = well_formed (file_bytes (on_pair neighbours) (line (0 ∷ 1 ∷ [])) (pair more))

-- the tests of a tree with these leaves
abbrev stands : List Level → Bool
stands ls = sound (on_pair 1) 2 ls

-- To unfold this is to unfold every definition that its line names.
unfoldable pub everything : ℕ
unfolding opened little bytes_of numbers_at numbers_bytes floats_at floats_bytes settings_in settings_bytes read_leaf read_leaves read_level read_levels head_bytes_lem point_bytes front_bytes_lem level_bytes domain_bytes tree_records file_bytes same ascending partitioned sound_leaf sound_box no_box sound_rows never_falls deep_enough sound_depths proper_part sound_levels first_all fits sound leaf_in leaf_size leaves_at_lem after_leaves level_in after_level levels_at points_in tree_in taken buildable well_formed lists_short_lem own_tests load_verdict load_answer load_lists_lem tree_held packs write_verdict write_answer write_output four_file over pair policy_fits_lem read_points held job_in ascii decimal_onto decimal hex_onto rows_text floats_text domain_line fine_lines coarse_lines level_line levels_text tree_text refusal_text built_text job_text printout kept_by kept_job kept blank_lists reloaded_by reloaded_for reloaded stream old_file older_file
everything = 0

pub record Files : Type 0 where
  -- a domain record: internal rows, then borrowed rows; lower bounds, then upper ones, then the cover, then the depth; the coarse domain has no
  -- bounds
  internal-first : domain_bytes [] (leaf 5 (1 ∷ []) (0 ∷ 2 ∷ [])) ≡ 0x54 ∷ 0x44 ∷ numbers_bytes (1 ∷ 2 ∷ 1 ∷ 0 ∷ 2 ∷ 0 ∷ 0x40080000 ∷ 5 ∷ [])
  lower-first :
      domain_bytes (line (0 ∷ 1 ∷ [])) (leaf 5 (1 ∷ []) []) ≡ 0x54 ∷ 0x44 ∷ numbers_bytes (1 ∷ 0 ∷ 1 ∷ 0 ∷ 0 ∷ 0 ∷ 0x3ff00000 ∷ 0 ∷ 0x40080000 ∷ 5 ∷ [])
  coarse-bare : get_or (tree_records four) 6 [] ≡ 0x54 ∷ 0x44 ∷ numbers_bytes (2 ∷ 0 ∷ 0 ∷ 1 ∷ 0 ∷ 0 ∷ 0 ∷ [])
  -- the writer's bytes, 330 of them, and the tree read back
  whole-file : file_bytes (on_line 2 2) place four ≡ four_file
  bytes : length four_file ≡ 330
  tree : tree_in four_file ≡ four
  -- loaded: the counts and lists of the build
  loaded : load four_file ≡ reports four_counts
  lists : load_lists_lem (on_line 2 2) place four_file (nines 4) ≡ four_lists
  -- nothing at all, one byte less, one byte more, and the forms before, without depths, and without covers too
  no_bytes : load [] ≡ refuses 20 zero_counts
  cut : load (take 329 four_file) ≡ refuses 20 zero_counts
  longer : load (four_file ++ 0 ∷ []) ≡ refuses 20 zero_counts
  old-bytes : length old_file ≡ 310
  old-form : load old_file ≡ refuses 20 zero_counts
  older-bytes : length older_file ≡ 270
  older-form : load older_file ≡ refuses 20 zero_counts
  -- a mark, a policy, a leaf threshold that the build refuses
  mark : load (with 91 0x45) ≡ refuses 20 zero_counts
  policy : load (with 15 2) ≡ refuses 20 zero_counts
  threshold-zero : load (with 3 0) ≡ refuses 20 zero_counts
  -- a NaN bound; a NaN cover of a fine and of the coarse domain
  bound : load (with_float 116 nan) ≡ refuses 20 zero_counts
  cover : load (with_float 124 nan) ≡ refuses 20 zero_counts
  coarse-cover : load (with_float 318 nan) ≡ refuses 20 zero_counts
  -- an own row borrowed; a row in two leaves; a next level with a row twice
  own-borrowed : load (with 104 0) ≡ refuses 20 zero_counts
  two-leaves : load (with 146 0) ≡ refuses 20 zero_counts
  next-twice : load (with 296 0) ≡ refuses 20 zero_counts
  -- a bound turned or infinite, another cover, of the coarse domain too, and another foreign row, are not noticed
  infinite : load (with_float 116 plus_infinity) ≡ reports four_counts
  other-cover : load (with_float 124 minus_zero) ≡ reports four_counts
  coarse-cover-one : load (with_float 318 one) ≡ reports four_counts
  other_row : load (with 104 3) ≡ reports four_counts
  -- a leaf with 1 of 4 rows is too small for depth 1, and at 3 it may be; depths that fall; the coarse domain at 1 (its 2 rows are half of them
  -- and one more)
  shallow : load (with 132 1) ≡ refuses 20 zero_counts
  deeper : load (with 278 3) ≡ reports four_counts
  falling : load (with 132 3) ≡ refuses 20 zero_counts
  coarse-depth : load (with 326 1) ≡ refuses 20 zero_counts
  -- a box list that is one float short
  short-boxes : load_answer (on_line 2 2) place four_file short_boxes ≡ refuses 11 zero_counts
  -- other settings, other points, and -0 for +0; of two refusals the one that comes first
  settings : load_answer (on_line 2 3) place four_file (nines 4) ≡ refuses 18 zero_counts
  points : load_answer (on_line 2 2) (line (0 ∷ 1 ∷ 3 ∷ 8 ∷ [])) four_file (nines 4) ≡ refuses 19 zero_counts
  sign : load_answer (on_line 2 2) (set place 0 minus_zero) four_file (nines 4) ≡ refuses 19 zero_counts
  settings-first : load_answer (on_line 2 3) (line (0 ∷ 1 ∷ 3 ∷ 8 ∷ [])) four_file (nines 4) ≡ refuses 18 zero_counts
  file-first : load_answer (on_line 2 3) place (with 91 0x45) (nines 4) ≡ refuses 20 zero_counts
  own_first : load_answer (on_line 0 3) place (with 91 0x45) (nines 4) ≡ refuses 2 zero_counts
  -- Auto is not the number that it resolves to
  as-given : load_answer (on_auto auto) place (file_bytes (on_auto (fixed 512)) place (levels (on_auto (fixed 512)) place)) (nines 4) ≡ refuses 18 zero_counts
  -- written: as many bytes, the bytes, and what stood behind them
  written : write four_counts four_lists 331 ≡ reports 330
  output : write_output (on_line 2 2) place four_counts four_lists (replicate 331 9) ≡ four_file ++ 9 ∷ []
  no_room : write four_counts four_lists 329 ≡ refuses 11 0
  -- no level, five, a count past the last level, a count that no list holds
  no-level : write (counts 0 (0 ∷ 0 ∷ 0 ∷ 0 ∷ []) (0 ∷ 0 ∷ 0 ∷ 0 ∷ [])) four_lists 330 ≡ refuses 20 0
  past-last : write (counts 2 (4 ∷ 2 ∷ 0 ∷ 0 ∷ []) (4 ∷ 1 ∷ 0 ∷ 1 ∷ [])) four_lists 330 ≡ refuses 20 0
  rows-past : write (counts 2 (4 ∷ 2 ∷ 1 ∷ 0 ∷ []) (4 ∷ 1 ∷ 0 ∷ 0 ∷ [])) four_lists 330 ≡ refuses 20 0
  -- a last level with several domains, although each has +0 for a box
  several-last : write (counts 1 (4 ∷ 0 ∷ 0 ∷ 0 ∷ []) (4 ∷ 0 ∷ 0 ∷ 0 ∷ [])) (with_boxes (line (replicate 75 0))) 330 ≡ refuses 20 0
  -- a stretch that starts elsewhere, and one that ends past its list
  elsewhere : write four_counts (with_domain 5 2) 330 ≡ refuses 20 0
  past-list : write four_counts (with_domain 21 64) 330 ≡ refuses 20 0
  -- a coarse box of -0; before that the room for the file does not count
  minus-zero : write four_counts (with_box_float 13 minus_zero) 0 ≡ refuses 20 0
  -- a NaN cover of a fine and of the coarse domain; a coarse cover of 1 is written; a box list that is one float short
  write-cover : write four_counts (with_box_float 2 nan) 330 ≡ refuses 20 0
  write-coarse-cover : write four_counts (with_box_float 14 nan) 330 ≡ refuses 20 0
  write-coarse-one : write four_counts (with_box_float 14 one) 330 ≡ reports 330
  one_written : write_output (on_line 2 2) place four_counts (with_box_float 14 one) (replicate 330 9) ≡ with_float 318 one
  write-short-boxes : write four_counts short_boxes 330 ≡ refuses 11 0
  -- a leaf that is too small for its depth, and the coarse domain at 1
  write-shallow : write four_counts (with_domain 4 1) 330 ≡ refuses 20 0
  write-coarse-depth : write four_counts (with_domain 24 1) 330 ≡ refuses 20 0
  -- the programs: a job's file, and its printout again; a refusal of the stream, of the build, and of the file
  keeps : kept (stream 2) ≡ file four_file
  keeps-nothing : kept [] ≡ nothing (record { number = 16; place = 0 })
  build-refuses : kept (stream 0) ≡ nothing (record { number = 4; place = 0 })
  reloads : reloaded (stream 2) four_file ≡ printout (stream 2)
  reloads-nothing : reloaded (stream 3) four_file ≡ ascii "refused 18 at 0\n"
  stream-first : reloaded [] [] ≡ ascii "refused 16 at 0\n"
  -- 13 domains in all pass, and 14 don't; without neighbours 12 borrowed rows pass, and 13 don't
  domains-most : passes 1 (empty 10) ≡ true
  domains-more : passes 1 (empty 11) ≡ false
  borrowed-most : passes 0 (borrowing 6 ++ empty 4) ≡ true
  borrowed-more : passes 0 (borrowing 6 ++ leaf 2 [] (0 ∷ []) ∷ empty 3) ≡ false
  -- a leaf at 21 passes, and at 22 it doesn't; both of 2 rows at 0 and at 1, and not at 2; 1 row at 1, and not at 0
  deepest : stands (pair (leaf 21 [] [] ∷ [])) ≡ true
  too-deep : stands (pair (leaf 22 [] [] ∷ [])) ≡ false
  all-at-root : stands (over (leaf 0 (0 ∷ 1 ∷ []) [] ∷ leaf 2 [] [] ∷ [])) ≡ true
  one_more : stands (over (leaf 1 (0 ∷ 1 ∷ []) [] ∷ leaf 2 [] [] ∷ [])) ≡ true
  two-more : stands (over (leaf 2 (0 ∷ 1 ∷ []) [] ∷ leaf 2 [] [] ∷ [])) ≡ false
  one_less : stands (over (leaf 0 (0 ∷ []) [] ∷ leaf 1 (1 ∷ []) [] ∷ [])) ≡ false

pub files : Files
unfolding everything
files =
    record {
      internal-first = refl;
      lower-first = refl;
      coarse-bare = refl;
      whole-file = refl;
      bytes = refl;
      tree = refl;
      loaded = refl;
      lists = refl;
      no_bytes = refl;
      cut = refl;
      longer = refl;
      old-bytes = refl;
      old-form = refl;
      older-bytes = refl;
      older-form = refl;
      mark = refl;
      policy = refl;
      threshold-zero = refl;
      bound = refl;
      cover = refl;
      coarse-cover = refl;
      own-borrowed = refl;
      two-leaves = refl;
      next-twice = refl;
      infinite = refl;
      other-cover = refl;
      coarse-cover-one = refl;
      other_row = refl;
      shallow = refl;
      deeper = refl;
      falling = refl;
      coarse-depth = refl;
      short-boxes = refl;
      settings = refl;
      points = refl;
      sign = refl;
      settings-first = refl;
      file-first = refl;
      own_first = refl;
      as-given = refl;
      written = refl;
      output = refl;
      no_room = refl;
      no-level = refl;
      past-last = refl;
      rows-past = refl;
      several-last = refl;
      elsewhere = refl;
      past-list = refl;
      minus-zero = refl;
      write-cover = refl;
      write-coarse-cover = refl;
      write-coarse-one = refl;
      one_written = refl;
      write-short-boxes = refl;
      write-shallow = refl;
      write-coarse-depth = refl;
      keeps = refl;
      keeps-nothing = refl;
      build-refuses = refl;
      reloads = refl;
      reloads-nothing = refl;
      stream-first = refl;
      domains-most = refl;
      domains-more = refl;
      borrowed-most = refl;
      borrowed-more = refl;
      deepest = refl;
      too-deep = refl;
      all-at-root = refl;
      one_more = refl;
      two-more = refl;
      one_less = refl;
    }
