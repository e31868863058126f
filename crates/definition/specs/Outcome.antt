-- The complete outcome of each public call: result, place, counts and values, and the final content of each lent list, for
-- refused calls too. Definitions only.
use Rattle.std.specs.Prelude.{ℕ, ◌≡◌, List, [], ◌++◌, length, drop, replicate, Float}
use Rattle.lists.specs.Lists.{from, part}
use Rattle.definition.specs.Number.{plus_zero, square_root_lem}
use Rattle.definition.specs.Levels.{level_size_lem}
use Rattle.definition.specs.Quotas.{held_seats, quotas}
use Rattle.definition.specs.Sampling.{sample, cover_of}
use Rattle.definition.specs.Tree.{Settings, Level, levels, point_count}
use Rattle.definition.specs.Record.{packed_cuts, packed_planes}
use Rattle.definition.specs.Packed.{DomainRow, TreeSizes, BuildSizes, build_stated, Counts, counts_of, most_levels, packed_level_points, packed_internals, packed_domains, packed_boxes, packed_borrowed}
use Rattle.definition.specs.Refusals.{Verdict, accepted, refused, build_verdict, sizes_verdict, sample_verdict, size_verdict, quota_verdict, stretch_verdict, root_verdict}

-- ---- what a call answers, and what becomes of a lent list

-- the refusal's number (0 for none), its place, and the counts or the value that the call reports
pub record Answer (A : Type 0) : Type 0 where
  pub number : ℕ
  pub place : ℕ
  pub value : A

-- the refusal's number (0 for none), and its place
unfoldable pub number_of : Verdict → ℕ
number_of accepted = 0
number_of (refused r) = r.number

unfoldable pub place_of : Verdict → ℕ
place_of accepted = 0
place_of (refused r) = r.place

-- what the call reports: x where it is accepted, and zeros where it is refused
unfoldable pub value_of : {A : Type 0} → Verdict → A → A → A
value_of accepted x zeros = x
value_of (refused r) x zeros = zeros

abbrev pub answered : {A : Type 0} → Verdict → A → A → Answer A
answered v x zeros = record { number = number_of v; place = place_of v; value = value_of v x zeros }

-- a lent list after xs was written to its front: what stands past xs stays as found
unfoldable pub written : {A : Type 0} → List A → List A → List A
written xs old = xs ++ drop (length xs) old

-- a lent list after the call, xs being what an accepted call writes: a refusal writes to no list
unfoldable pub list_after : {A : Type 0} → Verdict → List A → List A → List A
list_after accepted xs old = written xs old
list_after (refused r) xs old = old

-- Working room after the call: an accepted call leaves it free but for its length, and a refused one leaves it as it was.
unfoldable pub RoomAfter : {A : Type 0} → Verdict → List A → List A → Type 0
RoomAfter accepted old new = length new ≡ length old
RoomAfter (refused r) old new = new ≡ old

-- ---- the root, and the level size asked alone

unfoldable pub root_answer : Float → Answer Float
root_answer x = answered (root_verdict x) (square_root_lem x) plus_zero

unfoldable pub size_answer : ℕ → ℕ → ℕ → Answer ℕ
size_answer a c r = answered (size_verdict a c r) (level_size_lem a c r) 0

-- ---- quotas

-- what an accepted quota call reports: the entries written, and S held to the total
pub record Shared : Type 0 where
  pub leaves : ℕ
  pub seats : ℕ

-- the tests of a call that is lent this output and this working room
abbrev pub quota_call : List ℕ → List ℕ → List ℕ → Verdict
quota_call sizes out wholes = quota_verdict sizes (record { output = length out; wholes = length wholes })

unfoldable pub quota_answer : List ℕ → ℕ → List ℕ → List ℕ → Answer Shared
quota_answer sizes s out wholes =
    answered (quota_call sizes out wholes) (record { leaves = length sizes; seats = held_seats sizes s }) (record { leaves = 0; seats = 0 })

unfoldable pub quota_output : List ℕ → ℕ → List ℕ → List ℕ → List ℕ
quota_output sizes s out wholes = list_after (quota_call sizes out wholes) (quotas sizes s) out

-- ---- sampling: all rows of the coordinate list

abbrev pub sample_call : ℕ → List Float → ℕ → ℕ → List ℕ → List Float → List ℕ → Verdict
sample_call d cs wanted seed out floats wholes =
    sample_verdict d cs wanted seed (record { output = length out; floats = length floats; wholes = length wholes })

-- what an accepted sampling reports: the rows written, and their cover
pub record Sampled : Type 0 where
  pub rows : ℕ
  pub cover : Float

-- the chosen rows of a coordinate list, in the order in which they are taken, and their cover
abbrev pub sample_of : ℕ → List Float → ℕ → ℕ → List ℕ
sample_of d cs wanted seed = sample d cs (from 0 (point_count d cs)) wanted seed

abbrev pub sample_cover_lem : ℕ → List Float → ℕ → ℕ → Float
sample_cover_lem d cs wanted seed = cover_of d cs (from 0 (point_count d cs)) (sample_of d cs wanted seed)

unfoldable pub sample_answer : ℕ → List Float → ℕ → ℕ → List ℕ → List Float → List ℕ → Answer Sampled
sample_answer d cs wanted seed out floats wholes =
    answered (sample_call d cs wanted seed out floats wholes)
    (record { rows = wanted; cover = sample_cover_lem d cs wanted seed })
    (record { rows = 0; cover = plus_zero })

unfoldable pub sample_output : ℕ → List Float → ℕ → ℕ → List ℕ → List Float → List ℕ → List ℕ
sample_output d cs wanted seed out floats wholes =
    list_after (sample_call d cs wanted seed out floats wholes) (sample_of d cs wanted seed) out

-- ---- the build

-- the lists that a build hands back: level points, internals, domain rows, boxes and borrowed rows
pub record TreeLists : Type 0 where
  pub level_points : List ℕ
  pub internals : List ℕ
  pub domains : List ℕ
  pub boxes : List Float
  pub borrowed : List ℕ

-- and the two lists that take the records of its cuts: whole numbers and planes
pub record RecordLists : Type 0 where
  pub cuts : List ℕ
  pub planes : List Float

-- the lengths of the five lists, and of all that a build is lent
abbrev pub lent_tree : TreeLists → TreeSizes
lent_tree l =
    record {
      level_points = length l.level_points;
      internals = length l.internals;
      domains = length l.domains;
      boxes = length l.boxes;
      borrowed = length l.borrowed;
    }

abbrev pub lent_sizes : TreeLists → List Float → List ℕ → RecordLists → BuildSizes
lent_sizes l floats wholes r =
    record { tree = lent_tree l; floats = length floats; wholes = length wholes; cuts = length r.cuts; planes = length r.planes }

-- Every build has these tests, whichever way it cuts.
abbrev pub build_call : Settings → List Float → TreeLists → List Float → List ℕ → RecordLists → Verdict
build_call s cs old floats wholes records-old = build_verdict s cs (lent_sizes old floats wholes records-old)

-- what a refused build reports
abbrev pub zero_counts : Counts
zero_counts = record { levels = 0; rows = replicate most_levels 0; domains = replicate most_levels 0 }

unfoldable pub build_answer : Settings → List Float → TreeLists → List Float → List ℕ → RecordLists → Answer Counts
build_answer s cs old floats wholes records-old =
    answered (build_call s cs old floats wholes records-old) (counts_of (levels s cs)) zero_counts

-- the five lists after a call with this verdict, `tree` being the tree of an accepted one
unfoldable pub tree_lists_after : Verdict → List Level → TreeLists → TreeLists
tree_lists_after v tree old =
    record {
      level_points = list_after v (packed_level_points tree) old.level_points;
      internals = list_after v (packed_internals tree) old.internals;
      domains = list_after v (packed_domains tree) old.domains;
      boxes = list_after v (packed_boxes tree) old.boxes;
      borrowed = list_after v (packed_borrowed tree) old.borrowed;
    }

unfoldable pub build_lists : Settings → List Float → TreeLists → List Float → List ℕ → RecordLists → TreeLists
build_lists s cs old floats wholes records-old = tree_lists_after (build_call s cs old floats wholes records-old) (levels s cs) old

-- the two lists of the records likewise
unfoldable pub record_lists_after : Verdict → Settings → List Float → List Level → RecordLists → RecordLists
record_lists_after v s cs tree old =
    record {
      cuts = list_after v (packed_cuts s cs tree) old.cuts;
      planes = list_after v (packed_planes s cs tree) old.planes;
    }

unfoldable pub build_records : Settings → List Float → TreeLists → List Float → List ℕ → RecordLists → RecordLists
build_records s cs old floats wholes records-old =
    record_lists_after (build_call s cs old floats wholes records-old) s cs (levels s cs) records-old

-- ---- the lengths that a build is to be lent, asked alone

-- what a refused call reports
abbrev pub zero_sizes : BuildSizes
zero_sizes =
    record {
      tree = record { level_points = 0; internals = 0; domains = 0; boxes = 0; borrowed = 0 };
      floats = 0;
      wholes = 0;
      cuts = 0;
      planes = 0;
    }

unfoldable pub sizes_answer : ℕ → ℕ → ℕ → Answer BuildSizes
sizes_answer d n neighbours = answered (sizes_verdict d n neighbours) (build_stated d n neighbours) zero_sizes

-- ---- a leaf's stretch

-- what is asked for: a leaf's own rows, or its borrowed rows
pub data Which : Type 0 where
  own_rows : Which
  borrowed_rows : Which

abbrev pub start_of : Which → DomainRow → ℕ
start_of own_rows r = r.own_start
start_of borrowed_rows r = r.borrowed_start

abbrev pub count_of : Which → DomainRow → ℕ
count_of own_rows r = r.own_count
count_of borrowed_rows r = r.borrowed_count

-- the internal or the borrowed list
abbrev pub list_of : Which → List ℕ → List ℕ → List ℕ
list_of own_rows internals borrowed = internals
list_of borrowed_rows internals borrowed = borrowed

-- whether the asked stretch ends past its list
unfoldable pub asked_verdict : Which → DomainRow → List ℕ → List ℕ → Verdict
asked_verdict w r internals borrowed = stretch_verdict (start_of w r) (count_of w r) (length (list_of w internals borrowed))

-- the test of the row: 12, or 0
unfoldable pub row_test_lem : Which → DomainRow → List ℕ → List ℕ → ℕ
row_test_lem w r internals borrowed = number_of (asked_verdict w r internals borrowed)

-- the rows asked for: that stretch of the list itself; an empty one where the row is refused
unfoldable pub rows_asked : Which → DomainRow → List ℕ → List ℕ → List ℕ
rows_asked w r internals borrowed =
    value_of (asked_verdict w r internals borrowed) (part (list_of w internals borrowed) (start_of w r) (count_of w r)) []
