-- Refused calls, each through its complete outcome: number, place, zeros, and each list as found. For each number there are calls
-- that just meet its condition, and calls that just do not and are refused by a later test or accepted. Where a call meets several
-- conditions, document 01's order says which one counts. Each row is computed. Assumes nothing.
use Prim.Native.Nat.{ℕ}
use mathlib.Core.Path.{◌≡◌, refl}
use mathlib.Core.List.{List, [], ◌∷◌, ◌++◌}
use lib.ListN.{length, replicate}
use lib.Ieee.{Float, nan, inf, binary64, of_bits}
use mathlib.Core.Bool.{true, false}
use Rattle.lists.specs.Lists.{from}
use Rattle.definition.specs.Number.{plus_zero}
use Rattle.definition.specs.Levels.{Policy, auto, fixed, threshold}
use Rattle.definition.specs.Packed.{DomainRow, BuildSizes, tree_stated, build_stated}
use Rattle.definition.specs.Tree.{Settings}
use Rattle.definition.specs.Refusals.{verdict, tree_short, build_short, build_tests, build_verdict, sample_verdict}
use Rattle.definition.specs.Outcome.{Answer, TreeLists, RecordLists, number_of, place_of, value_of, list_after, tree_lists_after, zero_counts, root_answer, size_answer, quota_answer, quota_output, sample_answer, sample_output, build_answer, build_lists, record_lists_after, build_records, sizes_answer, row_test_lem, rows_asked, own_rows, borrowed_rows}
use Rattle.definition.proofs.WorkedSamples.{opened, line, record_nines}
use Rattle.definition.proofs.WorkedExamples.{reports}

-- ---- outcomes

-- a refused call
abbrev refuses_at : {A : Type 0} → ℕ → ℕ → A → Answer A
refuses_at number place zeros = record { number = number; place = place; value = zeros }

-- a build in these lists is refused: zero counts, and each list as found
abbrev BuildRefused : Settings → List Float → TreeLists → List Float → List ℕ → RecordLists → ℕ → ℕ → Type 0
BuildRefused s cs old floats wholes records-old number place =
    (build_answer s cs old floats wholes records-old ≡ refuses_at number place zero_counts)
    × (build_lists s cs old floats wholes records-old ≡ old)
    × (build_records s cs old floats wholes records-old ≡ records-old)

-- the same of sampling, and of quotas
abbrev SampleRefused : ℕ → List Float → ℕ → ℕ → List ℕ → List Float → List ℕ → ℕ → ℕ → Type 0
SampleRefused d cs wanted seed out floats wholes number place =
    (sample_answer d cs wanted seed out floats wholes ≡ refuses_at number place (record { rows = 0; cover = plus_zero })) × (sample_output d cs wanted seed out floats wholes ≡ out)

abbrev QuotaRefused : List ℕ → ℕ → List ℕ → List ℕ → ℕ → Type 0
QuotaRefused sizes s out wholes number =
    (quota_answer sizes s out wholes ≡ refuses_at number 0 (record { leaves = 0; seats = 0 })) × (quota_output sizes s out wholes ≡ out)

-- ---- calls

abbrev settings : ℕ → ℕ → ℕ → ℕ → Policy → Settings
settings d leaf neighbours factor policy = record { dimension = d; leaf = leaf; neighbours = neighbours; factor = factor; policy = policy }

-- lists of these lengths, each entry 9
abbrev lent : ℕ → ℕ → ℕ → ℕ → ℕ → TreeLists
lent level_points internals domains boxes borrowed =
    record {
      level_points = replicate level_points 9;
      internals = replicate internals 9;
      domains = replicate domains 9;
      boxes = line (replicate boxes 9);
      borrowed = replicate borrowed 9;
    }

-- a build in lists of one entry, without working room, and without lists for the records
abbrev ShortBuild : Settings → List Float → ℕ → Type 0
ShortBuild s cs number = BuildRefused s cs (lent 1 1 1 1 1) [] [] (record_nines 0 0) number 0

-- Builds over two points of the plane with two neighbours. Stated are 8 level points, 8 internals, 65 numbers of domain rows, 65
-- floats of domain rows, 36 borrowed rows, 64 floats and 128 whole numbers of room, and 24 entries of either list of the records.
abbrev two : Settings
two = settings 2 1 2 2 (fixed 1)

abbrev two_points : List Float
two_points = line (0 ∷ 0 ∷ 3 ∷ 4 ∷ [])

-- the last coordinate is not a number
abbrev two_spoiled : List Float
two_spoiled = line (0 ∷ 0 ∷ 3 ∷ []) ++ nan ∷ []

abbrev Short : TreeLists → ℕ → ℕ → ℕ → ℕ → Type 0
Short lists floats wholes cuts planes =
    BuildRefused two two_spoiled lists (line (replicate floats 9)) (replicate wholes 9) (record_nines cuts planes) 11 0

abbrev Spoiled : List Float → ℕ → Type 0
Spoiled cs place = BuildRefused two cs (lent 8 8 65 65 36) (line (replicate 64 9)) (replicate 128 9) (record_nines 24 24) 10 place

-- the lengths of the nine lists of a build
abbrev lengths : ℕ → ℕ → ℕ → ℕ → ℕ → ℕ → ℕ → ℕ → ℕ → BuildSizes
lengths level_points internals domains boxes borrowed floats wholes cuts planes =
    record {
      tree =
          record {
            level_points = level_points;
            internals = internals;
            domains = domains;
            boxes = boxes;
            borrowed = borrowed;
          };
      floats = floats;
      wholes = wholes;
      cuts = cuts;
      planes = planes;
    }

-- the lengths asked alone, for n points on d axes, are refused: zeros
abbrev LengthsRefused : ℕ → ℕ → ℕ → ℕ → Type 0
LengthsRefused d n neighbours number = sizes_answer d n neighbours ≡ refuses_at number 0 (lengths 0 0 0 0 0 0 0 0 0)

-- sampling into an output of one entry, without working room
abbrev ShortSample : ℕ → List Float → ℕ → ℕ → ℕ → Type 0
ShortSample d cs wanted seed number = SampleRefused d cs wanted seed (9 ∷ []) [] [] number 0

-- two of the two points, from row 1 on. Stated are 2 entries of output, 4 floats and 2 whole numbers.
abbrev TwoSampled : List Float → ℕ → ℕ → ℕ → ℕ → ℕ → Type 0
TwoSampled cs out floats wholes number place =
    SampleRefused 2 cs 2 1 (replicate out 9) (line (replicate floats 9)) (replicate wholes 9) number place

-- a domain row: own rows 1 to 3 of the internals, borrowed rows 2 and 3 of the borrowed ones, and a depth that no leaf has
abbrev asked : DomainRow
asked = record { own_start = 1; own_count = 3; borrowed_start = 2; borrowed_count = 2; depth = 22 }

pub record RefusedCalls : Type 0 where
  -- the build: 1 to 9, 11, 10
  dimension0 : ShortBuild (settings 0 0 65 1 (fixed 0)) [] 1
  dimension4 : ShortBuild (settings 4 0 65 1 (fixed 0)) [] 1
  leaf0 : ShortBuild (settings 3 0 65 1 (fixed 0)) [] 2
  factor0 : ShortBuild (settings 1 1 65 0 (fixed 0)) [] 3
  factor1 : ShortBuild (settings 1 1 65 1 (fixed 0)) [] 3
  threshold0 : ShortBuild (settings 1 1 65 2 (fixed 0)) [] 4
  neighbours65 : ShortBuild (settings 1 1 65 2 (fixed 1)) [] 5
  neighbours65-auto : ShortBuild (settings 1 1 65 2 auto) [] 5
  points0 : ShortBuild (settings 1 1 64 2 (fixed 1)) [] 6
  -- a point that lacks a coordinate is a point, and so is one after 9 whole ones
  missing : ShortBuild (settings 2 1 64 2 (fixed 1)) (line (0 ∷ [])) 7
  missing9 : ShortBuild (settings 2 1 64 2 (fixed 1)) (line (from 0 19)) 7
  missing-many : (cs : List Float) → length cs ≡ 2097155 → ShortBuild (settings 2 1 64 2 (fixed 1)) cs 7
  -- 8 counts points, not coordinates
  points1048577 : (cs : List Float) → length cs ≡ 2097154 → ShortBuild (settings 2 1 64 2 (fixed 1)) cs 8
  points1048576 : (cs : List Float) → length cs ≡ 2097152 → ShortBuild (settings 2 1 64 2 (fixed 1)) cs 9
  -- c * f^3 is 8, and 16
  reach9 : ShortBuild (settings 1 1 64 2 (fixed 1)) (line (from 0 8) ++ nan ∷ []) 9
  reach8 : ShortBuild (settings 1 1 64 2 (fixed 1)) (line (from 0 7) ++ nan ∷ []) 11
  reach16 : ShortBuild (settings 1 1 64 2 (fixed 2)) (line (from 0 15) ++ nan ∷ []) 11
  -- by Auto it is 512 * 8
  reach4097 : (cs : List Float) → length cs ≡ 4097 → ShortBuild (settings 1 1 64 2 auto) cs 9
  reach4096 : (cs : List Float) → length cs ≡ 4096 → ShortBuild (settings 1 1 64 2 auto) cs 11
  -- each list just too short, and a coordinate that is not a number
  short-level-points : Short (lent 7 8 65 65 36) 64 128 24 24
  short-internals : Short (lent 8 7 65 65 36) 64 128 24 24
  short-domains : Short (lent 8 8 64 65 36) 64 128 24 24
  short-boxes : Short (lent 8 8 65 64 36) 64 128 24 24
  short-borrowed : Short (lent 8 8 65 65 35) 64 128 24 24
  short-floats : Short (lent 8 8 65 65 36) 63 128 24 24
  short-wholes : Short (lent 8 8 65 65 36) 64 127 24 24
  short-cuts : Short (lent 8 8 65 65 36) 64 128 23 24
  short-planes : Short (lent 8 8 65 65 36) 64 128 24 23
  -- the room of builds before request 9
  short-old-wholes : Short (lent 8 8 65 65 36) 64 112 24 24
  -- the place is the first bad coordinate's position, not its row
  spoiled-last : Spoiled two_spoiled 3
  spoiled-first : Spoiled (line (0 ∷ []) ++ inf false ∷ nan ∷ inf true ∷ []) 1
  spoiled-minus : Spoiled (inf true ∷ line (0 ∷ 0 ∷ 0 ∷ [])) 0
  -- nothing is short and nothing spoiled
  lent_as_stated :
      build_answer two two_points (lent 8 8 65 65 36) (line (replicate 64 9)) (replicate 128 9) (record_nines 24 24)
      ≡ reports (record { levels = 2; rows = 2 ∷ 1 ∷ 0 ∷ 0 ∷ []; domains = 4 ∷ 1 ∷ 0 ∷ 0 ∷ [] })
  -- the lengths asked alone: 1, 5, 6, 8
  lengths-dimension0 : LengthsRefused 0 0 65 1
  lengths-dimension4 : LengthsRefused 4 1048577 65 1
  lengths-dimension-points0 : LengthsRefused 4 0 64 1
  lengths-dimension-points1048577 : LengthsRefused 0 1048577 64 1
  lengths-neighbours65 : LengthsRefused 1 0 65 5
  lengths-neighbours65-points1048577 : LengthsRefused 3 1048577 65 5
  lengths-points0 : LengthsRefused 3 0 64 6
  lengths-points1048577 : LengthsRefused 1 1048577 64 8
  lengths-points1 : sizes_answer 1 1 0 ≡ reports (lengths 4 4 35 21 6 32 48 12 12)
  lengths-points2 : sizes_answer 2 2 2 ≡ reports (lengths 8 8 65 65 36 64 128 24 24)
  lengths-points1048576 : sizes_answer 3 1048576 64 ≡ reports (lengths 4194304 4194304 31457285 44040199 408944640 33554432 587202560 12582912 12582912)
  -- sampling: 1, 6, 7, 8, 13, 11, 10
  sample-dimension0 : ShortSample 0 [] 0 0 1
  sample-dimension4 : ShortSample 4 [] 0 0 1
  sample-points0 : ShortSample 3 [] 0 0 6
  sample-missing : ShortSample 2 (line (0 ∷ [])) 0 0 7
  sample-missing-many : (cs : List Float) → length cs ≡ 2097155 → ShortSample 2 cs 0 0 7
  sample-points1048577 : (cs : List Float) → length cs ≡ 2097154 → ShortSample 2 cs 0 0 8
  sample-points1048576 : (cs : List Float) → length cs ≡ 2097152 → ShortSample 2 cs 0 0 13
  sample-wanted0 : ShortSample 2 two_spoiled 0 1 13
  sample-wanted3 : ShortSample 2 two_spoiled 3 1 13
  sample-seed2 : ShortSample 2 two_spoiled 2 2 13
  sample-output : TwoSampled two_spoiled 1 4 2 11 0
  sample-floats : TwoSampled two_spoiled 2 3 2 11 0
  sample-wholes : TwoSampled two_spoiled 2 4 1 11 0
  sample-spoiled : TwoSampled two_spoiled 2 4 2 10 3
  sample-stated : sample_answer 2 two_points 2 1 (9 ∷ 9 ∷ []) (line (replicate 4 9)) (replicate 2 9) ≡ reports (record { rows = 2; cover = plus_zero })
  -- level size: 4, 8, 14, 9
  size-threshold0 : size_answer 1048577 0 0 ≡ refuses_at 4 0 0
  size-rows0 : size_answer 0 0 1 ≡ refuses_at 4 0 0
  size-points1048577 : size_answer 1048577 1048577 0 ≡ refuses_at 8 0 0
  size-points1048576 : size_answer 1048576 1048576 0 ≡ refuses_at 14 0 0
  size-left0 : size_answer 1048576 1048575 0 ≡ refuses_at 9 0 0
  size-left4 : size_answer 8 1 4 ≡ refuses_at 9 0 0
  size-left3 : size_answer 8 1 3 ≡ reports 4
  size-left1 : size_answer 1048576 1 1 ≡ reports 1
  -- quotas: 8, 11
  quota-points1048577 : QuotaRefused (1048576 ∷ 1 ∷ []) 1 (9 ∷ []) [] 8
  quota-points1048576 : QuotaRefused (1048575 ∷ 1 ∷ []) 1 (9 ∷ []) [] 11
  quota-output : QuotaRefused (2 ∷ 2 ∷ []) 3 (9 ∷ []) (9 ∷ 9 ∷ []) 11
  quota-wholes : QuotaRefused (2 ∷ 2 ∷ []) 3 (9 ∷ 9 ∷ []) (9 ∷ []) 11
  quota-stated : quota_answer (2 ∷ 2 ∷ []) 3 (9 ∷ 9 ∷ []) (9 ∷ 9 ∷ []) ≡ reports (record { leaves = 2; seats = 3 })
  -- a stretch that ends with its list, and one that ends past it: 12
  own-test : row_test_lem own_rows asked (from 10 4) [] ≡ 0
  own-rows : rows_asked own_rows asked (from 10 4) [] ≡ 11 ∷ 12 ∷ 13 ∷ []
  own-test12 : row_test_lem own_rows asked (from 10 3) (from 20 9) ≡ 12
  own-rows12 : rows_asked own_rows asked (from 10 3) (from 20 9) ≡ []
  borrowed-test : row_test_lem borrowed_rows asked [] (from 20 4) ≡ 0
  borrowed-rows : rows_asked borrowed_rows asked [] (from 20 4) ≡ 22 ∷ 23 ∷ []
  borrowed-test12 : row_test_lem borrowed_rows asked (from 10 9) (from 20 3) ≡ 12
  borrowed-rows12 : rows_asked borrowed_rows asked (from 10 9) (from 20 3) ≡ []
  -- the root: the value next to -0 is negative, -0 is not (`root_of_minus_zero` of the lookalikes)
  root-negative : root_answer (of_bits binary64 0x8000000000000001) ≡ refuses_at 15 0 plus_zero
  root-infinite : root_answer (inf true) ≡ refuses_at 15 0 plus_zero
  root-nan : root_answer nan ≡ refuses_at 15 0 plus_zero

-- ---- the rows over so many points that the list is not written out
opened-build : ℕ
unfolding build_answer build_lists tree_lists_after build_records record_lists_after list_after number_of place_of value_of build_verdict build_tests verdict threshold tree_short build_short tree_stated build_stated
opened-build = 0

missing-above : (cs : List Float) → length cs ≡ 2097155 → ShortBuild (settings 2 1 64 2 (fixed 1)) cs 7
unfolding opened-build
missing-above cs e = (rw e, rw e, rw e)

above_most : (cs : List Float) → length cs ≡ 2097154 → ShortBuild (settings 2 1 64 2 (fixed 1)) cs 8
unfolding opened-build
above_most cs e = (rw e, rw e, rw e)

at_most : (cs : List Float) → length cs ≡ 2097152 → ShortBuild (settings 2 1 64 2 (fixed 1)) cs 9
unfolding opened-build
at_most cs e = (rw e, rw e, rw e)

above-reach : (cs : List Float) → length cs ≡ 4097 → ShortBuild (settings 1 1 64 2 auto) cs 9
unfolding opened-build
above-reach cs e = (rw e, rw e, rw e)

at-reach : (cs : List Float) → length cs ≡ 4096 → ShortBuild (settings 1 1 64 2 auto) cs 11
unfolding opened-build
at-reach cs e = (rw e, rw e, rw e)

sample-missing-above : (cs : List Float) → length cs ≡ 2097155 → ShortSample 2 cs 0 0 7
unfolding sample_answer sample_output list_after number_of place_of value_of sample_verdict verdict
sample-missing-above cs e = (rw e, rw e)

sample-above-most : (cs : List Float) → length cs ≡ 2097154 → ShortSample 2 cs 0 0 8
unfolding sample_answer sample_output list_after number_of place_of value_of sample_verdict verdict
sample-above-most cs e = (rw e, rw e)

sample-at-most : (cs : List Float) → length cs ≡ 2097152 → ShortSample 2 cs 0 0 13
unfolding sample_answer sample_output list_after number_of place_of value_of sample_verdict verdict
sample-at-most cs e = (rw e, rw e)

-- the definitions yield every row
pub refused-calls : RefusedCalls
unfolding opened
refused-calls =
    record {
      dimension0 = (refl, refl, refl);
      dimension4 = (refl, refl, refl);
      leaf0 = (refl, refl, refl);
      factor0 = (refl, refl, refl);
      factor1 = (refl, refl, refl);
      threshold0 = (refl, refl, refl);
      neighbours65 = (refl, refl, refl);
      neighbours65-auto = (refl, refl, refl);
      points0 = (refl, refl, refl);
      missing = (refl, refl, refl);
      missing9 = (refl, refl, refl);
      missing-many = missing-above;
      points1048577 = above_most;
      points1048576 = at_most;
      reach9 = (refl, refl, refl);
      reach8 = (refl, refl, refl);
      reach16 = (refl, refl, refl);
      reach4097 = above-reach;
      reach4096 = at-reach;
      short-level-points = (refl, refl, refl);
      short-internals = (refl, refl, refl);
      short-domains = (refl, refl, refl);
      short-boxes = (refl, refl, refl);
      short-borrowed = (refl, refl, refl);
      short-floats = (refl, refl, refl);
      short-wholes = (refl, refl, refl);
      short-cuts = (refl, refl, refl);
      short-planes = (refl, refl, refl);
      short-old-wholes = (refl, refl, refl);
      spoiled-last = (refl, refl, refl);
      spoiled-first = (refl, refl, refl);
      spoiled-minus = (refl, refl, refl);
      lent_as_stated = refl;
      lengths-dimension0 = refl;
      lengths-dimension4 = refl;
      lengths-dimension-points0 = refl;
      lengths-dimension-points1048577 = refl;
      lengths-neighbours65 = refl;
      lengths-neighbours65-points1048577 = refl;
      lengths-points0 = refl;
      lengths-points1048577 = refl;
      lengths-points1 = refl;
      lengths-points2 = refl;
      lengths-points1048576 = refl;
      sample-dimension0 = (refl, refl);
      sample-dimension4 = (refl, refl);
      sample-points0 = (refl, refl);
      sample-missing = (refl, refl);
      sample-missing-many = sample-missing-above;
      sample-points1048577 = sample-above-most;
      sample-points1048576 = sample-at-most;
      sample-wanted0 = (refl, refl);
      sample-wanted3 = (refl, refl);
      sample-seed2 = (refl, refl);
      sample-output = (refl, refl);
      sample-floats = (refl, refl);
      sample-wholes = (refl, refl);
      sample-spoiled = (refl, refl);
      sample-stated = refl;
      size-threshold0 = refl;
      size-rows0 = refl;
      size-points1048577 = refl;
      size-points1048576 = refl;
      size-left0 = refl;
      size-left4 = refl;
      size-left3 = refl;
      size-left1 = refl;
      quota-points1048577 = (refl, refl);
      quota-points1048576 = (refl, refl);
      quota-output = (refl, refl);
      quota-wholes = (refl, refl);
      quota-stated = refl;
      own-test = refl;
      own-rows = refl;
      own-test12 = refl;
      own-rows12 = refl;
      borrowed-test = refl;
      borrowed-rows = refl;
      borrowed-test12 = refl;
      borrowed-rows12 = refl;
      root-negative = refl;
      root-infinite = refl;
      root-nan = refl;
    }
