-- The table of cut records (document 02, request 2), of a build, which writes them, and of its refusals; and the lemma that the definitions
-- yield every row of it. Each row is computed. Assumes nothing.
use Prim.Native.Nat.{ℕ}
use mathlib.Core.Path.{◌≡◌, refl}
use mathlib.Core.List.{List, [], ◌∷◌, ◌++◌, map}
use lib.ListN.{take, replicate}
use lib.Ieee.{Float, nan, binary64, of_bits}
use Rattle.lists.specs.Lists.{from}
use Rattle.definition.specs.Number.{plus_zero}
use Rattle.definition.specs.Outcome.{RecordLists, zero_counts, build_answer, build_lists, build_records}
use Rattle.definition.specs.Record.{cuts_of, level_cuts, leaves_under, leaf_number, leaf_node, whole_of, float_of, nodes_from, record_of, fine_levels, nodes_in, packed_cuts, packed_planes}
use Rattle.definition.proofs.WorkedSamples.{opened, line, on_line, nines, float_room, whole_room, record_nines, record_room}

-- everything that a row computes by
unfoldable records_opened : ℕ
unfolding opened cuts_of level_cuts leaves_under leaf_number nodes_from record_of fine_levels nodes_in packed_cuts packed_planes
records_opened = 0

-- the records after a call over points on a line, in lists that held nines and are as long as stated for n points
abbrev records_of : ℕ → ℕ → ℕ → List Float → RecordLists
records_of leaf c n cs = build_records (on_line leaf c) cs (nines n) (float_room n) (whole_room n) (record_room n)

-- the wholes and the planes of one level's record
abbrev wholes_over : ℕ → List Float → ℕ → List ℕ
wholes_over leaf cs n = map whole_of (record_of 1 cs leaf (from 0 n))

abbrev planes_over : ℕ → List Float → ℕ → List Float
planes_over leaf cs n = map float_of (record_of 1 cs leaf (from 0 n))

abbrev minus_zero : Float
minus_zero = of_bits binary64 0x8000000000000000

-- a call over these points on a line, with leaf threshold 2 and coarse threshold 2, in lists as long as stated for four points but for
-- the record's, is refused: zero counts, and each list as found
abbrev Refuses : List Float → ℕ → ℕ → ℕ → ℕ → Type 0
Refuses cs cuts planes number place =
    (build_answer (on_line 2 2) cs (nines 4) (float_room 4) (whole_room 4) (record_nines cuts planes) ≡ record { number = number; place = place; value = zero_counts })
    × (build_lists (on_line 2 2) cs (nines 4) (float_room 4) (whole_room 4) (record_nines cuts planes) ≡ nines 4)
    × (build_records (on_line 2 2) cs (nines 4) (float_room 4) (whole_room 4) (record_nines cuts planes) ≡ record_nines cuts planes)

abbrev four : List Float
four = line (0 ∷ 1 ∷ 3 ∷ 7 ∷ [])

pub record Records : Type 0 where
  -- a leaf stands as 3 plus its number
  leaf-from-3 : whole_of (leaf_node 0) ≡ 3
  -- the root's cut comes first
  root-first : take 1 (wholes_over 2 four 4) ≡ 0 ∷ []
  -- document 01's example: seven nodes, and what stands past them stays
  example-cuts : (records_of 2 2 4 four).cuts ≡ (0 ∷ 0 ∷ 3 ∷ 4 ∷ 0 ∷ 5 ∷ 6 ∷ []) ++ replicate 41 9
  example-planes : (records_of 2 2 4 four).planes ≡ line (3 ∷ 1 ∷ []) ++ (plus_zero ∷ plus_zero ∷ []) ++ line (7 ∷ []) ++ (plus_zero ∷ plus_zero ∷ []) ++ line (replicate 41 9)
  -- a leaf's number is not its place from the left: 6 rows, leaf 1, are cut into 3 and 3, and each 3 into 1 and 2
  numbers :
      wholes_over 1 (line (from 0 6)) 6
      ≡ 0 ∷ 0 ∷ 0 ∷ 3 ∷ 4 ∷ 0 ∷ 0 ∷ 7 ∷ 8 ∷ 0 ∷ 9 ∷ 10 ∷ 0 ∷ 0 ∷ 5 ∷ 6 ∷ 0 ∷ 0 ∷ 11 ∷ 12 ∷ 0 ∷ 13 ∷ 14 ∷ []
  -- a plane keeps its sign: the points -0 and +0 are equal, so row 0 goes left; each half is cut at its only row
  signs :
      planes_over 1 (minus_zero ∷ plus_zero ∷ []) 2
      ≡ plus_zero ∷ minus_zero ∷ plus_zero ∷ plus_zero ∷ plus_zero ∷ plus_zero ∷ plus_zero ∷ []
  -- two fine levels: their records stand one after the other
  two-cuts :
      (records_of 1 1 3 (line (from 0 3))).cuts
      ≡ (0 ∷ 0 ∷ 3 ∷ 4 ∷ 0 ∷ 0 ∷ 5 ∷ 6 ∷ 0 ∷ 7 ∷ 8 ∷ []) ++ (0 ∷ 0 ∷ 3 ∷ 4 ∷ 0 ∷ 5 ∷ 6 ∷ []) ++ replicate 18 9
  two-planes :
      (records_of 1 1 3 (line (from 0 3))).planes
      ≡ line (1 ∷ 0 ∷ 0 ∷ 0 ∷ 2 ∷ 1 ∷ 0 ∷ 0 ∷ 2 ∷ 0 ∷ 0 ∷ []) ++ line (1 ∷ 0 ∷ 0 ∷ 0 ∷ 1 ∷ 0 ∷ 0 ∷ []) ++ line (replicate 18 9)
  -- no fine level, no record
  none : records_of 2 4 4 four ≡ record_room 4
  -- 11 where either list is one entry short, before 10 and after 9
  short-cuts : Refuses (line (0 ∷ 1 ∷ 3 ∷ []) ++ nan ∷ []) 47 48 11 0
  short-planes : Refuses (line (0 ∷ 1 ∷ 3 ∷ []) ++ nan ∷ []) 48 47 11 0
  not_finite : Refuses (line (0 ∷ 1 ∷ 3 ∷ []) ++ nan ∷ []) 48 48 10 3
  too_many : Refuses (line (from 0 17)) 0 0 9 0

-- the definitions yield every row
pub records : Records
unfolding records_opened
records =
    record {
      leaf-from-3 = refl;
      root-first = refl;
      example-cuts = refl;
      example-planes = refl;
      numbers = refl;
      signs = refl;
      two-cuts = refl;
      two-planes = refl;
      none = refl;
      short-cuts = (refl, refl, refl);
      short-planes = (refl, refl, refl);
      not_finite = (refl, refl, refl);
      too_many = (refl, refl, refl);
    }
