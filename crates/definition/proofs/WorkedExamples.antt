-- The table of the items that document 01 marks (P), and the lemma that the definitions yield every row of it: the rows of
-- public functions through their complete outcomes. Each row is computed. Assumes nothing.
use Prim.Native.Nat.{ℕ}
use mathlib.Core.Path.{◌≡◌, refl}
use mathlib.Core.List.{List, [], ◌∷◌, ◌++◌}
use lib.ListN.{replicate}
use lib.Ieee.{Float, binary64, of_bits}
use Rattle.lists.specs.Lists.{from}
use Rattle.definition.specs.Number.{plus_infinity}
use Rattle.definition.specs.Cut.{plane}
use Rattle.definition.specs.Levels.{auto, threshold}
use Rattle.definition.specs.Packed.{Counts}
use Rattle.definition.specs.Outcome.{Answer, Shared, root_answer, size_answer, quota_answer, quota_output, sample_output, build_answer, TreeLists, build_lists}
use Rattle.definition.proofs.WorkedSamples.{opened, line, on_line, nines, float_room, whole_room, record_room}

-- an accepted call that reports x
abbrev pub reports : {A : Type 0} → A → Answer A
reports x = record { number = 0; place = 0; value = x }

-- an accepted build with these counts per level
abbrev built : ℕ → List ℕ → List ℕ → Answer Counts
built levels rows domains = reports (record { levels = levels; rows = rows; domains = domains })

-- an accepted quota call for four leaves, or two, with this many seats
abbrev shared : ℕ → ℕ → Answer Shared
shared leaves seats = reports (record { leaves = leaves; seats = seats })

-- the cover of a leaf that sends none of its rows up
abbrev none : List Float
none = plus_infinity ∷ []

-- the lists after the build over the points 0, 1, 3, 7
abbrev tree4 : TreeLists
tree4 = build_lists (on_line 2 2) (line (0 ∷ 1 ∷ 3 ∷ 7 ∷ [])) (nines 4) (float_room 4) (whole_room 4) (record_room 4)

pub record Examples : Type 0 where
  -- the plane of the first cut of the points 0, 1, 3, 7 is the coordinate of the first right row
  root-plane : plane 1 (line (0 ∷ 1 ∷ 3 ∷ 7 ∷ [])) (from 0 4) ∷ [] ≡ line (3 ∷ [])
  -- the tree of the points 0, 1, 3, 7 in lists that held nines: packed, and what stands past it stays. A row for each list; the
  -- domain rows come last, since they count the rows of the others
  packed-level-points : tree4.level_points ≡ 0 ∷ 1 ∷ 2 ∷ 3 ∷ 0 ∷ 1 ∷ replicate 10 9
  packed-internals : tree4.internals ≡ 0 ∷ 1 ∷ 2 ∷ 3 ∷ 0 ∷ 1 ∷ replicate 10 9
  packed-boxes :
      tree4.boxes
      ≡ line (0 ∷ 1 ∷ 0 ∷ []) ++ line (1 ∷ 3 ∷ 0 ∷ []) ++ line (3 ∷ 7 ∷ []) ++ none ++ line (7 ∷ 7 ∷ []) ++ none ++ line (0 ∷ 0 ∷ 0 ∷ replicate 60 9)
  packed-borrowed : tree4.borrowed ≡ 1 ∷ 0 ∷ 2 ∷ 1 ∷ 3 ∷ 2 ∷ replicate 42 9
  packed-domains :
      tree4.domains
      ≡ (0 ∷ 1 ∷ 0 ∷ 1 ∷ 2 ∷ []) ++ (1 ∷ 1 ∷ 1 ∷ 2 ∷ 2 ∷ []) ++ (2 ∷ 1 ∷ 3 ∷ 2 ∷ 2 ∷ []) ++ (3 ∷ 1 ∷ 5 ∷ 1 ∷ 2 ∷ []) ++ (4 ∷ 2 ∷ 6 ∷ 0 ∷ 0 ∷ [])
      ++ replicate 100 9
  counted : build_answer (on_line 2 2) (line (0 ∷ 1 ∷ 3 ∷ 7 ∷ [])) (nines 4) (float_room 4) (whole_room 4) (record_room 4) ≡ built 2 (4 ∷ 2 ∷ 0 ∷ 0 ∷ []) (4 ∷ 1 ∷ 0 ∷ 0 ∷ [])
  -- Auto
  auto1 : threshold auto 1 ≡ 512
  auto16384 : threshold auto 16384 ≡ 512
  auto16385 : threshold auto 16385 ≡ 513
  -- c = 1, f = 2; where the leaf threshold is 1, each row's domain is cut once more, and every other leaf is empty
  run8 : build_answer (on_line 4 1) (line (from 0 8)) (nines 8) (float_room 8) (whole_room 8) (record_room 8) ≡ built 4 (8 ∷ 4 ∷ 2 ∷ 1 ∷ []) (4 ∷ 2 ∷ 2 ∷ 1 ∷ [])
  run8-lists :
      build_lists (on_line 4 1) (line (from 0 8)) (nines 8) (float_room 8) (whole_room 8) (record_room 8)
      ≡ record {
        level_points = 0 ∷ 1 ∷ 2 ∷ 3 ∷ 4 ∷ 5 ∷ 6 ∷ 7 ∷ 0 ∷ 2 ∷ 4 ∷ 6 ∷ 0 ∷ 4 ∷ 0 ∷ replicate 17 9;
        internals = 0 ∷ 1 ∷ 2 ∷ 3 ∷ 4 ∷ 5 ∷ 6 ∷ 7 ∷ 0 ∷ 2 ∷ 4 ∷ 6 ∷ 0 ∷ 4 ∷ 0 ∷ replicate 17 9;
        domains =
            (0 ∷ 2 ∷ 0 ∷ 1 ∷ 2 ∷ []) ++ (2 ∷ 2 ∷ 1 ∷ 2 ∷ 2 ∷ []) ++ (4 ∷ 2 ∷ 3 ∷ 2 ∷ 2 ∷ []) ++ (6 ∷ 2 ∷ 5 ∷ 1 ∷ 2 ∷ [])
            ++ (8 ∷ 2 ∷ 6 ∷ 1 ∷ 1 ∷ []) ++ (10 ∷ 2 ∷ 7 ∷ 1 ∷ 1 ∷ [])
            ++ (12 ∷ 1 ∷ 8 ∷ 1 ∷ 1 ∷ []) ++ (13 ∷ 1 ∷ 9 ∷ 1 ∷ 1 ∷ [])
            ++ (14 ∷ 1 ∷ 10 ∷ 0 ∷ 0 ∷ [])
            ++ replicate 200 9;
        boxes =
            line (0 ∷ 2 ∷ 1 ∷ 2 ∷ 4 ∷ 1 ∷ 4 ∷ 6 ∷ 1 ∷ 6 ∷ 7 ∷ 1 ∷ []) ++ line (0 ∷ 4 ∷ 2 ∷ 4 ∷ 6 ∷ 2 ∷ []) ++ line (0 ∷ 4 ∷ 0 ∷ 4 ∷ 4 ∷ []) ++ none
            ++ line (0 ∷ 0 ∷ 0 ∷ replicate 120 9);
        borrowed = 2 ∷ 1 ∷ 4 ∷ 3 ∷ 6 ∷ 5 ∷ 4 ∷ 2 ∷ 4 ∷ 0 ∷ replicate 86 9;
      }
  run3 : build_answer (on_line 1 1) (line (from 0 3)) (nines 3) (float_room 3) (whole_room 3) (record_room 3) ≡ built 3 (3 ∷ 2 ∷ 1 ∷ 0 ∷ []) (6 ∷ 4 ∷ 1 ∷ 0 ∷ [])
  run3-lists :
      build_lists (on_line 1 1) (line (from 0 3)) (nines 3) (float_room 3) (whole_room 3) (record_room 3)
      ≡ record {
        level_points = 0 ∷ 1 ∷ 2 ∷ 0 ∷ 1 ∷ 0 ∷ replicate 6 9;
        internals = 0 ∷ 1 ∷ 2 ∷ 0 ∷ 1 ∷ 0 ∷ replicate 6 9;
        domains =
            (0 ∷ 0 ∷ 0 ∷ 0 ∷ 2 ∷ []) ++ (0 ∷ 1 ∷ 0 ∷ 1 ∷ 2 ∷ []) ++ (1 ∷ 0 ∷ 1 ∷ 0 ∷ 3 ∷ []) ++ (1 ∷ 1 ∷ 1 ∷ 2 ∷ 3 ∷ []) ++ (2 ∷ 0 ∷ 3 ∷ 0 ∷ 3 ∷ []) ++ (2 ∷ 1 ∷ 3 ∷ 1 ∷ 3 ∷ [])
            ++ (3 ∷ 0 ∷ 4 ∷ 0 ∷ 2 ∷ []) ++ (3 ∷ 1 ∷ 4 ∷ 1 ∷ 2 ∷ []) ++ (4 ∷ 0 ∷ 5 ∷ 0 ∷ 2 ∷ []) ++ (4 ∷ 1 ∷ 5 ∷ 1 ∷ 2 ∷ [])
            ++ (5 ∷ 1 ∷ 6 ∷ 0 ∷ 0 ∷ [])
            ++ replicate 40 9;
        boxes =
            line (0 ∷ 0 ∷ 0 ∷ 0 ∷ 1 ∷ 0 ∷ 1 ∷ 1 ∷ 0 ∷ 1 ∷ 2 ∷ 0 ∷ 2 ∷ 2 ∷ 0 ∷ 2 ∷ 2 ∷ []) ++ none
            ++ line (0 ∷ 0 ∷ 0 ∷ 0 ∷ 1 ∷ 0 ∷ 1 ∷ 1 ∷ 0 ∷ 1 ∷ 1 ∷ []) ++ none
            ++ line (0 ∷ 0 ∷ 0 ∷ replicate 24 9);
        borrowed = 1 ∷ 0 ∷ 2 ∷ 1 ∷ 1 ∷ 0 ∷ replicate 30 9;
      }
  -- level size alone
  size3 : size_answer 3 2 2 ≡ reports 2
  size10 : size_answer 10 3 2 ≡ reports 6
  -- quotas, into an output of one entry more
  quota5302 : quota_answer (5 ∷ 3 ∷ 0 ∷ 2 ∷ []) 4 (replicate 5 9) (replicate 4 9) ≡ shared 4 4
  quota5302-output : quota_output (5 ∷ 3 ∷ 0 ∷ 2 ∷ []) 4 (replicate 5 9) (replicate 4 9) ≡ 2 ∷ 1 ∷ 0 ∷ 1 ∷ 9 ∷ []
  quota22 : quota_answer (2 ∷ 2 ∷ []) 3 (replicate 3 9) (replicate 2 9) ≡ shared 2 3
  quota22-output : quota_output (2 ∷ 2 ∷ []) 3 (replicate 3 9) (replicate 2 9) ≡ 2 ∷ 1 ∷ 9 ∷ []
  quota1111 : quota_answer (1 ∷ 1 ∷ 1 ∷ 1 ∷ []) 2 (replicate 5 9) (replicate 4 9) ≡ shared 4 2
  quota1111-output : quota_output (1 ∷ 1 ∷ 1 ∷ 1 ∷ []) 2 (replicate 5 9) (replicate 4 9) ≡ 1 ∷ 1 ∷ 0 ∷ 0 ∷ 9 ∷ []
  -- sampling, into an output of one entry more; what it reports stands in WorkedCovers
  sample0137-output : sample_output 1 (line (0 ∷ 1 ∷ 3 ∷ 7 ∷ [])) 3 1 (replicate 4 9) (line (replicate 8 9)) (replicate 4 9) ≡ 1 ∷ 3 ∷ 2 ∷ 9 ∷ []
  sample555-output : sample_output 1 (line (5 ∷ 5 ∷ 5 ∷ [])) 3 2 (replicate 4 9) (line (replicate 6 9)) (replicate 3 9) ≡ 2 ∷ 0 ∷ 1 ∷ 9 ∷ []
  -- the root of 3ff0000000000001
  root : root_answer (of_bits binary64 0x3ff0000000000001) ≡ reports (of_bits binary64 0x3ff0000000000000)

-- the definitions yield every row
pub examples : Examples
unfolding opened
examples =
    record {
      root-plane = refl;
      packed-level-points = refl;
      packed-internals = refl;
      packed-boxes = refl;
      packed-borrowed = refl;
      packed-domains = refl;
      counted = refl;
      auto1 = refl;
      auto16384 = refl;
      auto16385 = refl;
      run8 = refl;
      run8-lists = refl;
      run3 = refl;
      run3-lists = refl;
      size3 = refl;
      size10 = refl;
      quota5302 = refl;
      quota5302-output = refl;
      quota22 = refl;
      quota22-output = refl;
      quota1111 = refl;
      quota1111-output = refl;
      sample0137-output = refl;
      sample555-output = refl;
      root = refl;
    }
