-- The table of covers (document 02, request 5): what sampling reports, and what a leaf's domain row says; and the lemma that the definitions
-- yield every row of it. Each row is computed. Assumes nothing.
use Prim.Native.Nat.{ℕ}
use mathlib.Core.Path.{◌≡◌, refl}
use mathlib.Core.List.{List, [], ◌∷◌, map}
use lib.IntN.{pos}
use lib.ListN.{replicate}
use lib.Ieee.{Float, binary64, of_bits, of_int}
use Rattle.lists.specs.Lists.{from}
use Rattle.definition.specs.Number.{plus_zero, plus_infinity}
use Rattle.definition.specs.Sampling.{cover_of, leaf_cover}
use Rattle.definition.specs.Tree.{Leaf, Level, levels}
use Rattle.definition.specs.Outcome.{Answer, Sampled, sample_answer}
use Rattle.definition.proofs.WorkedSamples.{opened, line, on_line}
use Rattle.definition.proofs.WorkedExamples.{reports}

-- what the sampling of the points 0, 1, 3, 7 reports, from row 1 on
abbrev from1 : ℕ → Answer Sampled
from1 wanted = sample_answer 1 (line (0 ∷ 1 ∷ 3 ∷ 7 ∷ [])) wanted 1 (replicate 4 9) (line (replicate 8 9)) (replicate 4 9)

-- three rows at one place, from row 2 on
abbrev at5 : ℕ → Answer Sampled
at5 wanted = sample_answer 1 (line (5 ∷ 5 ∷ 5 ∷ [])) wanted 2 (replicate 4 9) (line (replicate 6 9)) (replicate 3 9)

-- so many rows, with a whole number for their cover
abbrev covering : ℕ → ℕ → Answer Sampled
covering rows cover = reports (record { rows = rows; cover = of_int binary64 (pos cover) })

abbrev floats : List ℕ → List Float
floats bits = map (of_bits binary64) bits

-- two rows whose distance overflows
abbrev far : List Float
far = floats (0x7fe0000000000000 ∷ 0xffe0000000000000 ∷ [])

-- the covers of all leaves of the first level
abbrev covers_on : List Level → List Float
covers_on [] = []
covers_on (l ∷ ls) = map (λ (f : Leaf). f.cover) l.leaves

pub record Covers : Type 0 where
  -- rows 1, 3 and 2 are chosen, and row 0 is at distance 1 of row 1
  wanted3 : from1 3 ≡ covering 3 1
  -- rows 1 and 3 are chosen, and row 2 is at distance 2 of row 1
  wanted2 : from1 2 ≡ covering 2 2
  -- all rows are chosen
  wanted4 : from1 4 ≡ covering 4 0
  -- one row: the farthest one's distance
  wanted1 : from1 1 ≡ covering 1 6
  -- the last chosen row counts: of 0, 6, 7 rows 0 and 2 are chosen, and row 1 is at distance 1 of row 2; of row 0 it would be 6
  last-counts : sample_answer 1 (line (0 ∷ 6 ∷ 7 ∷ [])) 2 0 (replicate 3 9) (line (replicate 6 9)) (replicate 3 9) ≡ covering 2 1
  -- rows at one place: +0, all chosen or not
  same_place : at5 3 ≡ covering 3 0
  same-place-one : at5 1 ≡ covering 1 0
  -- a refused call reports +0
  refused_none : from1 0 ≡ record { number = 13; place = 0; value = record { rows = 0; cover = plus_zero } }
  -- a distance and not its square: 2 points of the plane at 3 and 4
  distance : cover_of 2 (line (0 ∷ 0 ∷ 3 ∷ 4 ∷ [])) (from 0 2) (0 ∷ []) ≡ of_int binary64 (pos 5)
  -- +infinity by overflow
  overflows : cover_of 1 far (from 0 2) (0 ∷ []) ≡ plus_infinity
  -- a leaf without rows, one that sends none of its rows, and one that sends the first of two
  empty_leaf : leaf_cover 1 (line (0 ∷ 1 ∷ [])) [] [] ≡ plus_zero
  sends_none : leaf_cover 1 (line (0 ∷ 1 ∷ [])) (0 ∷ 1 ∷ []) [] ≡ plus_infinity
  sends-one : leaf_cover 1 (line (0 ∷ 1 ∷ [])) (0 ∷ 1 ∷ []) (0 ∷ []) ≡ of_int binary64 (pos 1)
  -- own rows alone: rows 1 and 2 of 0, 1, 3, 7 stand in two leaves, and what they borrow does not count
  own-rows : covers_on (levels (on_line 3 2) (line (0 ∷ 1 ∷ 3 ∷ 7 ∷ []))) ≡ line (1 ∷ 4 ∷ [])

-- the definitions yield every row
pub covers : Covers
unfolding opened
covers =
    record {
      wanted3 = refl;
      wanted2 = refl;
      wanted4 = refl;
      wanted1 = refl;
      last-counts = refl;
      same_place = refl;
      same-place-one = refl;
      refused_none = refl;
      distance = refl;
      overflows = refl;
      empty_leaf = refl;
      sends_none = refl;
      sends-one = refl;
      own-rows = refl;
    }
