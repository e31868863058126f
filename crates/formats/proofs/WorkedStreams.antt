-- Streams and what they come to, and printouts, each as document 01 has it: every rule of the stream just met and just not, and of two
-- refusals the one that comes first. Each row is computed. Assumes nothing.
-- Holds: Streams, Printouts, streams, printouts
use Prim.Native.Nat.{ℕ}
use mathlib.Core.Path.{◌≡◌, refl}
use mathlib.Core.List.{List, [], ◌∷◌, ◌++◌, map}
use lib.ListN.{replicate, take}
use lib.Ieee.{Float, nan, binary64, of_bits}
use Rattle.lists.specs.Lists.{from, joined}
use Rattle.definition.specs.Number.{plus_zero}
use Rattle.definition.specs.Levels.{Policy, auto, fixed}
use Rattle.definition.specs.Tree.{Settings}
use Rattle.definition.proofs.WorkedSamples.{opened, line}
use Rattle.formats.specs.Bytes.{floats_at, little, bytes_of, float_bytes}
use Rattle.formats.specs.Stream.{policy_fits_lem, settings_in, Job, job, broken, broken_at, too_large, read_points, held, job_in}
use Rattle.formats.specs.Printout.{ascii, decimal_onto, decimal, hex_onto, rows_text, floats_text, domain_line, fine_lines, coarse_lines, level_line, levels_text, tree_text, refusal_text, built_text, job_text, printout}

-- ---- streams

-- a settings record with leaf 2 and factor 2
abbrev settings : ℕ → ℕ → ℕ → ℕ → List ℕ
settings d neighbours policy c = 0x53 ∷ 0x54 ∷ d ∷ [] ++ bytes_of 4 2 ++ bytes_of 4 neighbours ++ bytes_of 4 2 ++ policy ∷ [] ++ bytes_of 4 c

-- what it says
abbrev settings_read : ℕ → ℕ → Policy → Settings
settings_read d neighbours p = record { dimension = d; leaf = 2; neighbours = neighbours; factor = 2; policy = p }

-- a point record
unfoldable point : List Float → List ℕ
point xs = 0x50 ∷ 0x54 ∷ joined (map float_bytes xs)

-- n points at 0 on a line
abbrev zero_points : ℕ → List ℕ
zero_points n = joined (replicate n (point (plus_zero ∷ [])))

-- two points in the plane: bytes 20 to 37 and 38 to 55
abbrev plane_points : List ℕ
plane_points = settings 2 1 1 2 ++ point (line (0 ∷ 1 ∷ [])) ++ point (line (3 ∷ 7 ∷ []))

-- the points 0, 1, 3, 7 with leaf 2, one neighbour, factor 2 and Fixed 2
abbrev four_points : List ℕ
four_points = settings 1 1 1 2 ++ joined (map (λ x. point (x ∷ [])) (line (0 ∷ 1 ∷ 3 ∷ 7 ∷ [])))

abbrev wrong_axes : Job
wrong_axes = broken (record { number = 1; place = 0 })

pub record Streams : Type 0 where
  -- each field at its place, the lowest byte first
  fields :
      job_in ((0x53 ∷ 0x54 ∷ 2 ∷ []) ++ (0x11 ∷ 0x12 ∷ 0x13 ∷ 0x14 ∷ []) ++ (9 ∷ 0 ∷ 0 ∷ 0 ∷ []) ++ (0x31 ∷ 0x32 ∷ 0x33 ∷ 0x34 ∷ []) ++ 1 ∷ (0x41 ∷ 0x42 ∷ 0x43 ∷ 0x44 ∷ []))
      ≡ job (record { dimension = 2; leaf = 0x14131211; neighbours = 9; factor = 0x34333231; policy = fixed 0x44434241 }) []
  coordinates :
      job_in (settings 2 1 1 2 ++ (0x50 ∷ 0x54 ∷ 1 ∷ 2 ∷ 3 ∷ 4 ∷ 5 ∷ 6 ∷ 7 ∷ 8 ∷ []) ++ (17 ∷ 18 ∷ 19 ∷ 20 ∷ 21 ∷ 22 ∷ 23 ∷ 24 ∷ []))
      ≡ job (settings_read 2 1 (fixed 2)) (map (of_bits binary64) (0x0807060504030201 ∷ 0x1817161514131211 ∷ []))
  plane : job_in plane_points ≡ job (settings_read 2 1 (fixed 2)) (line (0 ∷ 1 ∷ 3 ∷ 7 ∷ []))
  -- the settings record: its 20 bytes, its two marks
  none : job_in [] ≡ broken_at 0
  byte19 : job_in (take 19 (settings 1 1 1 2)) ≡ broken_at 0
  byte20 : job_in (settings 1 1 1 2) ≡ job (settings_read 1 1 (fixed 2)) []
  first-mark : job_in (0x54 ∷ 0x54 ∷ 1 ∷ bytes_of 4 2 ++ bytes_of 4 1 ++ bytes_of 4 2 ++ 1 ∷ [] ++ bytes_of 4 2) ≡ broken_at 0
  second-mark : job_in (0x53 ∷ 0x53 ∷ 1 ∷ bytes_of 4 2 ++ bytes_of 4 1 ++ bytes_of 4 2 ++ 1 ∷ [] ++ bytes_of 4 2) ≡ broken_at 0
  -- the policy: 1 with any number, 0 with the number 0
  policy0 : job_in (settings 1 1 0 0) ≡ job (settings_read 1 1 auto) []
  policy0-number : job_in (settings 1 1 0 1) ≡ broken_at 0
  policy0-high : job_in (settings 1 1 0 0x1000000) ≡ broken_at 0
  policy1-none : job_in (settings 1 1 1 0) ≡ job (settings_read 1 1 (fixed 0)) []
  policy2 : job_in (settings 1 1 2 0) ≡ broken_at 0
  -- the dimension: after the settings record, before the first point
  axes0 : job_in (settings 0 1 1 2) ≡ wrong_axes
  axes3 : job_in (settings 3 1 1 2 ++ point (line (1 ∷ 2 ∷ 3 ∷ []))) ≡ job (settings_read 3 1 (fixed 2)) (line (1 ∷ 2 ∷ 3 ∷ []))
  axes4 : job_in (settings 4 17 1 2 ++ 0 ∷ []) ≡ wrong_axes
  axes4-policy : job_in (settings 4 17 2 0) ≡ broken_at 0
  axes4-cut : job_in (take 19 (settings 4 17 1 2)) ≡ broken_at 0
  -- a broken point: the offset of its record
  first-broken : job_in (settings 2 1 1 2 ++ 0x50 ∷ []) ≡ broken_at 20
  last_byte : job_in (take 55 plane_points) ≡ broken_at 38
  one-byte-more : job_in (plane_points ++ 0x50 ∷ []) ≡ broken_at 56
  point-first : job_in (settings 1 1 1 2 ++ 0x53 ∷ 0x54 ∷ bytes_of 8 0) ≡ broken_at 20
  point-second : job_in (settings 1 1 1 2 ++ 0x50 ∷ 0x50 ∷ bytes_of 8 0) ≡ broken_at 20
  -- 32 points are read; the 33rd ends the reading where it is whole
  points32 : job_in (settings 1 1 1 2 ++ zero_points 32) ≡ job (settings_read 1 1 (fixed 2)) (replicate 32 plus_zero)
  points33 : job_in (settings 1 1 1 2 ++ zero_points 33 ++ 0 ∷ []) ≡ too_large
  points33-cut : job_in (settings 1 17 1 2 ++ zero_points 32 ++ 0x50 ∷ 0x54 ∷ bytes_of 7 0) ≡ broken_at 340
  -- 16 neighbours are taken; 17 are refused after the last record
  neighbours16 : job_in (settings 1 16 1 2) ≡ job (settings_read 1 16 (fixed 2)) []
  neighbours17 : job_in (settings 1 17 1 2) ≡ too_large
  neighbours-high : job_in (settings 1 0x1000000 1 2) ≡ too_large
  neighbours17-cut : job_in (settings 1 17 1 2 ++ 0x50 ∷ []) ≡ broken_at 20

pub record Printouts : Type 0 where
  -- the four-point job, byte for byte
  printed :
      printout four_points
      ≡ ascii "levels 2\nlevel 0 points 0 1 2 3\ndomain 0 internal 0 overlap 1 box 0000000000000000 3ff0000000000000 cover 0000000000000000 depth 2\ndomain 1 internal 1 overlap 0 2 box 3ff0000000000000 4008000000000000 cover 0000000000000000 depth 2\ndomain 2 internal 2 overlap 1 3 box 4008000000000000 401c000000000000 cover 7ff0000000000000 depth 2\ndomain 3 internal 3 overlap 2 box 401c000000000000 401c000000000000 cover 7ff0000000000000 depth 2\nlevel 1 points 0 1\ndomain 0 internal 0 1 overlap - box - cover 0000000000000000 depth 0\n"
  -- a leaf with no rows: a dash for each list, its box, and +0 for its cover
  empty_leaf_lem :
      printout ((0x53 ∷ 0x54 ∷ 1 ∷ []) ++ bytes_of 4 1 ++ bytes_of 4 1 ++ bytes_of 4 2 ++ 1 ∷ [] ++ bytes_of 4 1 ++ point (line (0 ∷ [])) ++ point (line (1 ∷ [])))
      ≡ ascii "levels 2\nlevel 0 points 0 1\ndomain 0 internal - overlap - box 0000000000000000 0000000000000000 cover 0000000000000000 depth 2\ndomain 1 internal 0 overlap 1 box 0000000000000000 3ff0000000000000 cover 0000000000000000 depth 2\ndomain 2 internal - overlap - box 3ff0000000000000 3ff0000000000000 cover 0000000000000000 depth 2\ndomain 3 internal 1 overlap 0 box 3ff0000000000000 3ff0000000000000 cover 7ff0000000000000 depth 2\nlevel 1 points 0\ndomain 0 internal 0 overlap - box - cover 0000000000000000 depth 0\n"
  -- rows of two digits, in a tree of one level
  two_digits_lem :
      printout (settings 1 1 0 0 ++ joined (map (λ x. point (x ∷ [])) (line (from 0 11))))
      ≡ ascii "levels 1\nlevel 0 points 0 1 2 3 4 5 6 7 8 9 10\ndomain 0 internal 0 1 2 3 4 5 6 7 8 9 10 overlap - box - cover 0000000000000000 depth 0\n"
  -- the stream's refusals, and the build's own
  refused16 : printout (settings 1 17 1 2 ++ zero_points 32 ++ 0x50 ∷ []) ≡ ascii "refused 16 at 340\n"
  refused17 : printout (settings 1 17 1 2) ≡ ascii "refused 17 at 0\n"
  refused1 : printout (settings 4 17 1 2) ≡ ascii "refused 1 at 0\n"
  refused6 : printout (settings 1 16 1 2) ≡ ascii "refused 6 at 0\n"
  refused10 : printout (settings 1 1 1 2 ++ point (plus_zero ∷ []) ++ point (nan ∷ [])) ≡ ascii "refused 10 at 1\n"

-- the definitions yield every row
pub streams : Streams
unfolding opened little bytes_of point floats_at policy_fits_lem settings_in read_points held job_in
streams =
    record {
      fields = refl;
      coordinates = refl;
      plane = refl;
      none = refl;
      byte19 = refl;
      byte20 = refl;
      first-mark = refl;
      second-mark = refl;
      policy0 = refl;
      policy0-number = refl;
      policy0-high = refl;
      policy1-none = refl;
      policy2 = refl;
      axes0 = refl;
      axes3 = refl;
      axes4 = refl;
      axes4-policy = refl;
      axes4-cut = refl;
      first-broken = refl;
      last_byte = refl;
      one-byte-more = refl;
      point-first = refl;
      point-second = refl;
      points32 = refl;
      points33 = refl;
      points33-cut = refl;
      neighbours16 = refl;
      neighbours17 = refl;
      neighbours-high = refl;
      neighbours17-cut = refl;
    }

pub printouts : Printouts
unfolding opened little bytes_of point floats_at policy_fits_lem settings_in read_points held job_in ascii decimal_onto decimal hex_onto rows_text floats_text domain_line fine_lines coarse_lines level_line levels_text tree_text refusal_text built_text job_text printout
printouts =
    record {
      printed = refl;
      empty_leaf_lem = refl;
      two_digits_lem = refl;
      refused16 = refl;
      refused17 = refl;
      refused1 = refl;
      refused6 = refl;
      refused10 = refl;
    }
