-- The printout, as bytes. Definitions only.
use Rattle.std.specs.Prelude.{ℕ, zero, suc, ◌+◌, ◌/◌, ◌%◌, cond, List, [], ◌∷◌, ◌++◌, map, length, ltb, Float}
use Prim.Native.String.{String}
use Prim.Native.Char.{code}
use Rattle.std.specs.Float.{binary64}
use Rattle.std.specs.Float.Ieee.{to_bits}
use Rattle.lists.specs.Lists.{joined}
use Rattle.definition.specs.Tree.{Leaf, Level, Settings, levels, point_count}
use Rattle.definition.specs.Packed.{build_stated}
use Rattle.definition.specs.Refusals.{Refusal, Verdict, accepted, refused, build_verdict}
use Rattle.formats.specs.Stream.{Job, job, broken, job_in}

-- ---- numbers and lists as text

-- the bytes of an ASCII text
unfoldable pub ascii : String → List ℕ
ascii String.[] = []
ascii (String.◌∷◌ c s) = code c ∷ ascii s

-- the digit of a number below 16
abbrev pub digit_of_lem : ℕ → ℕ
digit_of_lem n = cond (ltb n 10) (48 + n) (87 + n)

-- n in decimal, in front of the bytes `after`, at most `fuel` digits and one
unfoldable pub decimal_onto : ℕ → ℕ → List ℕ → List ℕ
decimal_onto zero n after = digit_of_lem (n % 10) ∷ after
decimal_onto (suc fuel) n after =
    let more = decimal_onto fuel (n / 10) (digit_of_lem (n % 10) ∷ after) in
    cond (ltb n 10) (digit_of_lem n ∷ after) more

-- n in decimal: no number of 64 bits has more than 20 digits
unfoldable pub decimal : ℕ → List ℕ
decimal n = decimal_onto 19 n []

-- the k lowest hexadecimal digits of n, in front of the bytes `after`
unfoldable pub hex_onto : ℕ → ℕ → List ℕ → List ℕ
hex_onto zero n after = after
hex_onto (suc k) n after = hex_onto k (n / 16) (digit_of_lem (n % 16) ∷ after)

-- a space and the number, for each row; a dash for an empty list
unfoldable pub rows_text : List ℕ → List ℕ
rows_text [] = ascii " -"
rows_text (i ∷ is) = joined (map (λ j. 32 ∷ decimal j) (i ∷ is))

-- a space and the hexadecimal bits, for each value
unfoldable pub floats_text : List Float → List ℕ
floats_text b = joined (map (λ x. 32 ∷ hex_onto 16 (to_bits binary64 x) []) b)

-- ---- lines

-- the line of the domain number i
unfoldable pub domain_line : ℕ → Leaf → List ℕ → List ℕ
domain_line i f box =
    ascii "domain " ++ decimal i ++ ascii " internal" ++ rows_text f.own ++ ascii " overlap" ++ rows_text f.borrowed
    ++ ascii " box" ++ box ++ ascii " cover" ++ floats_text (f.cover ∷ []) ++ ascii " depth " ++ decimal f.depth ++ ascii "\n"

-- the leaves of a fine level, numbered from i on
unfoldable pub fine_lines : ℕ → List Leaf → List ℕ
fine_lines i [] = []
fine_lines i (f ∷ fs) = domain_line i f (floats_text f.box) ++ fine_lines (suc i) fs

-- the coarse domain, with a dash for its box
unfoldable pub coarse_lines : List Leaf → List ℕ
coarse_lines fs = joined (map (λ f. domain_line 0 f (ascii " -")) fs)

unfoldable pub level_line : ℕ → Level → List ℕ
level_line t l = ascii "level " ++ decimal t ++ ascii " points" ++ rows_text l.points ++ ascii "\n"

-- the levels from number t on; the last is the coarse one
unfoldable pub levels_text : ℕ → List Level → List ℕ
levels_text t [] = []
levels_text t (l ∷ []) = level_line t l ++ coarse_lines l.leaves
levels_text t (l ∷ m ∷ ls) = level_line t l ++ fine_lines 0 l.leaves ++ levels_text (suc t) (m ∷ ls)

-- the first line counts the levels
unfoldable pub tree_text : List Level → List ℕ
tree_text ls = ascii "levels " ++ decimal (length ls) ++ ascii "\n" ++ levels_text 0 ls

unfoldable pub refusal_text : Refusal → List ℕ
refusal_text r = ascii "refused " ++ decimal r.number ++ ascii " at " ++ decimal r.place ++ ascii "\n"

-- ---- the program

unfoldable pub built_text : Verdict → Settings → List Float → List ℕ
built_text accepted s cs = tree_text (levels s cs)
built_text (refused r) s cs = refusal_text r

-- a job is built in lists of the stated sizes
unfoldable pub job_text : Job → List ℕ
job_text (job s cs) =
    built_text (build_verdict s cs (build_stated s.dimension (point_count s.dimension cs) s.neighbours)) s cs
job_text (broken r) = refusal_text r

-- what the program prints for a stream
unfoldable pub printout : List ℕ → List ℕ
printout bs = job_text (job_in bs)
