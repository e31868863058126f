-- How long the file of a job's tree can be: 24 bytes and 26 for each of 32 points; 10 for each of 4 levels and 193 domains; 4 for each of
-- 128 level rows, as many internal rows, and 3,264 borrowed rows; 48 for each of 192 boxes; 12 for the cover and the depth of each of 193
-- domains. This makes 28,438. Assumes nothing.
use mathlib.Core.Path.{◌≡◌, refl, sym, subst, ◌∙◌}
use Prim.Native.Nat.{ℕ, ◌+◌, ◌-◌, ◌*◌, ◌≤◌}
use native.Mathlib.Nat.{mul-le-mul}
use native.Mathlib.Omega.{arith}
use mathlib.Core.Bool.{true, ◌&&◌}
use mathlib.Core.List.{List}
use lib.ListN.{length}
use lib.Dec.{leb, ltb, eqb}
use lib.Ieee.{Float}
use borrow.Author.Tests.{leb-true}
use Rattle.lists.proofs.Tests.{and-fst, and-snd, three-pass}
use Rattle.definition.specs.Tree.{Settings, Level, point_count, levels}
use Rattle.definition.specs.Packed.{most_levels, most_rows, BuildSizes, build_stated, leaves_in_lem, packed_level_points, packed_borrowed}
use Rattle.definition.specs.Refusals.{Verdict, accepted, refused, build_verdict}
use Rattle.formats.specs.Stream.{Job, job, broken, stream_points, job_in}
use Rattle.stored.specs.File.{file_bytes}
use Rattle.stored.specs.Sound.{sound}
use Rattle.stored.specs.Programs.{Kept, file, nothing, kept_by, kept_job, kept}
use Rattle.tree_tests.specs.InTurn.{levels_pass}
use Rattle.tree_tests.specs.Size.{file_size_lem}
use Rattle.tree_tests.proofs.Limits.{sound-counted}
use Rattle.tree_tests.proofs.Passed.{passed_is, points-most}
use Rattle.tree_tests.proofs.FileLength.{file-length}
use Rattle.stored_built.proofs.BuiltSound.{built-sound}
use Rattle.stream_laws.specs.Sizes.{JobLimits, WithinLimits}
use Rattle.stream_laws.proofs.Stream.{job-limits, job-points}
use Rattle.reload_laws.specs.Sizes.{most_file_bytes}

-- ---- by counts
size-most : (d n levels rows domains borrowed : ℕ) → d ≤ 3 → n ≤ stream_points → levels ≤ most_levels → rows ≤ 128 → domains ≤ 193 → borrowed ≤ 3264
    → file_size_lem d n levels rows domains borrowed ≤ most_file_bytes
size-most d n levels rows domains borrowed axes few short a b c =
    omega (arith, mul-le-mul few (points axes), mul-le-mul axes (bounds b))
  where
    points : d ≤ 3 → 2 + 8 * d ≤ 26
    points h = omega arith

    bounds : domains ≤ 193 → domains - 1 ≤ 192
    bounds h = omega arith

-- ---- a sound tree over a job's points
module _ (s : Settings) (cs : List Float) (ls : List Level) (limits : JobLimits s cs) (h : sound s (point_count s.dimension cs) ls ≡ true) where
  abbrev n : ℕ
  n = point_count s.dimension cs

  few : n ≤ stream_points
  few = job-points s cs limits

  tests : (leb (length ls) most_levels ≡ true) × (levels_pass s.dimension (λ a. eqb a n) (λ i. ltb i n) ls ≡ true)
      × (leb (length (leaves_in_lem ls)) (most_rows n) && leb (length (packed_borrowed ls)) (6 * n * (s.neighbours + 1)) ≡ true)
  tests =
      three-pass (leb (length ls) most_levels) (levels_pass s.dimension (λ a. eqb a n) (λ i. ltb i n) ls)
      (leb (length (leaves_in_lem ls)) (most_rows n) && leb (length (packed_borrowed ls)) (6 * n * (s.neighbours + 1))) (sym (sound-counted s n ls) ∙ h)

  short : length ls ≤ most_levels
  short = leb-true (length ls) most_levels tests.0

  rows_few : length (packed_level_points ls) ≤ 128
  rows_few = omega (arith, points-most s.dimension n ls (passed_is s.dimension n ls tests.1), mul-le-mul short few)

  domains_few : length (leaves_in_lem ls) ≤ 193
  domains_few =
      omega (arith, few, leb-true (length (leaves_in_lem ls)) (most_rows n) (and-fst (leb (length (leaves_in_lem ls)) (most_rows n)) (leb (length (packed_borrowed ls)) (6 * n * (s.neighbours + 1))) tests.2))

  borrowed_few : length (packed_borrowed ls) ≤ 3264
  borrowed_few =
      let each : 6 * n ≤ 192 = omega (arith, few) in
      let more : s.neighbours + 1 ≤ 17 = omega (arith, limits.neighbours_few) in
      omega (
        arith,
        mul-le-mul each more,
        leb-true (length (packed_borrowed ls)) (6 * n * (s.neighbours + 1)) (and-snd (leb (length (leaves_in_lem ls)) (most_rows n)) (leb (length (packed_borrowed ls)) (6 * n * (s.neighbours + 1))) tests.2),
      )

  pub sound-file-fits : length (file_bytes s cs ls) ≤ most_file_bytes
  sound-file-fits =
      rw (file-length s cs n ls tests.1)
      (size-most s.dimension n (length ls) (length (packed_level_points ls)) (length (leaves_in_lem ls)) (length (packed_borrowed ls)) limits.axes_few few short rows_few domains_few borrowed_few)

-- ---- what is kept
abbrev Fits : Kept → Type 0
Fits (file bytes) = length bytes ≤ most_file_bytes
Fits (nothing r) = Unit {0}

by_fits : (s : Settings) (cs : List Float) → JobLimits s cs → (lent : BuildSizes) (v : Verdict) → build_verdict s cs lent ≡ v → Fits (kept_by v s cs)
unfolding kept_by
by_fits s cs limits lent accepted e = sound-file-fits s cs (levels s cs) limits (built-sound s cs lent e)
by_fits s cs limits lent (refused r) e = tt

job-fits : (j : Job) → WithinLimits j → Fits (kept_job j)
unfolding kept_job
job-fits (job s cs) limits =
    let lent = build_stated s.dimension (point_count s.dimension cs) s.neighbours in
    by_fits s cs limits lent (build_verdict s cs lent) refl
job-fits (broken r) limits = tt

-- THE LAW: no file that is kept is longer than 32,768 bytes
pub kept-fits : (bs bytes : List ℕ) → kept bs ≡ file bytes → length bytes ≤ most_file_bytes
unfolding kept
kept-fits bs bytes e = subst Fits e (job-fits (job_in bs) (job-limits bs))
