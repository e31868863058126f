-- The job stream, one record after the other: `stream_end`, `stream-cut`, `stream-full` and `stream-more` say what the next bytes come
-- to, `job-limits` what holds of every job that is read, `job-points` how many points it has at most, `length-coordinates` how many
-- coordinates a point has. Assumes nothing.
-- Holds: length-coordinates, stream_end, stream-cut, stream-full, stream-more, job-limits, job-points
use mathlib.Core.Path.{◌≡◌, refl}
use mathlib.Core.Bool.{Bool, true, false, ◌&&◌, cond}
use Prim.Native.Nat.{ℕ, zero, suc, ◌+◌, ◌*◌, ◌≤◌, ◌<◌}
use native.Mathlib.Nat.{suc-mul, zero-mul, div-le_of_le-mul, mul_comm}
use native.Mathlib.Omega.{arith}
use mathlib.Core.List.{List, [], ◌∷◌, ◌++◌}
use lib.ListN.{length, drop, length-append}
use lib.Dec.{ltb}
use lib.Ieee.{Float}
use borrow.Author.Tests.{ltb-false}
use Rattle.lists.proofs.From.{length-map-from}
use Rattle.definition.specs.Tree.{Settings, point_count}
use Rattle.definition.specs.Refusals.{wrong_dimension_lem}
use Rattle.stream_laws.specs.Sizes.{JobLimits, WithinLimits}
use Rattle.formats.specs.Bytes.{floats_at, whole, mark_size, value_at}
use Rattle.formats.specs.Stream.{Job, job, broken, broken_at, too_large, point_mark, point_size_lem, settings_mark, settings_size, dimension_field, policy_fits_lem, settings_in, stream_points, stream_neighbours, read_points, held, job_in}
use Rattle.definition_laws.proofs.Accepted.{right-dimension}

pub length-coordinates : (d at : ℕ) (bs : List ℕ) → length (floats_at d at bs) ≡ d
unfolding floats_at
length-coordinates d at bs = length-map-from _ 0 d

-- ---- the points one after the other
module _ (s : Settings) (bs : List ℕ) (cs : List Float) where
  abbrev size : ℕ
  size = point_size_lem s.dimension

  pub stream_end : (room at : ℕ) → length bs ≡ 0 → read_points s room at bs cs ≡ job s cs
  unfolding read_points
  stream_end room at e = go room bs e
    where
      go : (room : ℕ) (bs : List ℕ) → length bs ≡ 0 → read_points s room at bs cs ≡ job s cs
      go zero [] e = refl
      go (suc room) [] e = refl
      go room (b ∷ bs) e = absurd (omega arith)

  -- a cut record, or another mark
  pub stream-cut : (room at : ℕ) → 0 < length bs → whole point_mark size bs ≡ false → read_points s room at bs cs ≡ broken_at at
  unfolding read_points
  stream-cut room at h e = go room bs h e
    where
      go : (room : ℕ) (bs : List ℕ) → 0 < length bs → whole point_mark size bs ≡ false → read_points s room at bs cs ≡ broken_at at
      go room [] h e = absurd (omega arith)
      go zero (b ∷ bs) h e = rw e
      go (suc room) (b ∷ bs) h e = rw e

  -- a whole point where no more may come
  pub stream-full : (at : ℕ) → 0 < length bs → whole point_mark size bs ≡ true → read_points s 0 at bs cs ≡ too_large
  unfolding read_points
  stream-full at h e = go bs h e
    where
      go : (bs : List ℕ) → 0 < length bs → whole point_mark size bs ≡ true → read_points s 0 at bs cs ≡ too_large
      go [] h e = absurd (omega arith)
      go (b ∷ bs) h e = rw e

  -- a whole point
  pub stream-more : (room at : ℕ) → 0 < length bs → whole point_mark size bs ≡ true
      → read_points s (suc room) at bs cs ≡ read_points s room (at + size) (drop size bs) (cs ++ floats_at s.dimension mark_size bs)
  unfolding read_points
  stream-more room at h e = go bs h e
    where
      go : (bs : List ℕ) → 0 < length bs → whole point_mark size bs ≡ true
          → read_points s (suc room) at bs cs ≡ read_points s room (at + size) (drop size bs) (cs ++ floats_at s.dimension mark_size bs)
      go [] h e = absurd (omega arith)
      go (b ∷ bs) h e = rw e

-- ---- the limits of a job that is read

-- before the neighbours are looked at
abbrev Few : Job → Type 0
Few (job s cs) = (1 ≤ s.dimension) × (s.dimension ≤ 3) × (length cs ≤ stream_points * s.dimension)
Few (broken r) = Unit {0}

cond-few : (b : Bool) (x y : Job) → Few x → Few y → Few (cond b x y)
cond-few true x y h g = h
cond-few false x y h g = g

points_few : (s : Settings) → 1 ≤ s.dimension → s.dimension ≤ 3 → (room at : ℕ) (bs : List ℕ) (cs : List Float)
    → length cs + room * s.dimension ≤ stream_points * s.dimension → Few (read_points s room at bs cs)
unfolding read_points
points_few s p h zero at [] cs g = (p, h, omega (arith, zero-mul s.dimension))
points_few s p h zero at (b ∷ bs) cs g = cond-few (whole point_mark (point_size_lem s.dimension) (b ∷ bs)) too_large (broken_at at) tt tt
points_few s p h (suc room) at [] cs g = (p, h, omega arith)
points_few s p h (suc room) at (b ∷ bs) cs g =
    let d = s.dimension in
    let x = floats_at d mark_size (b ∷ bs) in
    let fits : length (cs ++ x) + room * d ≤ stream_points * d = omega (arith, length-append cs x, length-coordinates d mark_size (b ∷ bs), suc-mul room d) in
    cond-few (whole point_mark (point_size_lem d) (b ∷ bs)) (read_points s room (at + point_size_lem d) (drop (point_size_lem d) (b ∷ bs)) (cs ++ x)) (broken_at at)
    (points_few s p h room (at + point_size_lem d) (drop (point_size_lem d) (b ∷ bs)) (cs ++ x) fits) tt

held-limits : (j : Job) → Few j → WithinLimits (held j)
unfolding held
held-limits (broken r) h = tt
held-limits (job s cs) h = go (ltb stream_neighbours s.neighbours) refl
  where
    go : (b : Bool) → ltb stream_neighbours s.neighbours ≡ b → WithinLimits (cond b too_large (job s cs))
    go true e = tt
    go false e = record { axes = h.0; axes_few = h.1; points_few = h.2; neighbours_few = ltb-false stream_neighbours s.neighbours e }

pub job-limits : (bs : List ℕ) → WithinLimits (job_in bs)
unfolding job_in settings_in
job-limits bs = go (whole settings_mark settings_size bs && policy_fits_lem bs)
  where
    points : Job
    points = held (read_points (settings_in bs) stream_points settings_size (drop settings_size bs) [])

    right : (b : Bool) → wrong_dimension_lem (value_at dimension_field bs) ≡ b → WithinLimits (cond b (broken (record { number = 1; place = 0 })) points)
    right true e = tt
    right false e =
        let d = right-dimension (value_at dimension_field bs) e in
        held-limits (read_points (settings_in bs) stream_points settings_size (drop settings_size bs) [])
        (points_few (settings_in bs) d.0 d.1 stream_points settings_size (drop settings_size bs) [] (omega arith))

    go : (b : Bool) → WithinLimits (cond b (cond (wrong_dimension_lem (value_at dimension_field bs)) (broken (record { number = 1; place = 0 })) points) (broken_at 0))
    go true = right (wrong_dimension_lem (value_at dimension_field bs)) refl
    go false = tt

-- so a job has at most 32 points
pub job-points : (s : Settings) (cs : List Float) → JobLimits s cs → point_count s.dimension cs ≤ stream_points
job-points s cs limits = div-le_of_le-mul s.dimension (rw mul_comm at limits.points_few)
