-- No refusal of a stream has the number 0. Assumes nothing.
use mathlib.Core.Path.{◌≡◌}
use mathlib.Core.Logic.{⊎_elim}
use mathlib.Core.Bool.{Bool, true, false, ◌&&◌, cond}
use Prim.Native.Nat.{ℕ, zero, suc, ◌+◌, ◌≤◌, ◌<◌}
use native.Mathlib.Omega.{arith}
use mathlib.Core.List.{List, [], ◌∷◌, ◌++◌}
use lib.ListN.{drop}
use lib.Dec.{ltb}
use lib.Ieee.{Float}
use Rattle.lists.proofs.Tests.{le-or-lt}
use Rattle.definition.specs.Tree.{Settings, point_count}
use Rattle.definition.specs.Packed.{build_stated}
use Rattle.definition.specs.Refusals.{Refusal, Verdict, accepted, refused, build_verdict, wrong_dimension_lem}
use Rattle.definition.specs.Outcome.{number_of}
use Rattle.definition_laws.proofs.Accepted.{build-zero}
use Rattle.formats.specs.Bytes.{mark_size, whole, value_at, floats_at}
use Rattle.formats.specs.Stream.{Job, job, broken, broken_at, too_large, settings_mark, settings_size, policy_fits_lem, dimension_field, settings_in, point_mark, point_size_lem, stream_points, stream_neighbours, read_points, held, job_in}
use Rattle.stored.specs.Programs.{Kept, file, nothing, kept_by, kept_job, kept}

-- ---- the reader's refusals
abbrev JobNumbered : Job → Type 0
JobNumbered (job s cs) = Unit {0}
JobNumbered (broken r) = 1 ≤ r.number

either : (b : Bool) (j k : Job) → JobNumbered j → JobNumbered k → JobNumbered (cond b j k)
either true j k x y = x
either false j k x y = y

points-numbered : (s : Settings) (room at : ℕ) (bs : List ℕ) (cs : List Float) → JobNumbered (read_points s room at bs cs)
unfolding read_points
points-numbered s zero at [] cs = tt
points-numbered s zero at (b ∷ bs) cs = either (whole point_mark (point_size_lem s.dimension) (b ∷ bs)) too_large (broken_at at) (omega arith) (omega arith)
points-numbered s (suc room) at [] cs = tt
points-numbered s (suc room) at (b ∷ bs) cs =
    let size = point_size_lem s.dimension in
    either (whole point_mark size (b ∷ bs)) (read_points s room (at + size) (drop size (b ∷ bs)) (cs ++ floats_at s.dimension mark_size (b ∷ bs))) (broken_at at)
    (points-numbered s room (at + size) (drop size (b ∷ bs)) (cs ++ floats_at s.dimension mark_size (b ∷ bs))) (omega arith)

held-numbered : (j : Job) → JobNumbered j → JobNumbered (held j)
unfolding held
held-numbered (job s cs) h = either (ltb stream_neighbours s.neighbours) too_large (job s cs) (omega arith) tt
held-numbered (broken r) h = h

job-numbered : (bs : List ℕ) → JobNumbered (job_in bs)
unfolding job_in
job-numbered bs =
    let read = read_points (settings_in bs) stream_points settings_size (drop settings_size bs) [] in
    let wrong = broken (record { number = 1; place = 0 }) in
    let after = cond (wrong_dimension_lem (value_at dimension_field bs)) wrong (held read) in
    either (whole settings_mark settings_size bs && policy_fits_lem bs) after (broken_at 0)
    (either (wrong_dimension_lem (value_at dimension_field bs)) wrong (held read) (omega arith)
    (held-numbered read (points-numbered (settings_in bs) stream_points settings_size (drop settings_size bs) [])))
    (omega arith)

-- ---- what is kept
abbrev pub Numbered : Kept → Type 0
Numbered (file bytes) = Unit {0}
Numbered (nothing r) = 1 ≤ r.number

no_zero : (r : Refusal) → (r.number ≡ 0 → refused r ≡ accepted) → 1 ≤ r.number
no_zero r h =
    ⊎_elim (λ (some : 1 ≤ r.number). some)
    (λ (none : r.number < 1). let e = h (omega arith) in let z : ◌≡◌ {A = ℕ} 0 1 = cc in absurd (omega arith))
    (le-or-lt 1 r.number)

by-numbered : (s : Settings) (cs : List Float) (v : Verdict) → (number_of v ≡ 0 → v ≡ accepted) → Numbered (kept_by v s cs)
unfolding kept_by number_of
by-numbered s cs accepted h = tt
by-numbered s cs (refused r) h = no_zero r h

kept-job-numbered : (j : Job) → JobNumbered j → Numbered (kept_job j)
unfolding kept_job
kept-job-numbered (job s cs) h =
    let stated = build_stated s.dimension (point_count s.dimension cs) s.neighbours in
    by-numbered s cs (build_verdict s cs stated) (build-zero s cs stated)
kept-job-numbered (broken r) h = h

-- THE LAW
pub kept-numbered : (bs : List ℕ) → Numbered (kept bs)
unfolding kept
kept-numbered bs = kept-job-numbered (job_in bs) (job-numbered bs)
