-- The bytes that decide what the programs make of their input: the first 878 of the stream, and the first 1,048,577 of the file.
-- Assumes nothing.
use mathlib.Core.Path.{◌≡◌, refl, ap}
use mathlib.Core.Logic.{⊎_elim}
use Prim.Native.Nat.{ℕ, ◌≤◌, ◌<◌}
use native.Mathlib.Omega.{arith}
use mathlib.Core.List.{List}
use lib.ListN.{length, take}
use lib.Seq.{take_all, length-take-le}
use borrow.Author.Tests.{lt-ltb}
use Rattle.lists.proofs.Tests.{le-or-lt}
use Rattle.formats.specs.Stream.{Job, job, broken, job_in}
use Rattle.stored.specs.Programs.{kept_job, kept, most_file, reloaded_for, reloaded}
use Rattle.stream_laws.specs.Sizes.{decisive}
use Rattle.stream_laws.proofs.Front.{front-decides}

-- ---- of a job stream
pub front_kept : (n : ℕ) (bs : List ℕ) → decisive ≤ n → kept (take n bs) ≡ kept bs
unfolding kept
front_kept n bs h = ap kept_job (front-decides n bs h)

pub front-reloaded : (n : ℕ) (stream bs : List ℕ) → decisive ≤ n → reloaded (take n stream) bs ≡ reloaded stream bs
unfolding reloaded
front-reloaded n stream bs h = ap (λ (j : Job). reloaded_for j bs) (front-decides n stream h)

-- ---- of a file: each that is too long is refused the same
long-refused : (j : Job) (xs ys : List ℕ) → most_file < length xs → most_file < length ys → reloaded_for j xs ≡ reloaded_for j ys
unfolding reloaded_for
long-refused (job s cs) xs ys h g = rw (lt-ltb most_file (length xs) h, lt-ltb most_file (length ys) g)
long-refused (broken r) xs ys h g = refl

pub front-of-file : (n : ℕ) (stream bs : List ℕ) → most_file < n → reloaded stream (take n bs) ≡ reloaded stream bs
unfolding reloaded
front-of-file n stream bs h =
    ⊎_elim
    (λ (few : length bs ≤ n). ap (λ (xs : List ℕ). reloaded_for (job_in stream) xs) (take_all n bs few))
    (λ (many : n < length bs). long-refused (job_in stream) (take n bs) bs (omega (arith, length-take-le n bs (omega arith))) (omega arith))
    (le-or-lt (length bs) n)
