-- The front of a stream decides what it comes to: its settings, and 33 point records of three axes, are 878 bytes (`decisive-is`).
-- What lies past them is not looked at: `front-decides` says so of the job, `front-printed` of the printout. Assumes nothing.
-- Holds: whole_take, point-take, front-decides, front-printed, decisive-is
use mathlib.Core.Path.{◌≡◌, refl, sym, ap, ap₂, ◌∙◌}
use mathlib.Core.Bool.{Bool, true, false, ◌&&◌, cond}
use mathlib.Core.Logic.{⊎_elim}
use Prim.Native.Nat.{ℕ, zero, suc, ◌+◌, ◌-◌, ◌*◌, ◌≤◌, ◌<◌}
use native.Mathlib.Nat.{suc-mul}
use native.Mathlib.Omega.{arith}
use mathlib.Core.List.{List, [], ◌∷◌, ◌++◌}
use lib.ListN.{length, take, drop}
use lib.Seq.{length-take-le, take_all, get_or-take}
use lib.Dec.{leb}
use lib.Ieee.{Float, of_bits, binary64}
use borrow.Author.Tests.{le-leb}
use Rattle.lists.proofs.Tests.{true-or-false, same_or, le-or-lt}
use Rattle.lists.proofs.From.{map-below-same}
use Rattle.lists.proofs.Take.{drop-take}
use Rattle.definition.specs.Tree.{Settings}
use Rattle.definition.specs.Refusals.{wrong_dimension_lem}
use Rattle.formats.specs.Bytes.{floats_at, Mark, mark_size, Field, field_end, little, field, value_at, whole, float_at, float_size}
use Rattle.formats.specs.Stream.{Job, broken, broken_at, point_mark, point_size_lem, settings_mark, settings_size, dimension_field, leaf_field, neighbours_field, factor_field, policy_field, threshold_field, policy_fits_lem, settings_in, stream_points, read_points, held, job_in}
use Rattle.formats.specs.Printout.{job_text, printout}
use Rattle.stream_laws.specs.Sizes.{decisive}
use Rattle.definition_laws.proofs.Accepted.{right-dimension}
use Rattle.stream_laws.proofs.Stream.{stream-cut, stream-full, stream-more}

-- ---- a number, a record and a point that end within the first n bytes
little-take : (k n : ℕ) (bs : List ℕ) → k ≤ n → little k (take n bs) ≡ little k bs
unfolding little
little-take zero n bs h = refl
little-take (suc k) zero bs h = absurd (omega arith)
little-take (suc k) (suc n) [] h = refl
little-take (suc k) (suc n) (b ∷ bs) h = rw (little-take k n bs (omega arith))

module _ (n : ℕ) (bs : List ℕ) where
  field-take : (k at : ℕ) → at + k ≤ n → field k at (take n bs) ≡ field k at bs
  field-take k at h = rw (drop-take at n bs) (little-take k (n - at) (drop at bs) (omega arith))

  value-take : (f : Field) → field_end f ≤ n → value_at f (take n bs) ≡ value_at f bs
  value-take f h = field-take f.width f.offset h

  long-take : (size : ℕ) → size ≤ n → leb size (length (take n bs)) ≡ leb size (length bs)
  long-take size h =
      ⊎_elim
      (λ (all : length bs ≤ n). ap (λ (l : List ℕ). leb size (length l)) (take_all n bs all))
      (λ (cut : n < length bs). rw (length-take-le n bs (omega arith)) (le-leb size n h ∙ sym (le-leb size (length bs) (omega arith))))
      (le-or-lt (length bs) n)

  pub whole_take : (m : Mark) (size : ℕ) → 2 ≤ size → size ≤ n → whole m size (take n bs) ≡ whole m size bs
  whole_take m size g h = rw (long-take size h, get_or-take n bs 0 0 (omega arith), get_or-take n bs 1 0 (omega arith))

  pub point-take : (d : ℕ) → point_size_lem d ≤ n → floats_at d mark_size (take n bs) ≡ floats_at d mark_size bs
  unfolding floats_at
  point-take d h =
      map-below-same (λ a. float_at (mark_size + float_size * a) (take n bs)) (λ a. float_at (mark_size + float_size * a) bs) d
      (λ a below. ap (of_bits binary64) (field-take float_size (mark_size + float_size * a) (omega arith)))

  some-take : 0 < n → 0 < length bs → 0 < length (take n bs)
  some-take h g = go n bs h g
    where
      go : (n : ℕ) (bs : List ℕ) → 0 < n → 0 < length bs → 0 < length (take n bs)
      go zero bs h g = absurd (omega arith)
      go (suc n) [] h g = absurd (omega arith)
      go (suc n) (b ∷ bs) h g = omega arith

-- ---- the points: `room` records and one more end within the first n bytes
module _ (s : Settings) where
  abbrev size : ℕ
  size = point_size_lem s.dimension

  -- the same where a whole point is read the same, since the end of the stream and a broken record are
  module _ (room at n : ℕ) (bs : List ℕ) (cs : List Float) (long : size ≤ n) where
    same_point : (0 < length bs → whole point_mark size bs ≡ true → read_points s room at (take n bs) cs ≡ read_points s room at bs cs)
        → read_points s room at (take n bs) cs ≡ read_points s room at bs cs
    same_point f =
        ⊎_elim
        (λ (none : length bs ≡ 0). ap (λ (l : List ℕ). read_points s room at l cs) (take_all n bs (omega arith)))
        (λ (some : length bs ≡ 0 → ⊥). ⊎_elim
        (λ (there : whole point_mark size bs ≡ true). f (above (length bs) some) there)
        (λ (cut : whole point_mark size bs ≡ false).
        stream-cut s (take n bs) cs room at (some-take n bs (omega arith) (above (length bs) some)) (whole_take n bs point_mark size (omega arith) long ∙ cut)
        ∙ sym (stream-cut s bs cs room at (above (length bs) some) cut))
        (true-or-false (whole point_mark size bs)))
        (same_or (length bs) 0)
      where
        above : (k : ℕ) → (k ≡ 0 → ⊥) → 0 < k
        above k h = omega arith

  points-take : (room at n : ℕ) (bs : List ℕ) (cs : List Float) → suc room * size ≤ n → read_points s room at (take n bs) cs ≡ read_points s room at bs cs
  points-take zero at n bs cs h =
      let long : size ≤ n = omega (arith, suc-mul 0 size) in
      same_point zero at n bs cs long
      (λ some there. stream-full s (take n bs) cs at (some-take n bs (omega arith) some) (whole_take n bs point_mark size (omega arith) long ∙ there)
      ∙ sym (stream-full s bs cs at some there))
  points-take (suc room) at n bs cs h =
      let long : size ≤ n = omega (arith, suc-mul (suc room) size, suc-mul room size) in
      let rest : suc room * size ≤ n - size = omega (arith, suc-mul (suc room) size) in
      let d = s.dimension in
      same_point (suc room) at n bs cs long
      (λ some there. stream-more s (take n bs) cs room at (some-take n bs (omega arith) some) (whole_take n bs point_mark size (omega arith) long ∙ there)
      ∙ ap₂ (λ (l : List ℕ) (x : List Float). read_points s room (at + size) l (cs ++ x)) (drop-take size n bs) (point-take n bs d long)
      ∙ points-take room (at + size) (n - size) (drop size bs) (cs ++ floats_at d mark_size bs) rest
      ∙ sym (stream-more s bs cs room at some there))

-- ---- the settings
settings-take : (n : ℕ) (bs : List ℕ) → settings_size ≤ n → settings_in (take n bs) ≡ settings_in bs
unfolding settings_in
settings-take n bs h =
    rw (
      value-take n bs dimension_field (omega arith),
      value-take n bs leaf_field (omega arith),
      value-take n bs neighbours_field (omega arith),
      value-take n bs factor_field (omega arith),
      value-take n bs policy_field (omega arith),
      value-take n bs threshold_field (omega arith),
    )

dimension-in : (bs : List ℕ) → (settings_in bs).dimension ≡ value_at dimension_field bs
unfolding settings_in
dimension-in bs = refl

policy-take : (n : ℕ) (bs : List ℕ) → settings_size ≤ n → policy_fits_lem (take n bs) ≡ policy_fits_lem bs
unfolding policy_fits_lem
policy-take n bs h = rw (value-take n bs policy_field (omega arith), value-take n bs threshold_field (omega arith))

pub front-decides : (n : ℕ) (bs : List ℕ) → decisive ≤ n → job_in (take n bs) ≡ job_in bs
unfolding job_in
front-decides n bs h =
    let a = policy-take n bs (omega arith) in
    let b = whole_take n bs settings_mark settings_size (omega arith) (omega arith) in
    let c = value-take n bs dimension_field (omega arith) in
    let e = settings-take n bs (omega arith) in
    rw (a, b, c, e)
    (ap (λ (p : Job). cond (whole settings_mark settings_size bs && policy_fits_lem bs) p (broken_at 0)) (points (wrong_dimension_lem (value_at dimension_field bs)) refl))
  where
    points : (b : Bool) → wrong_dimension_lem (value_at dimension_field bs) ≡ b
        → cond b (broken (record { number = 1; place = 0 })) (held (read_points (settings_in bs) stream_points settings_size (drop settings_size (take n bs)) []))
        ≡ cond b (broken (record { number = 1; place = 0 })) (held (read_points (settings_in bs) stream_points settings_size (drop settings_size bs) []))
    points true e = refl
    points false e =
        let d = right-dimension (value_at dimension_field bs) e in
        let most : suc stream_points * point_size_lem (settings_in bs).dimension ≤ n - settings_size = omega (arith, dimension-in bs) in
        ap held
        (ap (λ (l : List ℕ). read_points (settings_in bs) stream_points settings_size l []) (drop-take settings_size n bs)
        ∙ points-take (settings_in bs) stream_points settings_size (n - settings_size) (drop settings_size bs) [] most)

-- the first 878 bytes decide what the program prints
pub front-printed : (n : ℕ) (bs : List ℕ) → decisive ≤ n → printout (take n bs) ≡ printout bs
unfolding printout
front-printed n bs h = ap job_text (front-decides n bs h)

-- these are the first 878 bytes
pub decisive-is : decisive ≡ 878
decisive-is = refl
