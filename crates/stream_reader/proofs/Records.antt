-- The records one after the other: what the definition says at each step of the reading. `job-broken`, `job-wrong` and `job-right` are the
-- settings; `Reading` is the state between two point records with its start (`begun`) and its steps (`reading-..`); `held-over` and
-- `held-within` say what is made of the points. Assumes nothing.
-- Holds: settings_whole_lem, whole_long, job-broken, job-wrong, job-right, Reading, begun, spot, place_fits, reading-cut,
--   reading-full, reading-more, reading-counted, reading-done, held-broken, held-over, held-within
use mathlib.Core.Path.{◌≡◌, refl, sym, ap, ◌∙◌}
use mathlib.Core.Bool.{Bool, true, false, ◌&&◌, cond}
use Prim.Native.Nat.{ℕ, suc, ◌+◌, ◌-◌, ◌*◌, ◌/◌, min, ◌≤◌, ◌<◌}
use native.Mathlib.Nat.{mul-le-mul, suc-mul, zero-mul, mul-div_cancel}
use native.Mathlib.Numerals.{add-one}
use native.Mathlib.Omega.{arith}
use mathlib.Core.List.{List, [], ◌∷◌, ◌++◌}
use lib.ListN.{length, take, drop, length-append}
use lib.Seq.{take_at, drop_at}
use Rattle.std.proofs.lemmas.List.{take_min, drop_min}
use lib.Ieee.{Float}
use borrow.Author.Tests.{le-ltb, lt-ltb, le-leb}
use Rattle.lists.specs.Lists.{put}
use Rattle.lists.proofs.Put.{take-put-end}
use Rattle.lists.proofs.Tests.{and-fst}
use Rattle.definition.specs.Tree as tree
use Rattle.definition.specs.Refusals as refusals
use Rattle.definition.specs.Refusals.{accepted, refused, verdict, on, wrong_dimension_lem}
use Rattle.formats.specs.Bytes.{floats_at, whole, mark_size, value_at}
use Rattle.formats.specs.Stream.{Job, settings_mark, settings_size, policy_fits_lem, dimension_field, settings_in, point_mark, point_size_lem, job, broken, broken_at, too_large, stream_points, stream_neighbours, read_points, held, job_in}
use Rattle.stream_laws.proofs.Stream.{length-coordinates, stream_end, stream-cut, stream-full, stream-more}
use Rattle.stream_laws.proofs.Front.{whole_take, point-take}
use Rattle.bytes_in.proofs.Bytes.{record-room}

-- ---- the settings: the record is whole, and its policy is one of the two
abbrev pub settings_whole_lem : List ℕ → Bool
settings_whole_lem bs = whole settings_mark settings_size bs && policy_fits_lem bs

pub whole_long : (bs : List ℕ) → settings_whole_lem bs ≡ true → settings_size ≤ length bs
whole_long bs e = record-room settings_mark settings_size 0 bs (omega arith) (and-fst (whole settings_mark settings_size bs) (policy_fits_lem bs) e)

module _ (bs : List ℕ) where
  pub job-broken : settings_whole_lem bs ≡ false → broken_at 0 ≡ job_in bs
  unfolding job_in
  job-broken e = rw e

  module _ (w : settings_whole_lem bs ≡ true) (s : tree.Settings) (e : s ≡ settings_in bs) where
    dimension-is : s.dimension ≡ value_at dimension_field bs
    unfolding settings_in
    dimension-is = ap (λ (r : tree.Settings). r.dimension) e

    -- a number of axes that is refused
    pub job-wrong : (r : refusals.Refusal) → refused r ≡ verdict (on (wrong_dimension_lem s.dimension) 1 ∷ []) → broken r ≡ job_in bs
    unfolding job_in verdict
    job-wrong r f = go (wrong_dimension_lem (value_at dimension_field bs)) refl (rw dimension-is at f)
      where
        go : (b : Bool) → wrong_dimension_lem (value_at dimension_field bs) ≡ b → refused r ≡ cond b (refused (record { number = 1; place = 0 })) accepted
            → broken r ≡ job_in bs
        go true g f = rw (w, g) cc
        go false g f = cc

    pub job-right : 1 ≤ s.dimension → s.dimension ≤ 3 → job_in bs ≡ held (read_points s stream_points settings_size (drop settings_size bs) [])
    unfolding job_in
    job-right h g =
        let l : 1 ≤ value_at dimension_field bs = omega (arith, dimension-is) in
        let u : value_at dimension_field bs ≤ 3 = omega (arith, dimension-is) in
        rw (w, le-leb 1 (value_at dimension_field bs) l, le-leb (value_at dimension_field bs) 3 u, e)

-- ---- the state of the reading: n points of the records bs are read, and `rest` is left
pub record Reading (s : tree.Settings) (bs rest : List ℕ) (cs : List Float) (n : ℕ) : Type 0 where
  pub few : n ≤ stream_points
  pub room : 3 * stream_points ≤ length cs
  pub long : length bs ≡ n * point_size_lem s.dimension + length rest
  pub same : read_points s stream_points settings_size bs []
      ≡ read_points s (stream_points - n) (settings_size + n * point_size_lem s.dimension) rest (take (n * s.dimension) cs)

pub begun : (s : tree.Settings) (bs : List ℕ) (cs : List Float) → 3 * stream_points ≤ length cs → Reading s bs bs cs 0
begun s bs cs r =
    record {
      few = omega arith;
      room = r;
      long = omega (arith, zero-mul (point_size_lem s.dimension));
      same = rw (zero-mul s.dimension, zero-mul (point_size_lem s.dimension));
    }

-- the product of a count and the dimension
pub spot : (n d : ℕ) → n < stream_points → d ≤ 3 → n * d + d ≤ 3 * stream_points
spot n d h g = omega (arith, suc-mul n d, mul-le-mul {n₁ = suc n} {m₁ = d} {n₂ = stream_points} {m₂ = 3} h g)

-- the place of a record
pub place_fits : (n d : ℕ) → n ≤ stream_points → d ≤ 3 → n * point_size_lem d ≤ 832
place_fits n d h g = omega (arith, mul-le-mul {n₁ = n} {m₁ = point_size_lem d} {n₂ = 32} {m₂ = 26} h (omega arith))

-- ---- of the record that comes next, `xs`, and what is left behind it
module _ {s : tree.Settings} {bs rest : List ℕ} {cs : List Float} {n : ℕ} (r : Reading s bs rest cs n) where
  abbrev size : ℕ
  size = point_size_lem s.dimension

  -- it is the first `size` bytes, or all where they are fewer
  module _ (xs next : List ℕ) (split : rest ≡ xs ++ next) (cut : length xs ≡ min size (length rest)) where
    front_is : xs ≡ take size rest
    front_is = sym (ap (take (length xs)) split ∙ take_at xs next (length xs) refl) ∙ ap (λ (k : ℕ). take k rest) cut ∙ take_min size rest

    left_is : next ≡ drop size rest
    left_is = sym (ap (drop (length xs)) split ∙ drop_at xs next (length xs) refl) ∙ ap (λ (k : ℕ). drop k rest) cut ∙ drop_min size rest

    whole_is : whole point_mark size xs ≡ whole point_mark size rest
    whole_is = ap (whole point_mark size) front_is ∙ whole_take size rest point_mark size (omega arith) (omega arith)

    module _ (some : 0 < length rest) where
      pub reading-cut : whole point_mark size xs ≡ false → (at : ℕ) → at ≡ settings_size + n * size → broken_at at ≡ read_points s stream_points settings_size bs []
      reading-cut e at place =
          ap broken_at place
          ∙ sym (r.same ∙ stream-cut s rest (take (n * s.dimension) cs) (stream_points - n) (settings_size + n * size) some (sym whole_is ∙ e))

      pub reading-full : whole point_mark size xs ≡ true → n ≡ stream_points → too_large ≡ read_points s stream_points settings_size bs []
      reading-full e f =
          let z : stream_points - n ≡ 0 = omega arith in
          sym (r.same ∙ ap (λ (k : ℕ). read_points s k (settings_size + n * size) rest (take (n * s.dimension) cs)) z
          ∙ stream-full s rest (take (n * s.dimension) cs) (settings_size + n * size) some (sym whole_is ∙ e))

      pub reading-more : s.dimension ≤ 3 → whole point_mark size xs ≡ true → (n ≡ stream_points → ⊥) → (ds : List Float)
          → ds ≡ put cs (n * s.dimension) (floats_at s.dimension mark_size xs) → length ds ≡ length cs → Reading s bs next ds (n + 1)
      reading-more flat e f ds p l =
          let d = s.dimension in
          let k = n * d in
          let at = settings_size + n * size in
          let x = floats_at d mark_size rest in
          let m : n < stream_points = omega (arith, r.few) in
          let z : stream_points - n ≡ suc (stream_points - (n + 1)) = omega arith in
          let t : (n + 1) * d ≡ k + length x = omega (arith, ap (λ (i : ℕ). i * d) (add-one n), suc-mul n d, length-coordinates d mark_size rest) in
          let y : floats_at d mark_size xs ≡ x = ap (floats_at d mark_size) front_is ∙ point-take size rest d (omega arith) in
          let c : take ((n + 1) * d) ds ≡ take k cs ++ x = rw (t, p, y) (take-put-end cs k x (omega (arith, spot n d m flat, r.room))) in
          let far : at + size ≡ settings_size + (n + 1) * size = omega (arith, ap (λ (i : ℕ). i * size) (add-one n), suc-mul n size) in
          record {
            few = omega arith;
            room = omega (arith, r.room);
            long = omega (
              arith,
              r.long,
              ap (λ (i : ℕ). i * size) (add-one n),
              suc-mul n size,
              ap length split,
              length-append xs next,
              cut,
              record-room point_mark size 0 rest (omega arith) (sym whole_is ∙ e),
            );
            same =
                r.same
                ∙ ap (λ (i : ℕ). read_points s i at rest (take k cs)) z
                ∙ stream-more s rest (take k cs) (stream_points - (n + 1)) at some (sym whole_is ∙ e)
                ∙ ap (λ (q : List ℕ). read_points s (stream_points - (n + 1)) (at + size) q (take k cs ++ x)) (sym left_is)
                ∙ ap (λ (i : ℕ). read_points s (stream_points - (n + 1)) i next (take k cs ++ x)) far
                ∙ ap (λ (q : List Float). read_points s (stream_points - (n + 1)) (settings_size + (n + 1) * size) next q) (sym c);
          }

  -- ---- and behind the last one
  module _ (none : length rest ≡ 0) where
    whole_records : length bs ≡ n * size
    whole_records = omega (arith, r.long, none)

    pub reading-counted : length bs / size ≡ n
    reading-counted = ap (λ (i : ℕ). i / size) whole_records ∙ mul-div_cancel n (omega arith)

    pub reading-done : job s (take (n * s.dimension) cs) ≡ read_points s stream_points settings_size bs []
    reading-done = sym (r.same ∙ stream_end s rest (take (n * s.dimension) cs) (stream_points - n) (settings_size + n * size) none)

-- ---- the points, and whether the neighbours are few enough
module _ (s : tree.Settings) (bs : List ℕ) (j : Job) (e : job_in bs ≡ held j) where
  pub held-broken : (r : refusals.Refusal) → broken r ≡ j → broken r ≡ job_in bs
  unfolding held
  held-broken r f = sym (e ∙ ap held (sym f))

  pub held-over : (cs : List Float) → job s cs ≡ j → stream_neighbours < s.neighbours → too_large ≡ job_in bs
  unfolding held
  held-over cs f h = sym (e ∙ ap held (sym f) ∙ rw (lt-ltb stream_neighbours s.neighbours h))

  pub held-within : (cs : List Float) → job s cs ≡ j → s.neighbours ≤ stream_neighbours → job s cs ≡ job_in bs
  unfolding held
  held-within cs f h = sym (e ∙ ap held (sym f) ∙ rw (le-ltb stream_neighbours s.neighbours h))
