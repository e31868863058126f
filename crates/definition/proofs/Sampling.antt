-- Sampling takes as many rows as wanted, of the rows that it is given, none twice. Assumes nothing.
-- Holds: nearest_in, farthest-in, more-length, sample-length, sent-length, seed-own, pick-new, more-own, sample-own, sent-own
use mathlib.Core.Path.{◌≡◌, refl, ap}
use mathlib.Core.Bool.{not}
use mathlib.Core.List.{List, [], ◌∷◌, ◌++◌, map}
use Prim.Native.Nat.{ℕ, zero, suc, ◌+◌, ◌-◌, ◌≤◌, ◌<◌}
use native.Mathlib.Omega.{arith}
use native.Mathlib.Decide.{dec_lt}
use lib.ListN.{length, length-append}
use lib.Ieee.{Float, lt}
use Rattle.lists.specs.Lists.{keep, member}
use Rattle.lists.specs.Ascends.{All}
use Rattle.lists.proofs.All.{all_map}
use Rattle.lists.proofs.Best.{best-in}
use Rattle.lists.specs.Times.{times, Once}
use Rattle.lists.proofs.Times.{times-nil, from-times, member-some, times-keep-le, times-keep-out, others-count, times_more}
use Rattle.definition.specs.Keys.{Key, keyed, nearest_row, farthest_row}
use Rattle.definition.specs.Sampling.{gap, pick, sample_more, sample, from_centroid, seed_of, sent_by}
use Rattle.definition.proofs.Halves.{key_of}

-- ---- the row of the least, or of the greatest, value is one of the rows
pub nearest_in : (P : ℕ → Type 0) (v : ℕ → Float) (rows : List ℕ) → 0 < length rows → All P rows → P (nearest_row (keyed v rows))
unfolding nearest_row keyed All
nearest_in P v [] l h = absurd (omega arith)
nearest_in P v (x ∷ xs) l h =
    best-in (λ (q r : Key). lt q.value r.value) (λ p. P p.row) (key_of v x) (map (key_of v) xs) h.0 (all_map (λ (p : Key). P p.row) (key_of v) xs h.1)

pub farthest-in : (P : ℕ → Type 0) (v : ℕ → Float) (rows : List ℕ) → 0 < length rows → All P rows → P (farthest_row (keyed v rows))
unfolding farthest_row keyed All
farthest-in P v [] l h = absurd (omega arith)
farthest-in P v (x ∷ xs) l h =
    best-in (λ (q r : Key). lt r.value q.value) (λ p. P p.row) (key_of v x) (map (key_of v) xs) h.0 (all_map (λ (p : Key). P p.row) (key_of v) xs h.1)

module _ (d : ℕ) (cs : List Float) (rows : List ℕ) where
  -- ---- as many rows as wanted
  pub more-length : (more : ℕ) (chosen : List ℕ) → length (sample_more d cs rows more chosen) ≡ length chosen + more
  unfolding sample_more
  more-length zero chosen = omega arith
  more-length (suc more) chosen =
      omega (arith, more-length more (chosen ++ pick d cs rows chosen ∷ []), length-append chosen (pick d cs rows chosen ∷ []))

  pub sample-length : (wanted seed : ℕ) → 1 ≤ wanted → length (sample d cs rows wanted seed) ≡ wanted
  unfolding sample
  sample-length wanted seed h = omega (arith, more-length (wanted - 1) (seed ∷ []))

  pub sent-length : (quota : ℕ) → length (sent_by d cs rows quota) ≡ quota
  unfolding sent_by
  sent-length zero = refl
  sent-length (suc more) = sample-length (suc more) (seed_of d cs rows) (omega arith)

  -- the seed of a leaf is one of its rows
  pub seed-own : 0 < length rows → 0 < times (seed_of d cs rows) rows
  unfolding seed_of
  seed-own l = nearest_in (λ i. 0 < times i rows) (from_centroid d cs rows) rows l (from-times (λ i. 0 < times i rows) rows (λ r m. m))

  -- ---- of rows without repeats
  module _ (once : Once rows) where
    -- a pick is a row that is not chosen yet
    pub pick-new : (chosen : List ℕ) → ((r : ℕ) → times r chosen ≤ times r rows) → length chosen < length rows
        → (0 < times (pick d cs rows chosen) rows) × (times (pick d cs rows chosen) chosen ≡ 0)
    unfolding pick
    pick-new chosen own l =
        farthest-in (λ i. (0 < times i rows) × (times i chosen ≡ 0)) (gap d cs chosen) free
        (omega (arith, others-count rows once chosen own))
        (from-times (λ i. (0 < times i rows) × (times i chosen ≡ 0)) free (λ r m. (omega (arith, times-keep-le (λ i. not (member i chosen)) rows r), fresh r m)))
      where
        free : List ℕ
        free = keep (λ i. not (member i chosen)) rows

        fresh : (r : ℕ) → 0 < times r free → times r chosen ≡ 0
        fresh r m = elim (dec_lt 0 (times r chosen)) [
          | yes k ↦ absurd (omega (arith, times-keep-out (λ i. not (member i chosen)) rows r (ap not (member-some r chosen k))))
          | no k ↦ omega arith
        ]

    -- what is taken are given rows, each at most once
    pub more-own : (more : ℕ) (chosen : List ℕ) → ((r : ℕ) → times r chosen ≤ times r rows) → length chosen + more ≤ length rows
        → (r : ℕ) → times r (sample_more d cs rows more chosen) ≤ times r rows
    unfolding sample_more
    more-own zero chosen own l = own
    more-own (suc more) chosen own l =
        let p = pick-new chosen own (omega arith) in
        more-own more (chosen ++ pick d cs rows chosen ∷ []) (times_more rows chosen (pick d cs rows chosen) own p.0 p.1)
        (omega (arith, length-append chosen (pick d cs rows chosen ∷ [])))

    pub sample-own : (wanted seed : ℕ) → 1 ≤ wanted → wanted ≤ length rows → 0 < times seed rows → (r : ℕ) → times r (sample d cs rows wanted seed) ≤ times r rows
    unfolding sample
    sample-own wanted seed h l m =
        more-own (wanted - 1) (seed ∷ []) (times_more rows [] seed (λ r. omega (arith, times-nil r)) m (times-nil seed)) (omega arith)

    -- what a leaf sends up are its own rows, each at most once
    pub sent-own : (quota : ℕ) → quota ≤ length rows → (r : ℕ) → times r (sent_by d cs rows quota) ≤ times r rows
    unfolding sent_by
    sent-own zero l r = omega (arith, times-nil r)
    sent-own (suc more) l r = sample-own (suc more) (seed_of d cs rows) (omega arith) l (seed-own (omega arith)) r
