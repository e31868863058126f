-- Whatever bytes stand in a field are the bytes of what is read from it: a number of k bytes, n numbers, n floats none of which is a
-- NaN, and a mark. Assumes nothing.
-- Holds: field-again, field-small, each_again, NoNan, numbers-again, float-again, floats-again, mark-again
use mathlib.Core.Path.{◌≡◌, refl, sym, ap, ap₂, subst, ◌∙◌}
use Prim.Native.Nat.{ℕ, zero, suc, ◌+◌, ◌*◌, ◌/◌, ◌%◌, ◌^◌, ◌≤◌, ◌<◌}
use native.Mathlib.Nat.{pow-zero, pow-succ', mul-zero, mul-suc, add-zero}
use native.Mathlib.Omega.{arith}
use mathlib.Core.Bool.{Bool, true, false, not}
use mathlib.Core.List.{List, [], ◌∷◌, ◌++◌, map, append_assoc}
use lib.ListN.{length, take, drop, length-drop, take-append-drop}
use lib.Seq.{drop-drop}
use lib.Dec.{T, eqb}
use lib.Ieee.{Float, binary64, to_bits, of_bits, is_nan}
use lib.Ieee.Bits.{to_bits-of_bits}
use borrow.Author.Tests.{eqb-true}
use Rattle.lists.specs.Lists.{from, joined}
use Rattle.lists.specs.Ascends.{All}
use Rattle.lists.proofs.Tests.{and-fst, and-snd}
use Rattle.lists.proofs.All.{all_drop, all-mem}
use Rattle.lists.proofs.Members.{mem-map}
use Rattle.lists.proofs.From.{mem-from}
use Rattle.formats.specs.Bytes.{Mark, mark_size, mark_bytes, marked_by, little, field, bytes_of, number_size, number_at, numbers_at, number_bytes, numbers_bytes, float_size, float_at, floats_at, float_bytes, floats_bytes}
use Rattle.stored_laws.specs.Writable.{IsByte}

-- ---- k bytes
little-again : (k : ℕ) (bs : List ℕ) → All IsByte bs → k ≤ length bs → bytes_of k (little k bs) ≡ take k bs
unfolding little bytes_of All
little-again zero bs h l = refl
little-again (suc k) [] h l = absurd (omega arith)
little-again (suc k) (b ∷ bs) h l =
    let m = little k bs in
    let low : (b + 256 * m) % 256 ≡ b = omega (arith, h.0) in
    let high : (b + 256 * m) / 256 ≡ m = omega (arith, h.0) in
    ap₂ (λ (x : ℕ) (n : ℕ). x ∷ bytes_of k n) low high ∙ ap (λ (l : List ℕ). b ∷ l) (little-again k bs h.1 (omega arith))

little-small : (k : ℕ) (bs : List ℕ) → All IsByte bs → little k bs < 256 ^ k
unfolding little All
little-small zero bs h = rw (pow-zero 256) (omega arith)
little-small (suc k) [] h = rw (pow-succ' 256 k) (omega (arith, little-small k [] h))
little-small (suc k) (b ∷ bs) h = rw (pow-succ' 256 k) (omega (arith, h.0, little-small k bs h.1))

module _ (bs : List ℕ) (bytes : All IsByte bs) where
  -- the field, and what stands after it
  pub field-again : (k at : ℕ) → at + k ≤ length bs → bytes_of k (field k at bs) ++ drop (at + k) bs ≡ drop at bs
  field-again k at h =
      ap₂ (λ (x y : List ℕ). x ++ y) (little-again k (drop at bs) (all_drop IsByte at bs bytes) (omega (arith, length-drop at bs))) (sym (drop-drop k at bs))
      ∙ take-append-drop k (drop at bs)

  pub field-small : (k at : ℕ) → field k at bs < 256 ^ k
  field-small k at = little-small k (drop at bs) (all_drop IsByte at bs bytes)

-- ---- records one after the other: record i stands at its place, and after it the next one
pub each_again : {A : Type 0} (write : A → List ℕ) (read : ℕ → A) (place : ℕ → ℕ) (bs : List ℕ) (i n : ℕ)
    → ((j : ℕ) → j < i + n → write (read j) ++ drop (place (suc j)) bs ≡ drop (place j) bs)
    → joined (map write (map read (from i n))) ++ drop (place (i + n)) bs ≡ drop (place i) bs
unfolding joined from
each_again write read place bs i zero one = ap (λ (k : ℕ). drop (place k) bs) (add-zero i)
each_again write read place bs i (suc n) one =
    append_assoc (write (read i)) (joined (map write (map read (from (suc i) n)))) (drop (place (i + suc n)) bs)
    ∙ ap (λ (l : List ℕ). write (read i) ++ l)
    (ap (λ (k : ℕ). joined (map write (map read (from (suc i) n))) ++ drop (place k) bs) along
    ∙ each_again write read place bs (suc i) n (λ j h. one j (omega (arith, along))))
    ∙ one i (omega arith)
  where
    along : i + suc n ≡ suc i + n
    along = omega arith

-- the same from the place `at` on, all of one size
even-again : {A : Type 0} (write : A → List ℕ) (read : ℕ → A) (size at n : ℕ) (bs : List ℕ)
    → ((j : ℕ) → j < n → write (read j) ++ drop (at + size * j + size) bs ≡ drop (at + size * j) bs)
    → joined (map write (map read (from 0 n))) ++ drop (at + size * n) bs ≡ drop at bs
even-again write read size at n bs one =
    let start : at + size * 0 ≡ at = omega (arith, mul-zero size) in
    let rest : 0 + n ≡ n = omega arith in
    ap (λ (k : ℕ). joined (map write (map read (from 0 n))) ++ drop (at + size * k) bs) (sym rest)
    ∙ each_again write read (λ j. at + size * j) bs 0 n
    (λ j h. ap (λ (k : ℕ). write (read j) ++ drop k bs) (next j) ∙ one j (omega arith))
    ∙ ap (λ (k : ℕ). drop k bs) start
  where
    next : (j : ℕ) → at + size * suc j ≡ at + size * j + size
    next j = omega (arith, mul-suc size j)

-- ---- numbers and floats
abbrev pub NoNan : Float → Type 0
NoNan x = is_nan x ≡ false

bits-again : (n : ℕ) → n < 256 ^ float_size → NoNan (of_bits binary64 n) → to_bits binary64 (of_bits binary64 n) ≡ n
bits-again n h known = to_bits-of_bits binary64 n h (subst (λ (b : Bool). T (not b)) (sym known) tt)

module _ (bs : List ℕ) (bytes : All IsByte bs) where
  pub numbers-again : (n at : ℕ) → at + number_size * n ≤ length bs → numbers_bytes (numbers_at n at bs) ++ drop (at + number_size * n) bs ≡ drop at bs
  unfolding numbers_bytes numbers_at
  numbers-again n at h =
      even-again number_bytes (λ i. number_at (at + number_size * i) bs) number_size at n bs
      (λ j l. field-again bs bytes number_size (at + number_size * j) (omega arith))

  pub float-again : (at : ℕ) → at + float_size ≤ length bs → NoNan (float_at at bs) → float_bytes (float_at at bs) ++ drop (at + float_size) bs ≡ drop at bs
  float-again at h known =
      ap (λ (v : ℕ). bytes_of float_size v ++ drop (at + float_size) bs) (bits-again (field float_size at bs) (field-small bs bytes float_size at) known)
      ∙ field-again bs bytes float_size at h

  pub floats-again : (n at : ℕ) → at + float_size * n ≤ length bs → All NoNan (floats_at n at bs) → floats_bytes (floats_at n at bs) ++ drop (at + float_size * n) bs ≡ drop at bs
  unfolding floats_bytes floats_at
  floats-again n at h clean =
      even-again float_bytes (λ i. float_at (at + float_size * i) bs) float_size at n bs
      (λ j l. float-again (at + float_size * j) (omega arith) (known j l))
    where
      known : (j : ℕ) → j < n → NoNan (float_at (at + float_size * j) bs)
      known j l = all-mem NoNan (map (λ i. float_at (at + float_size * i) bs) (from 0 n)) clean (float_at (at + float_size * j) bs) (mem-map (λ i. float_at (at + float_size * i) bs) (from 0 n) (mem-from 0 n (omega arith) (omega arith)))

-- ---- marks
pub mark-again : (m : Mark) (bs : List ℕ) → mark_size ≤ length bs → marked_by m bs ≡ true → mark_bytes m ++ drop mark_size bs ≡ bs
mark-again m [] h e = absurd (omega arith)
mark-again m (a ∷ []) h e = absurd (omega arith)
mark-again m (a ∷ b ∷ bs) h e =
    ap₂ (λ (x y : ℕ). x ∷ y ∷ bs) (sym (eqb-true a m.first (and-fst (eqb a m.first) (eqb b m.second) e))) (sym (eqb-true b m.second (and-snd (eqb a m.first) (eqb b m.second) e)))
