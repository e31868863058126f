-- Numbers and floats side by side in bytes: how many they are, which stands where, and that they are the same from a
-- place on; and a part of a list that was lent and comes back with them. Assumes nothing.
-- Holds: length-numbers-at, length-floats-at, number-which, numbers-here, floats-here, lent_many, numbers-back, floats-back
use mathlib.Core.Path.{◌≡◌, sym, ap, ◌∙◌}
use Prim.Native.Nat.{ℕ, ◌+◌, ◌-◌, ◌*◌, ◌≤◌, ◌<◌}
use native.Mathlib.Nat.{add_assoc}
use mathlib.Core.List.{List}
use lib.ListN.{length, get_or, take, drop}
use lib.Seq.{drop-drop}
use lib.Ieee.{Float, binary64, of_bits}
use borrow.Rule.Slice.PartMut.{put_mid}
use Rattle.lists.specs.Lists.{put}
use Rattle.lists.proofs.Put.{part-lent, part-back, length_part}
use Rattle.lists.proofs.From.{length-map-from, get_d-map-below, map-below-same}
use Rattle.formats.specs.Bytes.{little, number_size, number_at, numbers_at, float_size, float_at, floats_at}

pub length-numbers-at : (n at : ℕ) (bs : List ℕ) → length (numbers_at n at bs) ≡ n
unfolding numbers_at
length-numbers-at n at bs = length-map-from (λ i. number_at (at + number_size * i) bs) 0 n

pub length-floats-at : (n at : ℕ) (bs : List ℕ) → length (floats_at n at bs) ≡ n
unfolding floats_at
length-floats-at n at bs = length-map-from (λ i. float_at (at + float_size * i) bs) 0 n

pub number-which : (n at : ℕ) (bs : List ℕ) (i : ℕ) → i < n → number_at (at + number_size * i) bs ≡ get_or (numbers_at n at bs) i 0
unfolding numbers_at
number-which n at bs i h = sym (get_d-map-below (λ k. number_at (at + number_size * k) bs) n i 0 h)

-- ---- from a place of the bytes on
module _ (at : ℕ) (bs : List ℕ) where
  -- the place of field i, with w bytes each
  place : (w k i : ℕ) → drop (at + k + w * i) bs ≡ drop (k + w * i) (drop at bs)
  place w k i = ap (λ (j : ℕ). drop j bs) (add_assoc at k (w * i)) ∙ sym (drop-drop (k + w * i) at bs)

  pub numbers-here : (n k : ℕ) → numbers_at n (at + k) bs ≡ numbers_at n k (drop at bs)
  unfolding numbers_at
  numbers-here n k =
      map-below-same (λ i. number_at (at + k + number_size * i) bs) (λ i. number_at (k + number_size * i) (drop at bs)) n
      (λ i h. ap (little number_size) (place number_size k i))

  pub floats-here : (n k : ℕ) → floats_at n (at + k) bs ≡ floats_at n k (drop at bs)
  unfolding floats_at
  floats-here n k =
      map-below-same (λ i. float_at (at + k + float_size * i) bs) (λ i. float_at (k + float_size * i) (drop at bs)) n
      (λ i h. ap (λ (l : List ℕ). of_bits binary64 (little float_size l)) (place float_size k i))

-- ---- read into a part of a list that was lent, `&mut l[k..k + n]`
module _ {A : Type 0} (l : List A) (k n : ℕ) (room : k + n ≤ length l) where
  pub lent_many : length (take (k + n - k) (drop k l)) ≡ n
  lent_many = ap length (part-lent l k n) ∙ length_part l k n room

  fields-back : (f : ℕ → List A) → length (f n) ≡ n → {ys : List A} → ys ≡ f (length (take (k + n - k) (drop k l))) → put_mid k (k + n - k) l ys ≡ put l k (f n)
  fields-back f m {ys} e =
      let h : ys ≡ f n = e ∙ ap f lent_many in
      part-back l k n ys (ap length h ∙ m) ∙ ap (put l k) h

module _ (k n at : ℕ) (bs : List ℕ) where
  pub numbers-back : (l : List ℕ) → k + n ≤ length l → {ys : List ℕ} → ys ≡ numbers_at (length (take (k + n - k) (drop k l))) at bs
      → put_mid k (k + n - k) l ys ≡ put l k (numbers_at n at bs)
  numbers-back l room e = fields-back l k n room (λ i. numbers_at i at bs) (length-numbers-at n at bs) e

  pub floats-back : (l : List Float) → k + n ≤ length l → {ys : List Float} → ys ≡ floats_at (length (take (k + n - k) (drop k l))) at bs
      → put_mid k (k + n - k) l ys ≡ put l k (floats_at n at bs)
  floats-back l room e = fields-back l k n room (λ i. floats_at i at bs) (length-floats-at n at bs) e
