-- What is written reads back: a number that fits its bytes, and a float. Assumes nothing.
use mathlib.Core.Path.{◌≡◌, ap, ◌∙◌}
use Prim.Native.Nat.{ℕ, zero, suc, ◌+◌, ◌*◌, ◌/◌, ◌%◌, ◌^◌, ◌≤◌, ◌<◌}
use native.Mathlib.Nat.{pow-zero, pow-succ'}
use native.Mathlib.Omega.{arith}
use mathlib.Core.List.{List, ◌++◌}
use lib.ListN.{length}
use lib.Dec.{T}
use lib.Ieee.{Float, binary64, to_bits, of_bits, fits}
use lib.Ieee.Bits.{of_bits-to_bits, to_bits-lt}
use Rattle.lists.specs.Lists.{put}
use Rattle.lists.proofs.Put.{drop-put}
use Rattle.formats.specs.Bytes.{little, field, bytes_of, float_at, float_bytes, float_size}

-- k bytes of a number that fits them, whatever stands after them
pub little-back : (k n : ℕ) (rest : List ℕ) → n < 256 ^ k → little k (bytes_of k n ++ rest) ≡ n
unfolding little bytes_of
little-back zero n rest h = omega (arith, rw (pow-zero 256) at h)
little-back (suc k) n rest h =
    let g : n / 256 < 256 ^ k = omega (arith, rw (pow-succ' 256 k) at h) in
    ap (λ (x : ℕ). n % 256 + 256 * x) (little-back k (n / 256) rest g) ∙ omega arith

module _ (old : List ℕ) (at : ℕ) where
  pub number-back : (k n : ℕ) → n < 256 ^ k → at ≤ length old → field k at (put old at (bytes_of k n)) ≡ n
  number-back k n h g = ap (little k) (drop-put old at (bytes_of k n) g) ∙ little-back k n _ h

  pub float_back : (x : Float) → T (fits binary64 x) → at ≤ length old → float_at at (put old at (float_bytes x)) ≡ x
  float_back x h g = ap (of_bits binary64) (number-back float_size (to_bits binary64 x) (to_bits-lt binary64 x h) g) ∙ of_bits-to_bits binary64 x h
