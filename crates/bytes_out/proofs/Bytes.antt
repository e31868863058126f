-- The bytes of a number, a float and a mark: how many, and as the library has them. Assumes nothing.
-- Holds: length-bytes, le-bytes, number-spelt, float-spelt, mark-spelt
use mathlib.Core.Path.{◌≡◌, refl, ap, ap₂, ◌∙◌}
use Prim.Native.Nat.{ℕ, zero, suc, ◌/◌, ◌%◌, ◌^◌}
use native.Mathlib.Nat.{pow-zero, pow-succ', mul_comm, div-one, div-div-eq-div-mul}
use native.Mathlib.Omega.{arith}
use mathlib.Core.List.{List, [], ◌∷◌}
use lib.ListN.{length, take}
use lib.Ieee.{Float, to_bits, binary64}
use Rattle.std.specs.Int.{w64, byte_at, bytes_low_first, to_le_bytes}
use Rattle.formats.specs.Bytes.{bytes_of, number_bytes, float_bytes, mark_bytes}
use Rattle.bytes_in.specs.Marks.{mark_read}

pub length-bytes : (k n : ℕ) → length (bytes_of k n) ≡ k
unfolding bytes_of
length-bytes zero n = refl
length-bytes (suc k) n = ap suc (length-bytes k _)

-- the library's bytes of a number are these
low-first : (i k n : ℕ) → bytes_low_first i k n ≡ bytes_of k (n / 256 ^ i)
unfolding bytes_of
low-first i zero n = refl
low-first i (suc k) n = ap₂ (λ (x : ℕ) (xs : List ℕ). x ∷ xs) (here i) (low-first (suc i) k n ∙ ap (bytes_of k) (further i))
  where
    here : (i : ℕ) → byte_at i n ≡ n / 256 ^ i % 256
    here zero = rw (pow-zero, div-one)
    here (suc i) = refl

    further : (i : ℕ) → n / 256 ^ suc i ≡ n / 256 ^ i / 256
    further i = rw (pow-succ', mul_comm, div-div-eq-div-mul)

pub le-bytes : (k n : ℕ) → bytes_low_first 0 k n ≡ bytes_of k n
le-bytes k n = low-first 0 k n ∙ ap (bytes_of k) (rw (pow-zero, div-one))

pub number-spelt : (n : ℕ) (ys : List ℕ) → ys ≡ to_le_bytes w64 n → take 4 ys ≡ number_bytes n
number-spelt n ys e = ap (take 4) e ∙ le-bytes 4 n

pub float-spelt : (x : Float) (b : ℕ) (ys : List ℕ) → b ≡ to_bits binary64 x → ys ≡ to_le_bytes w64 b → ys ≡ float_bytes x
float-spelt x b ys h e = e ∙ le-bytes 8 b ∙ ap (bytes_of 8) h

pub mark-spelt : (mark : List ℕ) → length mark ≡ 2 → mark ≡ mark_bytes (mark_read mark)
mark-spelt [] e = absurd (omega (arith, e))
mark-spelt (a ∷ []) e = absurd (omega (arith, e))
mark-spelt (a ∷ b ∷ []) e = refl
mark-spelt (a ∷ b ∷ c ∷ rest) e = absurd (omega (arith, e))
