-- A bit of a number that is 0 becomes 1 by adding its power, one that is 1 becomes 0 by taking it away, and the other bits stay. Assumes nothing.
-- Holds: rest_lt, added, bit-set, bit-higher, bit-lower, other-bit, bit-there, bit-cleared, other-cleared, or-adds, and-takes,
--   and-keeps
use mathlib.Core.Path.{◌≡◌, sym, ap, ap₂, subst, ◌∙◌}
use Prim.Native.Nat.{ℕ, suc, ◌+◌, ◌-◌, ◌*◌, ◌/◌, ◌%◌, ◌^◌, ◌≤◌, ◌<◌}
use native.Mathlib.Nat.{pow-succ', mul_comm, add-mul, zero-mul, one-mul, mul-le-mul_right, mod-lt}
use native.Mathlib.Omega.{arith}
use mathlib.Core.Logic.{⊎_elim}
use lib.Dec.{lit<}
use lib.Pow.{pow_pos, pow-add, pow-lt, split, high, shr-shr, shl_exact}
use lib.Bits.{bit_and}
use Rattle.std.specs.Int.RustNames.{bit_or}
use Rattle.std.proofs.lemmas.Nat.{and_comm, and-not, or_disjoint}
use Rattle.std.proofs.lemmas.Nat.Bits.{and_pow}
use Rattle.lists.proofs.Tests.{le-or-lt}

-- the bits below k
pub rest_lt : (w k : ℕ) → w % 2 ^ k < 2 ^ k
rest_lt w k = mod-lt w (pow_pos k)

-- a times 2 ^ k, added above the bits below k
pub added : (w k a : ℕ) → (w + a * 2 ^ k) / 2 ^ k ≡ w / 2 ^ k + a
added w k a =
    let e : w + a * 2 ^ k ≡ (w / 2 ^ k + a) * 2 ^ k + w % 2 ^ k = omega (arith, split w k, add-mul (w / 2 ^ k) a (2 ^ k)) in
    ap (λ (x : ℕ). x / 2 ^ k) e ∙ high (w / 2 ^ k + a) k (rest_lt w k)

module _ (w k : ℕ) (clear : w / 2 ^ k % 2 ≡ 0) where
  one_up : (w + 2 ^ k) / 2 ^ k ≡ w / 2 ^ k + 1
  one_up = ap (λ (x : ℕ). (w + x) / 2 ^ k) (sym (one-mul (2 ^ k))) ∙ added w k 1

  pub bit-set : (w + 2 ^ k) / 2 ^ k % 2 ≡ 1
  bit-set = ap (λ (x : ℕ). x % 2) one_up ∙ omega (arith, clear)

  halved : (w / 2 ^ k + 1) / 2 ^ 1 ≡ w / 2 ^ k / 2 ^ 1
  halved = omega (arith, clear)

  pub bit-higher : (i : ℕ) → (w + 2 ^ k) / 2 ^ (k + (1 + i)) ≡ w / 2 ^ (k + (1 + i))
  bit-higher i =
      sym (shr-shr (w + 2 ^ k) k (1 + i)) ∙ ap (λ (x : ℕ). x / 2 ^ (1 + i)) one_up ∙ sym (shr-shr (w / 2 ^ k + 1) 1 i)
      ∙ ap (λ (x : ℕ). x / 2 ^ i) halved ∙ shr-shr (w / 2 ^ k) 1 i ∙ shr-shr w k (1 + i)

pub bit-lower : (w j i : ℕ) → (w + 2 ^ (j + suc i)) / 2 ^ j % 2 ≡ w / 2 ^ j % 2
bit-lower w j i =
    let e : 2 ^ (j + suc i) ≡ 2 ^ suc i * 2 ^ j = pow-add 2 j (suc i) ∙ mul_comm (2 ^ j) (2 ^ suc i) in
    ap (λ (x : ℕ). (w + x) / 2 ^ j % 2) e ∙ ap (λ (x : ℕ). x % 2) (added w j (2 ^ suc i)) ∙ omega (arith, pow-succ' 2 i)

-- ---- two bits of a word
pub other-bit : (w k j : ℕ) → w / 2 ^ k % 2 ≡ 0 → (j ≡ k → ⊥) → (w + 2 ^ k) / 2 ^ j % 2 ≡ w / 2 ^ j % 2
other-bit w k j clear h = ⊎_elim (λ l. above (apart l)) below (le-or-lt k j)
  where
    apart : k ≤ j → k < j
    apart l = ⊎_elim (λ (m : j ≤ k). absurd (h (omega arith))) (λ m. m) (le-or-lt j k)

    below : j < k → (w + 2 ^ k) / 2 ^ j % 2 ≡ w / 2 ^ j % 2
    below l =
        let e : j + suc (k - j - 1) ≡ k = omega arith in
        subst (λ (x : ℕ). (w + 2 ^ x) / 2 ^ j % 2 ≡ w / 2 ^ j % 2) e (bit-lower w j (k - j - 1))

    above : k < j → (w + 2 ^ k) / 2 ^ j % 2 ≡ w / 2 ^ j % 2
    above l =
        let e : k + (1 + (j - k - 1)) ≡ j = omega arith in
        subst (λ (x : ℕ). (w + 2 ^ k) / 2 ^ x % 2 ≡ w / 2 ^ x % 2) e (ap (λ (x : ℕ). x % 2) (bit-higher w k clear (j - k - 1)))

-- a bit that is set has its power in the word
pub bit-there : (w k : ℕ) → w / 2 ^ k % 2 ≡ 1 → 2 ^ k ≤ w
bit-there w k b =
    let some : 1 ≤ w / 2 ^ k = omega (arith, b) in
    omega (arith, split w k, mul-le-mul_right (2 ^ k) some, one-mul (2 ^ k))

-- and is taken away with it
module _ (w k : ℕ) (there : w / 2 ^ k % 2 ≡ 1) where
  restored : w - 2 ^ k + 2 ^ k ≡ w
  restored = omega (arith, bit-there w k there)

  pub bit-cleared : (w - 2 ^ k) / 2 ^ k % 2 ≡ 0
  bit-cleared =
      let e : w / 2 ^ k ≡ (w - 2 ^ k) / 2 ^ k + 1 = ap (λ (x : ℕ). x / 2 ^ k) (sym restored ∙ ap (λ (x : ℕ). w - 2 ^ k + x) (sym (one-mul (2 ^ k)))) ∙ added (w - 2 ^ k) k 1 in
      omega (arith, there, e)

  pub other-cleared : (j : ℕ) → (j ≡ k → ⊥) → (w - 2 ^ k) / 2 ^ j % 2 ≡ w / 2 ^ j % 2
  other-cleared j h = sym (other-bit (w - 2 ^ k) k j bit-cleared h) ∙ ap (λ (x : ℕ). x / 2 ^ j % 2) restored

-- ---- words of 64 bits

-- `1 << k` is 2 ^ k
one_shl : (k : ℕ) → k < 64 → (1 * 2 ^ k) % 2 ^ 64 ≡ 2 ^ k
one_shl k h = shl_exact {a = 1} 1 k 64 (lit< tt) (omega arith) ∙ one-mul (2 ^ k)

-- `x | 1 << k` adds the power of a bit that is 0
pub or-adds : (x k : ℕ) → k < 64 → x / 2 ^ k % 2 ≡ 0 → bit_or x (1 * 2 ^ k % 2 ^ 64) ≡ x + 2 ^ k
or-adds x k h clear = ap (λ (y : ℕ). bit_or x y) (one_shl k h) ∙ or_disjoint x (2 ^ k) (and_pow x k ∙ ap (λ (b : ℕ). b * 2 ^ k) clear ∙ zero-mul (2 ^ k))

-- `x & !(1 << k)` is what is left of x without bit k
and-rest : (x k : ℕ) → k < 64 → x < 2 ^ 64 → bit_and x (2 ^ 64 - 1 - 1 * 2 ^ k % 2 ^ 64) + x / 2 ^ k % 2 * 2 ^ k ≡ x
and-rest x k h g =
    let own : bit_and (2 ^ k) x ≡ x / 2 ^ k % 2 * 2 ^ k = and_comm (2 ^ k) x ∙ and_pow x k in
    let rest : bit_and (2 ^ 64 - 1 - 2 ^ k) x + bit_and (2 ^ k) x ≡ x = and-not 64 (2 ^ k) x (pow-lt h) g in
    let same : bit_and x (2 ^ 64 - 1 - 1 * 2 ^ k % 2 ^ 64) ≡ bit_and (2 ^ 64 - 1 - 2 ^ k) x =
    ap (λ (y : ℕ). bit_and x (2 ^ 64 - 1 - y)) (one_shl k h) ∙ and_comm x (2 ^ 64 - 1 - 2 ^ k) in
    ap₂ (λ (a b : ℕ). a + b) same (sym own) ∙ rest

-- it takes the power of a bit that is 1 away, and leaves x as it is where the bit is 0
pub and-takes : (x k : ℕ) → k < 64 → x < 2 ^ 64 → x / 2 ^ k % 2 ≡ 1 → bit_and x (2 ^ 64 - 1 - 1 * 2 ^ k % 2 ^ 64) ≡ x - 2 ^ k
and-takes x k h g there = omega (arith, and-rest x k h g, ap (λ (b : ℕ). b * 2 ^ k) there, one-mul (2 ^ k))

pub and-keeps : (x k : ℕ) → k < 64 → x < 2 ^ 64 → x / 2 ^ k % 2 ≡ 0 → bit_and x (2 ^ 64 - 1 - 1 * 2 ^ k % 2 ^ 64) ≡ x
and-keeps x k h g none = omega (arith, and-rest x k h g, ap (λ (b : ℕ). b * 2 ^ k) none, zero-mul (2 ^ k))
