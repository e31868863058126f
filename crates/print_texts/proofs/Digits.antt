-- The digits of a number: each text is that of the number without its last digit_of_lem, and the last digit_of_lem. Assumes nothing.
-- Holds: hex-onto, hex-none, hex-step, one-digit, more-digits, same-fuel, decimal-onto, decimal-one, decimal_step, bits_text,
--   bits-text
use mathlib.Core.Path.{◌≡◌, refl, sym, ap, ap₂, ◌∙◌}
use Prim.Native.Nat.{ℕ, zero, suc, ◌/◌, ◌%◌, ◌^◌, ◌-◌, ◌≤◌, ◌<◌}
use native.Mathlib.Nat.{mod-eq_of_lt, pow-succ'}
use native.Mathlib.Decide.{dec_lt}
use native.Mathlib.Omega.{arith}
use mathlib.Core.List.{List, [], ◌∷◌, ◌++◌, append_assoc}
use borrow.Author.Tests.{lt-ltb, le-ltb}
use lib.Ieee.{Float, to_bits, binary64}
use Rattle.formats.specs.Printout.{digit_of_lem, decimal, decimal_onto, hex_onto}

pub hex-onto : (k n : ℕ) (after : List ℕ) → hex_onto k n after ≡ hex_onto k n [] ++ after
unfolding hex_onto
hex-onto zero n after = refl
hex-onto (suc k) n after =
    let last = digit_of_lem (n % 16) in
    hex-onto k (n / 16) (last ∷ after)
    ∙ sym (ap (λ (l : List ℕ). l ++ after) (hex-onto k (n / 16) (last ∷ [])) ∙ append_assoc (hex_onto k (n / 16) []) (last ∷ []) after)

pub hex-none : (k n : ℕ) → k ≡ 0 → hex_onto k n [] ≡ []
unfolding hex_onto
hex-none k n e = rw e

hex-suc : (k n : ℕ) → hex_onto (suc k) n [] ≡ hex_onto k (n / 16) [] ++ digit_of_lem (n % 16) ∷ []
unfolding hex_onto
hex-suc k n = hex-onto k (n / 16) (digit_of_lem (n % 16) ∷ [])

pub hex-step : (k n d : ℕ) → (k ≡ 0 → ⊥) → d ≡ digit_of_lem (n % 16) → hex_onto k n [] ≡ hex_onto (k - 1) (n / 16) [] ++ d ∷ []
hex-step zero n d h e = absurd (h refl)
hex-step (suc k) n d h e =
    hex-suc k n ∙ ap₂ (λ (i : ℕ) (x : ℕ). hex_onto i (n / 16) [] ++ x ∷ []) (suc-sub-one-eq k) (sym e)
  where
    suc-sub-one-eq : (k : ℕ) → k ≡ suc k - 1
    suc-sub-one-eq k = omega arith

pub one-digit : (k n : ℕ) (after : List ℕ) → n < 10 → decimal_onto k n after ≡ digit_of_lem (n % 10) ∷ after
unfolding decimal_onto
one-digit zero n after h = refl
one-digit (suc k) n after h = rw (mod-eq_of_lt h, lt-ltb n 10 h)

pub more-digits : (k n : ℕ) (after : List ℕ) → 10 ≤ n → decimal_onto (suc k) n after ≡ decimal_onto k (n / 10) (digit_of_lem (n % 10) ∷ after)
unfolding decimal_onto
more-digits k n after h = rw (le-ltb n 10 h)

-- one more turn changes nothing where the number has few enough digits
pub same-fuel : (k n : ℕ) (after : List ℕ) → n < 10 ^ suc k → decimal_onto (suc k) n after ≡ decimal_onto k n after
same-fuel zero n after h = one-digit 1 n after h ∙ sym (one-digit 0 n after h)
same-fuel (suc k) n after h = go (dec_lt n 10) (same-fuel k (n / 10) (digit_of_lem (n % 10) ∷ after))
  where
    go : Dec (n < 10) → (n / 10 < 10 ^ suc k → decimal_onto (suc k) (n / 10) (digit_of_lem (n % 10) ∷ after) ≡ decimal_onto k (n / 10) (digit_of_lem (n % 10) ∷ after))
        → decimal_onto (suc (suc k)) n after ≡ decimal_onto (suc k) n after
    go (yes g) less = one-digit (suc (suc k)) n after g ∙ sym (one-digit (suc k) n after g)
    go (no g) less =
        more-digits (suc k) n after (omega arith) ∙ less (omega (arith, rw (pow-succ' 10 (suc k)) at h)) ∙ sym (more-digits k n after (omega arith))

pub decimal-onto : (k n : ℕ) (after : List ℕ) → decimal_onto k n after ≡ decimal_onto k n [] ++ after
unfolding decimal_onto
decimal-onto zero n after = refl
decimal-onto (suc k) n after = go (dec_lt n 10) (decimal-onto k (n / 10))
  where
    go : Dec (n < 10) → ((l : List ℕ) → decimal_onto k (n / 10) l ≡ decimal_onto k (n / 10) [] ++ l)
        → decimal_onto (suc k) n after ≡ decimal_onto (suc k) n [] ++ after
    go (yes g) less = one-digit (suc k) n after g ∙ ap (λ (l : List ℕ). l ++ after) (sym (one-digit (suc k) n [] g))
    go (no g) less =
        let last = digit_of_lem (n % 10) in
        more-digits k n after (omega arith)
        ∙ less (last ∷ after)
        ∙ sym (append_assoc (decimal_onto k (n / 10) []) (last ∷ []) after)
        ∙ ap (λ (l : List ℕ). l ++ after) (sym (less (last ∷ [])) ∙ sym (more-digits k n [] (omega arith)))

-- the text of a number below 10, and of one from 10 on; d is the last digit_of_lem, as the code has it
pub decimal-one : (n d : ℕ) → n < 10 → d ≡ digit_of_lem (n % 10) → decimal n ≡ d ∷ []
unfolding decimal
decimal-one n d h e = one-digit 19 n [] h ∙ ap (λ (x : ℕ). x ∷ []) (sym e)

pub decimal_step : (n d : ℕ) → 10 ≤ n → n < 2 ^ 64 → d ≡ digit_of_lem (n % 10) → decimal n ≡ decimal (n / 10) ++ d ∷ []
unfolding decimal
decimal_step n d h g e =
    more-digits 18 n [] h
    ∙ sym (same-fuel 18 (n / 10) (digit_of_lem (n % 10) ∷ []) (omega arith))
    ∙ decimal-onto 19 (n / 10) (digit_of_lem (n % 10) ∷ [])
    ∙ ap (λ (x : ℕ). decimal_onto 19 (n / 10) [] ++ x ∷ []) (sym e)

-- the bits of a float, as 16 digits
abbrev pub bits_text : Float → List ℕ
bits_text x = hex_onto 16 (to_bits binary64 x) []

pub bits-text : (x : Float) (b : ℕ) → b ≡ to_bits binary64 x → bits_text x ≡ hex_onto 16 b []
bits-text x b e = rw e
