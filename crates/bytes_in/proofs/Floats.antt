-- Which bits are those of not-a-number, and which of a finite value. Assumes nothing.
-- Holds: nan-above, no_nan, the_nan, not-finite-above
use mathlib.Core.Path.{◌≡◌, refl, sym, ap, ◌∙◌, subst}
use mathlib.Core.Bool.{Bool, true, false, not, cond}
use Prim.Native.Nat.{ℕ, zero, suc, ◌+◌, ◌/◌, ◌%◌, ◌<◌}
use native.Mathlib.Omega.{arith}
use lib.Dec.{T, leb, ltb, eqb}
use lib.Ieee.{Float, nan, inf, fin, prec, hid, top, low, is_nan, nan_bits, of_fields, of_bits, odd, binary64}
use lib.Ieee.Bits.{nan_bits_above, nan_bits_is}
use lib.Ieee.Scale.{finite}
use borrow.Author.Tests.{le-leb, leb-true, eq-eqb, eqb-true}
use Rattle.lists.proofs.Tests.{same_test}

-- ---- not-a-number: above infinity's, the sign apart
pub nan-above : (b : ℕ) → ltb 0x7ff0_0000_0000_0000 (b % 0x8000_0000_0000_0000) ≡ is_nan (of_bits binary64 b)
nan-above b = sym (nan_bits_above binary64 b) ∙ nan_bits_is binary64 b

pub no_nan : (b : ℕ) (t : Bool) → t ≡ is_nan (of_bits binary64 b) → t ≡ false → T (not (nan_bits binary64 b))
no_nan b t e h = rw (nan_bits_is binary64 b, ← e, h) tt

is-nan : (x : Float) → is_nan x ≡ true → nan ≡ x
unfolding is_nan
is-nan nan e = refl
is-nan (inf s) e = absurd (subst T (sym e) tt)
is-nan (fin s m x) e = absurd (subst T (sym e) tt)

nan-bits : of_bits binary64 0x7ff8_0000_0000_0000 ≡ nan
unfolding of_bits
nan-bits = refl

pub the_nan : (b : ℕ) (t : Bool) → t ≡ is_nan (of_bits binary64 b) → t ≡ true → of_bits binary64 0x7ff8_0000_0000_0000 ≡ of_bits binary64 b
the_nan b t e h = nan-bits ∙ is-nan (of_bits binary64 b) (sym e ∙ h)

-- ---- finite: below infinity's
odd-finite : (d : ℕ) (s : Bool) (q k l : ℕ) → finite (odd d s q k l) ≡ true
unfolding odd
odd-finite d s zero k l = refl
odd-finite d s (suc q) k l = refl

fields-finite : (s : Bool) (x t : ℕ) → not (finite (of_fields binary64 s x t)) ≡ eqb x 2047
unfolding of_fields
fields-finite s zero t = ap not (odd-finite (prec binary64) s t 0 (low binary64))
fields-finite s (suc x) t = go _ (eqb (suc x) 2047) (eqb t 0) (odd-finite (prec binary64) s (hid binary64 + t) x (low binary64))
  where
    go : (v : Float) (a b : Bool) → finite v ≡ true → not (finite (cond a (cond b (inf s) nan) v)) ≡ a
    go v true true h = refl
    go v true false h = refl
    go v false b h = ap not h

top_field : (r : ℕ) → r < 0x8000_0000_0000_0000 → leb 0x7ff0_0000_0000_0000 r ≡ eqb (r / 0x10_0000_0000_0000) 2047
top_field r h =
    same_test (leb 0x7ff0_0000_0000_0000 r) (eqb (r / 0x10_0000_0000_0000) 2047)
    (λ e. eq-eqb (r / 0x10_0000_0000_0000) 2047 (omega (arith, leb-true 0x7ff0_0000_0000_0000 r e)))
    (λ e. le-leb 0x7ff0_0000_0000_0000 r (omega (arith, eqb-true (r / 0x10_0000_0000_0000) 2047 e)))

pub not-finite-above : (b : ℕ) → leb 0x7ff0_0000_0000_0000 (b % 0x8000_0000_0000_0000) ≡ not (finite (of_bits binary64 b))
unfolding of_bits
not-finite-above b =
    top_field (b % 0x8000_0000_0000_0000) (omega arith)
    ∙ sym (fields-finite (leb (top binary64) b) (b % top binary64 / hid binary64) (b % hid binary64))
