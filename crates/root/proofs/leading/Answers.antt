-- `root::leading` meets its contract. Assumes nothing.
use mathlib.Core.Path.{◌≡◌, sym, subst}
use Prim.Native.Nat.{ℕ, ◌-◌, ◌/◌, ◌%◌, ◌^◌, ◌<◌}
use native.Mathlib.Nat.{mod-lt}
use native.Mathlib.Omega.{arith}
use lib.Bits.{bit_and, and_mask}
use lib.Count.{count_leading_zeros}
use lib.Pow.{pow_pos}
use Rattle.root_laws.proofs.Digits.{Short, short, small-field, lead-small, lead-large}
use Rattle.root.proofs.leading.Goals as goal

abbrev digits : ℕ → ℕ
digits b = bit_and b 0x000f_ffff_ffff_ffff

is : (b : ℕ) → digits b ≡ b % 2 ^ 52
is b = and_mask b 52

under : (b : ℕ) → digits b < 2 ^ 52
under b = subst (λ (x : ℕ). x < 2 ^ 52) (sym (is b)) (mod-lt b (pow_pos 52))

shift : (b : ℕ) → 0 < b → b / 2 ^ 52 ≡ 0 → Short (digits b) (count_leading_zeros 64 (digits b) - 11)
shift b p h = short (digits b) (subst (λ (x : ℕ). 0 < x) (sym (is b)) (small-field b p h)) (under b)

pub overflow_sub-z : goal.overflow_sub-z
overflow_sub-z c = omega (arith, shift c.args.b c.requires.0 c.if-x-eq0.true)

pub returns-then-x-eq0 : goal.returns-then-x-eq0
returns-then-x-eq0 c = lead-small c.args.b (digits c.args.b) (is c.args.b) c.requires.0
    c.if-x-eq0.true

pub returns : goal.returns
returns c = lead-large c.args.b (digits c.args.b) (is c.args.b) c.requires.1
    c.if-x-eq0.false
