-- `root::root` meets its contract, by its cases. Assumes nothing.
use lib.Dec.{T}
use mathlib.Core.Path.{◌≡◌, sym, subst}
use mathlib.Core.Bool.{true, false}
use lib.Ieee.{Float, binary64, fits, of_bits, lt, eq, is_nan}
use Rattle.definition.specs.Number.{plus_zero}
use Rattle.root_laws.proofs.Patterns.{no_nan}
use Rattle.root.proofs.Cases.{FiniteCase, nan-nan, negative-nan, zero-itself, infinite-itself, finite-left}
use Rattle.root.proofs.Whole.{finite-bits, finite-root}
use Rattle.root.proofs.root.Goals.{then-x-via-then-x, then-x-via-else-x+then-is_nan, then-x-2-via-then-x-2, then-x-2-via-else-x-2+then-x-3}
use Rattle.root.proofs.root.Goals as goal

pub returns-then-x : goal.returns-then-x
unfolding of_bits
returns-then-x c =
    elim c.then-x.branch [
      | then-x-via-then-x w ↦ negative-nan c.args.x w.if-x.true
      | then-x-via-else-x+then-is_nan w ↦ nan-nan c.args.x (sym w.if-is_nan.ensures.value)
    ]

pub returns-then-x-2 : goal.returns-then-x-2
unfolding of_bits
returns-then-x-2 c =
    elim c.then-x-2.branch [
      | then-x-2-via-then-x-2 w ↦ zero-itself c.args.x w.if-x-2.true
      | then-x-2-via-else-x-2+then-x-3 w ↦ infinite-itself c.args.x w.if-x-3.true
    ]

-- what owning an `f64` tells: the format holds it
held : (x : Float) → fits binary64 x ≡ true → T (fits binary64 x)
held x h = subst T (sym h) tt

left : (x : Float) → lt x plus_zero ≡ false → false ≡ is_nan x → eq x plus_zero ≡ false → eq x (of_bits binary64 0x7ff0_0000_0000_0000) ≡ false → FiniteCase x
unfolding of_bits
left x p n q r = finite-left x p (sym n) q r

pub root_bits-requires : goal.root_bits-requires
root_bits-requires c = finite-bits c.args.x (left c.args.x c.if-x.false c.if-is_nan.ensures.value c.if-x-2.false c.if-x-3.false) (held c.args.x c.well_formed.0.1)

pub float_from_bits-result : goal.float_from_bits-result
float_from_bits-result c = no_nan c.root_bits.result c.root_bits.ensures.below

pub returns : goal.returns
returns c =
    finite-root c.args.x c.root_bits.result (left c.args.x c.if-x.false c.if-is_nan.ensures.value c.if-x-2.false c.if-x-3.false)
    (held c.args.x c.well_formed.0.1) c.root_bits.ensures
