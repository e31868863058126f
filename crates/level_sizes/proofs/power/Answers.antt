-- `level_sizes::power` meets its contract: the exponent is one of four. Assumes nothing.
use mathlib.Core.Path.{◌≡◌, sym, ap, ◌∙◌}
use Prim.Native.Nat.{ℕ, ◌^◌}
use native.Mathlib.Omega.{arith}
use Rattle.definition.proofs.Powers.{pow-1, pow-3}
use Rattle.level_sizes.proofs.power.Goals as goal

pub returns-in-1 : goal.returns-in-1
returns-in-1 c = let b = c.args.b in sym (pow-1 b) ∙ ap (λ (r : ℕ). b ^ r) (sym c.in-1.is)

pub returns-in_default : goal.returns-in_default
returns-in_default c = let b = c.args.b in
    let e : c.args.r ≡ 3 = omega (arith, c.in_default, c.requires.1) in
    sym (pow-3 b) ∙ ap (λ (r : ℕ). b ^ r) (sym e)
