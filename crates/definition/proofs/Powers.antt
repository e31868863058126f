-- Small powers. Assumes nothing.
use Prim.Native.Nat.{ℕ, ◌*◌, ◌^◌}
use mathlib.Core.Path.{◌≡◌, ap, ◌∙◌}
use native.Mathlib.Nat.{pow-zero, pow-suc, one-mul}

pub pow-1 : (b : ℕ) → b ^ 1 ≡ b
pow-1 b = pow-suc b 0 ∙ ap (λ (x : ℕ). x * b) (pow-zero b) ∙ one-mul b

pub pow-2 : (b : ℕ) → b ^ 2 ≡ b * b
pow-2 b = pow-suc b 1 ∙ ap (λ (x : ℕ). x * b) (pow-1 b)

pub pow-3 : (b : ℕ) → b ^ 3 ≡ b * b * b
pow-3 b = pow-suc b 2 ∙ ap (λ (x : ℕ). x * b) (pow-2 b)
