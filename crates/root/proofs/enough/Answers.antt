-- `root::enough` meets its contract. Assumes nothing.
use mathlib.Core.Path.{◌≡◌, refl, ◌∙◌}
use mathlib.Core.Bool.{Bool, true, false}
use Prim.Native.Nat.{ℕ, ◌+◌, ◌*◌, ◌/◌, ◌^◌}
use native.Mathlib.Nat.{mul-add, mul-mul-mul_comm}
use native.Mathlib.Omega.{arith}
use lib.Dec.{leb}
use borrow.Author.Tests.{le-leb, lt-leb, leb-true, leb-false}
use Rattle.root.proofs.enough.Goals as goal

scaled : (q : ℕ) → q * 64 * (q * 64 + 64) / 2 ^ 64 ≡ (q * q + q) / 2 ^ 52
scaled q =
    let e = mul-add (q * 64) (q * 64) 64 in
    let f = mul-mul-mul_comm q 64 q 64 in
    omega arith

test : (n x y : ℕ) → y ≡ x / 2 ^ 52 → (r : Bool) → leb (n * 2 ^ 52) x ≡ r → leb n y ≡ r
test n x y e true h = le-leb n y (omega (arith, leb-true (n * 2 ^ 52) x h))
test n x y e false h = lt-leb n y (omega (arith, leb-false (n * 2 ^ 52) x h))

pub returns : goal.returns
returns c = let q = c.args.q in test c.args.n (q * q + q) _ (c.upper.ensures ∙ scaled q) _ refl
