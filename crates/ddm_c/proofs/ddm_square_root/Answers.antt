-- `ddm_c::ddm_square_root` meets its contract. Assumes nothing.
use mathlib.Core.Path.{◌∙◌}
use native.Mathlib.Omega.{arith}
use lib.ListN.{length}
use Prim.Native.Nat.{◌≤◌, ◌<◌}
use Rattle.std.proofs.lemmas.Bool.Decides.{nat_tests}
use Rattle.slots.specs.Slots.{value_slot}
use Rattle.refusal.proofs.Told.{seen}
use Rattle.slots.proofs.Told.{told-short, told-long}
use Rattle.ddm_c.proofs.ddm_square_root.Goals as goal

pub returns-then-is_empty : goal.returns-then-is_empty
returns-then-is_empty c = rw c.number.ensures (told-short _ _ _ _ (let h : length c.args.res.now < 1 = grind (arith, nat_tests) in h))

pub returns : goal.returns
returns c = let told = c.put_value.ensures in
    told-long 1 value_slot _ _ _ (record { number = told.0.number; place = told.0.place; value = told.0.value }) _ (let h : 1 ≤ length c.args.res.now = grind (arith, nat_tests) in h)
    told.2 told.3 (seen _ (λ x. x) _ _ told.0 (λ x z. z) told.1 ∙ c.square_root.ensures)
