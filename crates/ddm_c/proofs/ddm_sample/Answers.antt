-- `ddm_c::ddm_sample` meets its contract. Assumes nothing.
use mathlib.Core.Path.{◌≡◌}
use mathlib.Core.List.{List}
use lib.ListN.{length}
use lib.Ieee.{Float}
use Prim.Native.Nat.{ℕ, ◌≤◌, ◌<◌}
use borrow.Author.Rules.{rules}
use Rattle.std.proofs.lemmas.Bool.Decides.{nat_tests}
use native.Mathlib.Omega.{arith}
use Rattle.definition.specs.Number.{plus_zero}
use Rattle.sampling.specs.Answers.{as_sampled, sample_report_lem}
use Rattle.slots.specs.Told.{SampleTold}
use Rattle.refusal.proofs.Told.{seen}
use Rattle.slots.proofs.Told.{sample-cover-short, sample-short, sample-long}
use Rattle.ddm_c.proofs.ddm_sample.Goals as goal

pub returns-then-is_empty : goal.returns-then-is_empty
returns-then-is_empty c = rw c.number.ensures (sample-cover-short _ _ _ _ _ _ _ _ _ (let h : length c.args.cover.now < 1 = grind (arith, nat_tests) in h))

pub returns-then-res-lt-PAIR : goal.returns-then-res-lt-PAIR
returns-then-res-lt-PAIR c = rw c.number-then-res-lt-PAIR.ensures (sample-short _ _ _ _ _ _ _ _ _ (let h : 1 ≤ length c.args.cover.now = grind (arith, nat_tests) in h) c.if-res-lt-PAIR.true)

-- what was told with the room as the call left it, of the same two lists as they come back
room-back : (d : ℕ) (cs : List Float) (wanted seed : ℕ) (out out' : List ℕ) (floats f f' : List Float) (wholes w w' : List ℕ) (cover cover' : List Float) (res res' : List ℕ) (n : ℕ)
    → f' ≡ f → w' ≡ w → SampleTold d cs wanted seed out out' floats f wholes w cover cover' res res' n → SampleTold d cs wanted seed out out' floats f' wholes w' cover cover' res res' n
room-back d cs wanted seed out out' floats f f' wholes w w' cover cover' res res' n e g t = rw (e, g) t

pub returns : goal.returns
returns c = let q = c.farthest_point_sampling-answer in
    let t = c.of-told in
    room-back _ _ _ _ _ _ _ q.new.room.floats.now _ _ q.new.room.wholes.now _ _ _ _ _ _ (search rules) (search rules)
    (sample-long _ _ _ _ _ _ _ _ _ (let h : 1 ≤ length c.args.cover.now = grind (arith, nat_tests) in h) _ _ _ _ (sample_report_lem q.result) (record { number = t.result.number; place = t.result.place; value = as_sampled t.result.value })
    c.if-res-lt-PAIR.false q.ensures.sampled (seen _ as_sampled (record { rows = 0; cover = plus_zero }) q.result t.result (λ x z. search rules) t.ensures) c.put_values.ensures)
