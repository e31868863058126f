-- `quotas::Terms::hand_out` meets its contract: `at_cut` seats are left for remainders equal to the cut, the quotas so far stand in the
-- place of the sizes, and the sizes ahead are as they were. Assumes nothing.
use mathlib.Core.Path.{◌≡◌, ap, ◌∙◌}
use Prim.Native.Nat.{ℕ, ◌-◌, ◌*◌, ◌%◌, ◌≤◌, min}
use native.Mathlib.Omega.{arith}
use lib.Dec.{eqb}
use Rattle.lists.specs.Lists.{one_if}
use Rattle.lists.proofs.From.{count-below-suc, map-from-nil, front-below-suc, count-below-nil, front_read}
use Rattle.definition.specs.Quotas.{remainder_at}
use Rattle.definition.proofs.Seats.{by_le}
use Rattle.quotas.specs.Sharing.{capacities, quota_at}
use Rattle.quotas.proofs.OneLeaf.{remainder_is, whole-small, quota-is}
use Rattle.quotas.proofs.Terms.hand_out.Goals as goal

pub loop-w-init : goal.loop-w-init
loop-w-init c = let a = c.args in (
  omega (arith, count-below-nil (λ j. eqb (remainder_at (capacities a.sizes.now a.self.first) a.self.rest j) a.cut)),
  rw (map-from-nil (quota_at a.sizes.now a.self.first a.self.rest) 0),
)

pub product-p-requires : goal.product-p-requires
product-p-requires c = let l = c.loop-w in
    let a = c.args in
    (rw (front_read (quota_at a.sizes.now a.self.first a.self.rest) l.w-index a.sizes.now l.sizes 0 l.invariant.1) (c.requires.0.sizes_fit l.w-index), c.requires.0.rest_fits)

pub overflow_add-w-in-loop-w : goal.overflow_add-w-in-loop-w
overflow_add-w-in-loop-w c = let a = c.args in
    let l = c.loop-w in
    let w = front_read (quota_at a.sizes.now a.self.first a.self.rest) l.w-index a.sizes.now l.sizes 0 l.invariant.1 in
    let p = c.product-p.ensures ∙ ap (λ (x : ℕ). a.self.rest * (x - a.self.first)) w in
    let b : c.extra_seat.result ≤ 1 = rw c.extra_seat.ensures (by_le _ _ _) in
    omega (
      arith,
      c.min.ensures,
      c.requires.0.first_fits,
      b,
      whole-small a.sizes.now a.self.first a.self.rest a.self.pool c.requires.0 l.w-index _ p,
    )

pub loop-w-preserved : goal.loop-w-preserved
loop-w-preserved c = let a = c.args in
    let l = c.loop-w in
    let f = quota_at a.sizes.now a.self.first a.self.rest in
    let r = remainder_at (capacities a.sizes.now a.self.first) a.self.rest in
    let w = front_read f l.w-index a.sizes.now l.sizes 0 l.invariant.1 in
    let p = c.product-p.ensures ∙ ap (λ (x : ℕ). a.self.rest * (x - a.self.first)) w in
    let q = c.min.ensures ∙ ap (λ (x : ℕ). min a.self.first x) w in
    let e : one_if (eqb (c.product-p.result % a.self.pool) a.cut) ≡ one_if (eqb (r l.w-index) a.cut) =
    ap (λ (z : ℕ). one_if (eqb z a.cut)) (remainder_is a.sizes.now a.self.first a.self.rest a.self.pool c.requires.0 l.w-index _ p) in (
      omega (arith, c.saturating_sub-at_cut.ensures, c.from.ensures, e, count-below-suc (λ j. eqb (r j) a.cut) l.w-index, l.invariant.0),
      rw l.invariant.1
          (front-below-suc f l.w-index a.sizes.now _ 0 (omega arith)
          (quota-is a.sizes.now a.self.first a.self.rest a.self.pool c.requires.0 l.w-index _ p a.left a.cut a.taken _ _ l.at_cut c.requires.3 c.requires.2 c.requires.1
          (omega arith) q l.invariant.0 c.extra_seat.ensures)),
    )
