-- `coarse_points::coarse_points` meets its contract: the steps fit together as `Stages` says. Assumes nothing.
use mathlib.Core.Path.{sym, ap, ◌∙◌}
use native.Mathlib.Omega.{arith}
use borrow.Author.Rules.{rules}
use lib.ListN.{length}
use lib.Seq.{length-take-le}
use Rattle.lists.specs.Lists.{count}
use Rattle.coarse_points.proofs.Stages.{counts_all, leaves-fit, sorted-up, covers_up, part-between}
use Rattle.coarse_points.proofs.coarse_points.Goals as goal

pub leaf_quotas-requires : goal.leaf_quotas-requires
leaf_quotas-requires c = let a = c.args in
    let p = c.requires in (
      p.rows.leaves.rows,
      length-take-le _ _ p.room.1,
      sym (counts_all _ _ _ _ _ _ _ p.rows),
      p.rows.rows.few,
      p.room.0,
    )

pub send_leaves-requires-clause-leaves : goal.send_leaves-requires-clause-leaves
send_leaves-requires-clause-leaves c = let a = c.args in
    let p = c.requires in
    leaves-fit _ _ _ _ _ _ _ p.rows (length a.sent.now) p.room.0 c.leaf_quotas.new.shares c.leaf_quotas.ensures _
    (omega (arith, c.split_at_mut-sampled.ensures.front_len))

pub returns : goal.returns
returns c = let a = c.args in
    let p = c.requires in
    let sent = c.send_leaves.ensures in
    let halves = c.split_at_mut-sampled.ensures in
    let behind = length-take-le a.leaves.count c.split_at_mut-sampled.result.1.now (omega (arith, p.room.2, halves.back_len)) in
    let q = c.leaf_quotas.ensures in record {
      same = search rules;
      list = sorted-up _ _ _ _ _ _ _ p.rows (length a.sent.now) p.room.0 _ q c.sort.new.list c.sort.ensures.0 (λ t. c.sort.ensures.1 t ∙ ap (count t) sent.sent);
      covers = part-between c.send_leaves.new.floats c.send_leaves.new.covers _ (length a.active.now) a.leaves.count (omega (arith, c.send_leaves.auto.floats, halves.front_len)) (omega (arith, c.send_leaves.auto.covers, behind))
          ∙ covers_up _ _ _ _ _ _ _ p.rows (length a.sent.now) p.room.0 _ q _ sent.covers;
    }
