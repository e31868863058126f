-- `overlap_owners::mark_leaf` meets its contract. The loop has written the rows passed, and noted their positions. Assumes nothing.
use mathlib.Core.Path.{sym}
use native.Mathlib.Omega.{arith}
use Prim.Native.Nat.{ℕ}
use lib.ListN.{get_or}
use lib.Seq.{take_all}
use Rattle.lists.proofs.Members.{mem-at}
use Rattle.lists.proofs.From.{noted_more}
use Rattle.cut_index.specs.Filed.{position_in}
use Rattle.cut_index.proofs.Positions.{position-of}
use Rattle.overlap_owners.proofs.Marks.{stretch-none, stretch-more}
use Rattle.overlap_owners.proofs.Places.{noted-all}
use Rattle.overlap_owners.proofs.mark_leaf.Goals as goal

pub loop-k-init : goal.loop-k-init
loop-k-init c = let a = c.args in (stretch-none a.active.now c.requires.rows.0 a.rows.now a.leaf a.wholes.now, λ j h. absurd (omega arith))

pub position-at-requires : goal.position-at-requires
position-at-requires c = (c.requires.rows.0, c.requires.rows.2 _ (mem-at c.args.rows.now c.loop-k.k 0 (omega arith)))

pub loop-k-preserved : goal.loop-k-preserved
loop-k-preserved c =
    let a = c.args in
    let l = c.loop-k in
    let at = c.position-at in
    let up = c.requires.rows.0 in (
      stretch-more a.active.now up a.rows.now a.leaf a.wholes.now l.wholes l.k l.invariant.0 (omega arith) at.result at.ensures.0 at.ensures.1 (omega arith),
      noted_more (λ (j : ℕ). position_in a.active.now (get_or a.rows.now j 0)) l.positions l.k at.result 0 (omega arith) l.invariant.1
          (sym (position-of a.active.now up (get_or a.rows.now l.k 0) at.result at.ensures.0 at.ensures.1)),
    )

pub returns : goal.returns
returns c =
    let a = c.args in
    let l = c.loop-k in
    record {
      marked = rw (take_all l.k a.rows.now (omega arith)) at l.invariant.0;
      positions = noted-all a.active.now a.rows.now l.positions (omega arith) (λ j h. l.invariant.1 j (omega arith));
    }
