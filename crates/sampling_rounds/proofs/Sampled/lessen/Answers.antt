-- `sampling_rounds::Sampled::lessen` meets its contract. The loop's invariant: the squares passed are lessened (`PassedTo`), and `most`
-- is the greatest of them (`Seen`). Assumes nothing.
use mathlib.Core.Path.{◌≡◌, subst}
use Prim.Native.Nat.{ℕ}
use native.Mathlib.Omega.{arith}
use borrow.Author.Rules.{rules}
use lib.ListN.{length}
use Rattle.sampling_rounds.specs.Rounds.{brought}
use Rattle.rows.proofs.Good.{good-at}
use Rattle.sampling_rounds.proofs.Passes.{Seen, passed-more, seen-greater, seen_other, seen_all, lessened-at, lessened-kept}
use Rattle.sampling_rounds.proofs.Sampled.lessen.Goals.{then-most-value, else-most-value}
use Rattle.sampling_rounds.proofs.Sampled.lessen.Goals as goal

pub distance_sq-square-requires : goal.distance_sq-square-requires
distance_sq-square-requires c = let at = good-at c.args.self.now.rows.now c.requires.rows in
    ((at c.args.last.0 c.requires.here).inside, (at c.loop-i.i c.loop-i-test.true).inside)

pub loop-i-preserved : goal.loop-i-preserved
loop-i-preserved c = let s = c.args.self.now in
    let r = c.requires in
    let l = c.loop-i in
    let h = c.loop-i-test.true in
    let p = l.invariant.0 in
    let v = brought s c.args.last.0 in
    let k = lessened-kept _ _ _ _ s.squares.now r.rows r.here r.kept in
    let e : c.lesser_of-value.result ≡ v l.i =
    lessened-at _ _ _ _ _ l.i _ _ _ c.distance_sq-square.ensures (p.left l.i (omega arith)) c.lesser_of-value.ensures in
    let q = passed-more v s.squares.now l.squares l.i c.lesser_of-value.result p (omega (arith, h, r.room, p.same)) e in
    elim c.if-most-value.branch [
      | then-most-value w ↦ (
        q,
        rw (w.place-is, w.most-is, w.second-is)
            (seen-greater v l.i l.place l.most l.second l.invariant.1 c.lesser_of-value.result e (λ j b. k j (omega (arith, h))) w.if-most-value.true),
      )
      | else-most-value w ↦ (
        q,
        rw (w.place-is, w.most-is, w.second-is)
            (seen_other v l.i l.place l.most l.second l.invariant.1 c.lesser_of-value.result e w.if-most-value.false),
      )
    ]

pub returns-clause-same : goal.returns-clause-same
returns-clause-same c = search rules

pub returns-clause-peak : goal.returns-clause-peak
returns-clause-peak c = let s = c.args.self.now in
    let r = c.requires in
    let l = c.loop-i in
    let v = brought s c.args.last.0 in
    let e : l.i ≡ length s.rows.now = omega arith in
    seen_all v _ _ _ _ (subst (λ (n : ℕ). Seen v n l.place l.most l.second) e l.invariant.1) (omega (arith, r.here))
    (lessened-kept _ _ _ _ s.squares.now r.rows r.here r.kept)
