-- `overlap_pairs::send` meets its contract. The loop has written what the positions passed send: `Sent`. Assumes nothing.
use native.Mathlib.Omega.{arith}
use Rattle.overlap_pairs.proofs.Sends.{send-none, send-small, send-skip, send-pair, send-end}
use Rattle.overlap_pairs.proofs.send.Goals.{then-mine-other, else-mine-other}
use Rattle.overlap_pairs.proofs.send.Goals as goal

pub loop-q-init : goal.loop-q-init
loop-q-init c = let a = c.args in send-none a.near.now c.requires.0 a.p a.wholes.now a.n c.requires.1

pub code-requires-then-mine-other : goal.code-requires-then-mine-other
code-requires-then-mine-other c = let a = c.args in
    let l = c.loop-q in
    let t = send-small a.near.now c.requires.0 a.p a.wholes.now a.n c.requires.1 l.wholes l.end l.q-index l.invariant c.loop-q-test.true in
    let h = c.requires.1.here in
    (omega arith, omega arith)

pub loop-q-preserved : goal.loop-q-preserved
loop-q-preserved c = let a = c.args in
    let l = c.loop-q in
    elim c.if-mine-other.branch [
      | then-mine-other w ↦
          rw (w.wholes-is, w.end-is, w.code.ensures, w.code-then-mine-other.ensures)
          (send-pair a.near.now c.requires.0 a.p a.wholes.now a.n c.requires.1 l.wholes l.end l.q-index l.invariant c.loop-q-test.true w.if-mine-other.true)
      | else-mine-other w ↦
          rw (w.wholes-is, w.end-is)
          (send-skip a.near.now c.requires.0 a.p a.wholes.now a.n c.requires.1 l.wholes l.end l.q-index l.invariant c.loop-q-test.true w.if-mine-other.false)
    ]

pub returns : goal.returns
returns c = let a = c.args in
    let l = c.loop-q in
    send-end a.near.now c.requires.0 a.p a.wholes.now a.n c.requires.1 l.wholes l.end l.q-index l.invariant c.loop-q-test.false
