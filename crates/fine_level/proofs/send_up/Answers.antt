-- `fine_level::send_up` meets its contract. Assumes nothing.
use mathlib.Core.Path.{◌≡◌, sym, ap, ◌∙◌}
use Prim.Native.Nat.{◌+◌, ◌-◌}
use native.Mathlib.Omega.{arith}
use borrow.Author.Rules.{rules}
use lib.ListN.{length, take, drop}
use lib.Seq.{length-take-le}
use Rattle.lists.specs.Lists.{part, put}
use Rattle.lists.proofs.Put.{length_part, part-lent}
use Rattle.fine_level.proofs.Halves.{front-part, sent-back}
use Rattle.fine_level.proofs.send_up.Goals as goal

pub coarse_points-requires-clause-rows : goal.coarse_points-requires-clause-rows
coarse_points-requires-clause-rows c = let P = c.args in
    let h = c.split_at_mut-front in
    rw (front-part P.lists.now.level_points.now h.result.0.now P.place.from P.place.a h.ensures.front h.ensures.front_len) c.requires.sends_up

pub put_covers-requires : goal.put_covers-requires
put_covers-requires c = let P = c.args in
    let p = c.requires in
    let F = c.coarse_points.new.room.floats.now in
    let n : length (take (P.place.a + P.m - P.place.a) (drop P.place.a F)) ≡ P.m = ap length (part-lent F P.place.a P.m) ∙ length_part F P.place.a P.m (omega (arith, p.size_le_a.3)) in
    (p.sends_up.axes, rw n p.size_le_a.4)

pub returns : goal.returns
returns c = let P = c.args in
    let p = c.requires in
    let l = P.lists.now.level_points.now in
    let h = c.split_at_mut-front in
    let up = c.coarse_points.ensures in
    let moved = c.put_covers.ensures in
    let active = front-part l h.result.0.now P.place.from P.place.a h.ensures.front h.ensures.front_len in
    let many : length (part l P.place.from P.place.a) ≡ P.place.a = length_part l P.place.from P.place.a (omega (arith, p.size_le_a.1)) in
    let room : length (take P.size h.result.1.now) ≡ P.size = length-take-le P.size h.result.1.now (omega (arith, p.size_le_a.1, h.ensures.back_len)) in
    let sent = rw (active, room) at up.list in
    let covers = rw (active, many, room) at up.covers in
    let size = c.coarse_points.auto.sent ∙ room in
    record {
      same = search rules;
      kept = search rules;
      number = sym size ∙ ap length sent;
      list = sent-back l h.result.0.now c.coarse_points.new.sent h.result.1.now (P.place.from + P.place.a) P.size h.ensures.front h.ensures.back size
          ∙ ap (put l (P.place.from + P.place.a)) sent;
      boxes = (rw (part-lent c.coarse_points.new.room.floats.now P.place.a P.m, covers) at moved);
    }
