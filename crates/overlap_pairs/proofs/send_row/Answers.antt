-- `overlap_pairs::send_row` meets its contract. Assumes nothing.
use Rattle.overlap_pairs.proofs.Collects.{row_room}
use mathlib.Core.Path.{◌≡◌}
use lib.ListN.{length, get_or, take}
use lib.Seq.{length-take-le}
use Rattle.rows.proofs.Good.{good-at}
use native.Mathlib.Omega.{arith}
use Rattle.overlap_pairs.proofs.send_row.Goals as goal

pub nearest-found-requires : goal.nearest-found-requires
nearest-found-requires c = let s = c in
    let a = s.args in
    (c.requires.0, good-at a.search.active.now c.requires.0.good a.p s.requires.2, s.requires.1, s.requires.1)

pub send-requires : goal.send-requires
send-requires c = let s = c in
    let a = s.args in
    let f = c.nearest-found in
    let k : length (take f.result f.new.near) ≡ f.result = length-take-le f.result f.new.near (omega arith) in
    (length a.search.active.now, row_room a.search.points.dimensions a.search.points.coordinates.now a.search.neighbours a.search.active.now (get_or a.search.active.now a.p 0) a.p a.wholes.now a.n (take f.result f.new.near) (take f.result f.new.far) s.requires.3 s.requires.4 s.requires.5 s.requires.2 (omega (arith, f.ensures.0)) f.ensures.1)

pub returns : goal.returns
returns c = let s = c in
    let a = s.args in
    let f = c.nearest-found in
    let k : length (take f.result f.new.near) ≡ f.result = length-take-le f.result f.new.near (omega arith) in
    record {
      near = take f.result f.new.near;
      far = take f.result f.new.far;
      found = f.ensures.1;
      few = omega (arith, f.ensures.0);
      end = c.send.ensures.0;
      list = c.send.ensures.1;
    }
