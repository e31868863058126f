-- `grow::grow` meets its contract. Assumes nothing.
use mathlib.Core.Path.{◌≡◌, refl, ap, ◌∙◌}
use mathlib.Core.List.{List}
use Prim.Native.Nat.{◌/◌}
use native.Mathlib.Omega.{arith}
use borrow.Author.Rules.{rules}
use lib.ListN.{length}
use Rattle.lists.specs.Lists.{put, part, from}
use Rattle.lists.proofs.Put.{part-put-same, length-put}
use Rattle.lists.proofs.From.{length_from}
use Rattle.definition.specs.Tree.{Level}
use Rattle.definition.specs.Packed.{packed_level_points}
use Rattle.definition_laws.proofs.Accepted.{build-accepted}
use Rattle.config.specs.Params.{settings_of_lem}
use Rattle.tree_lists.specs.Lent.{lists_in, records_in}
use Rattle.grow_over.proofs.Over.{points-whole}
use Rattle.grow.proofs.Grown.{all_rows, all-space, all-records, over-all}
use Rattle.grow.proofs.grow.Goals as goal

pub count-n-requires : goal.count-n-requires
count-n-requires c = let P = c.args in
    let s = settings_of_lem P.points.dimensions P.params in
    let cs = P.points.coordinates.now in
    let old = lists_in P.lists.now in
    let acc = build-accepted s cs _ c.requires in
    omega (arith, acc.passes-all.axes)

pub number_rows-requires : goal.number_rows-requires
number_rows-requires c = let P = c.args in
    let s = settings_of_lem P.points.dimensions P.params in
    let cs = P.points.coordinates.now in
    let old = lists_in P.lists.now in
    let acc = build-accepted s cs _ c.requires in
    omega (arith, c.count-n.ensures, (all-space s cs old P.room.now.floats.now P.room.now.wholes.now (records_in P.records.now) acc P.lists.now.level_points.now refl).level_points)

pub grow_over-requires : goal.grow_over-requires
grow_over-requires c = let P = c.args in
    let s = settings_of_lem P.points.dimensions P.params in
    let cs = P.points.coordinates.now in
    let old = lists_in P.lists.now in
    let acc = build-accepted s cs _ c.requires in
    let n = length cs / P.points.dimensions in
    let N = c.count-n.ensures in
    let first = rw N at c.number_rows.ensures in
    let space = all-space s cs old P.room.now.floats.now P.room.now.wholes.now (records_in P.records.now) acc P.lists.now.level_points.now refl in
    let read : part (put P.lists.now.level_points.now 0 (from 0 n)) 0 n ≡ from 0 n = part-put-same P.lists.now.level_points.now 0 (from 0 n) n (omega arith) (length_from 0 n) in
    let long = ap length first ∙ length-put P.lists.now.level_points.now 0 (from 0 n) (omega (arith, length_from 0 n, space.level_points)) in
    rw N
    (record {
      bound = (acc.passes-all.coarse-some, acc.passes-all.reaches, rw (first, read) (all_rows s cs old P.room.now.floats.now P.room.now.wholes.now (records_in P.records.now) acc));
      space = all-space s cs old P.room.now.floats.now P.room.now.wholes.now (records_in P.records.now) acc _ long;
      record_room = all-records s cs old P.room.now.floats.now P.room.now.wholes.now (records_in P.records.now) acc;
    })

pub returns : goal.returns
returns c = let P = c.args in
    let s = settings_of_lem P.points.dimensions P.params in
    let cs = P.points.coordinates.now in
    let old = lists_in P.lists.now in
    let acc = build-accepted s cs _ c.requires in
    let n = length cs / P.points.dimensions in
    let N = c.count-n.ensures in
    let first = rw N at c.number_rows.ensures in
    let space = all-space s cs old P.room.now.floats.now P.room.now.wholes.now (records_in P.records.now) acc P.lists.now.level_points.now refl in
    let read : part (put P.lists.now.level_points.now 0 (from 0 n)) 0 n ≡ from 0 n = part-put-same P.lists.now.level_points.now 0 (from 0 n) n (omega arith) (length_from 0 n) in
    let w = c.grow_over.ensures in
    let e = over-all s cs in
    record {
      same = search rules;
      counts = rw e at (rw (N, first, read) at w.counts);
      level_points = points-whole s cs (from 0 n) P.lists.now.level_points.now _ _ (omega (arith, length_from 0 n, space.level_points)) refl (rw (N, first, read) at w.level_points)
          ∙ ap (λ (ls : List Level). put P.lists.now.level_points.now 0 (packed_level_points ls)) e;
      internals = rw e at (rw (N, first, read) at w.internals);
      domains = rw e at (rw (N, first, read) at w.domains);
      boxes = rw e at (rw (N, first, read) at w.boxes);
      borrowed = rw e at (rw (N, first, read) at w.borrowed);
      cuts = rw e at (rw (N, first, read) at w.cuts);
      planes = rw e at (rw (N, first, read) at w.planes);
    }
