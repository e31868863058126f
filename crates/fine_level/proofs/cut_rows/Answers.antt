-- `fine_level::cut_rows` meets its contract. Assumes nothing.
use mathlib.Core.Path.{◌≡◌, ap, ◌∙◌}
use mathlib.Core.List.{List, ◌++◌}
use Prim.Native.Nat.{ℕ}
use native.Mathlib.Omega.{arith}
use borrow.Author.Rules.{rules}
use lib.ListN.{length, take, drop}
use Rattle.std.proofs.Common.{take-append-drop}
use Rattle.lists.specs.Lists.{part}
use Rattle.lists.proofs.Put.{length_part, part-lent}
use Rattle.fine_level.proofs.Stages.{boxes-room}
use Rattle.fine_level.proofs.Sent.{lent_fits, boxes-packed}
use Rattle.fine_level.proofs.cut_rows.Goals as goal

pub cut_level-requires : goal.cut_level-requires
cut_level-requires c = let p = c.requires in
    let P = c.args in
    let g = p.given_by.1 in
    let active = part P.lists.now.level_points.now P.place.from P.place.a in
    let n : length active ≡ P.place.a = length_part P.lists.now.level_points.now P.place.from P.place.a p.given_by.0 in
    let fits = rw (← n) at p.fits_at.boxes in
    rw (part-lent P.lists.now.level_points.now P.place.from P.place.a) (record {
      dimensions_nonzero = (g.axes, g.axes_few, g.leaf_some, g.rows_some, g.good);
      active_in_bounds = (omega (arith, n, p.room.wholes), omega (arith, n, boxes-room P.plan.points.dimensions (length active) g.axes_few, p.room.floats));
      active_in_bounds_2 = (
        omega (arith, n, p.fits_at.internals),
        omega (arith, n, p.fits_at.domains),
        lent_fits P.plan.points.dimensions P.plan.points.coordinates.now P.plan.leaf P.plan.neighbours active P.lists.now.boxes.now P.place.first fits,
      );
      active_in_bounds_3 = rw n p.record_fits;
    })

pub returns : goal.returns
returns c = let p = c.requires in
    let P = c.args in
    let lent = part-lent P.lists.now.level_points.now P.place.from P.place.a in
    let active = part P.lists.now.level_points.now P.place.from P.place.a in
    let n : length active ≡ P.place.a = length_part P.lists.now.level_points.now P.place.from P.place.a p.given_by.0 in
    let l = c.cut_level.ensures in
    let counts = rw lent at l.counts in
    let rows_back : _ ≡ c.cut_level.new.lists.internals.now = search rules in
    let domains_back : _ ≡ c.cut_level.new.lists.domains.now = search rules in
    let boxes_back : _ ≡ c.cut_level.new.lists.boxes.now = search rules in
    record {
      same = search rules;
      kept = (
        ap (λ (z : List ℕ). take P.place.from P.lists.now.level_points.now ++ z) (take-append-drop _ (drop P.place.from P.lists.now.level_points.now)) ∙ take-append-drop P.place.from P.lists.now.level_points.now,
        search rules,
      );
      counts = (counts.0, counts.1, rw n at counts.2);
      internals = rows_back ∙ rw lent at l.internals;
      domains = domains_back ∙ rw lent at l.domains;
      boxes = boxes_back ∙ rw lent at l.boxes ∙ boxes-packed P.plan.points.dimensions P.plan.points.coordinates.now P.plan.leaf P.plan.neighbours active P.lists.now.boxes.now P.place.first;
      cuts = rw lent at l.cuts;
      planes = rw lent at l.planes;
    }
