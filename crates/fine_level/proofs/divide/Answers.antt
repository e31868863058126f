-- `fine_level::divide` meets its contract. Assumes nothing.
use mathlib.Core.Path.{◌≡◌, sym, ap, ◌∙◌}
use mathlib.Core.List.{List, ◌++◌}
use Prim.Native.Nat.{ℕ, ◌+◌, ◌-◌}
use native.Mathlib.Omega.{arith}
use borrow.Author.Rules.{rules}
use lib.ListN.{length, take, drop}
use Rattle.std.proofs.Common.{take-append-drop}
use Rattle.lists.specs.Lists.{part, put, joined}
use Rattle.lists.proofs.Put.{length_part, part-lent}
use Rattle.definition.specs.Record.{whole_of, float_of}
use Rattle.fine_level.proofs.Stages.{level-own, level-borrowed, level-number, leaves-read, overlaps-ready, overlaps-rows, level-nodes, codes-room}
use Rattle.fine_level.proofs.divide.Goals as goal

-- a list of which a part was lent, and came back as it was
whole_again : {A : Type 0} (from n : ℕ) (l : List A) → take from l ++ (take (from + n - from) (drop from l) ++ drop (from + n - from) (drop from l)) ≡ l
whole_again from n l =
    ap (λ (z : List _). take from l ++ z) (take-append-drop _ (drop from l)) ∙ take-append-drop from l

pub cut_rows-cut-requires : goal.cut_rows-cut-requires
cut_rows-cut-requires c = search rules

pub overlaps-borrowed-requires : goal.overlaps-borrowed-requires
overlaps-borrowed-requires c = let p = c.requires in
    let P = c.args in
    let g = p.given_by.1 in
    let lent = part-lent c.cut_rows-cut.new.lists.level_points.now P.place.from P.place.a in
    let n : length (part P.lists.now.level_points.now P.place.from P.place.a) ≡ P.place.a = length_part P.lists.now.level_points.now P.place.from P.place.a p.given_by.0 in
    let l = c.cut_rows-cut.ensures in
    let counts = l.counts in
    let internals = l.internals in
    let domains = l.domains in
    let cuts = level-nodes whole_of P.records.now.cuts.now P.place.node c.cut_rows-cut.result.nodes _ _ counts.1 (omega (arith, p.record_fits.0, counts.2)) l.cuts in
    let planes = level-nodes float_of P.records.now.planes.now P.place.node c.cut_rows-cut.result.nodes _ _ counts.1 (omega (arith, p.record_fits.1, counts.2)) l.planes in
    let ready = overlaps-ready _ _ _ _ _ g _ _ _ _ (rw n p.fits_at.internals) (rw n p.fits_at.domains) _ _ internals domains _ _ cuts planes in
    let lent_cuts = part-lent c.cut_rows-cut.new.records.cuts.now P.place.node c.cut_rows-cut.result.nodes in
    let lent_planes = part-lent c.cut_rows-cut.new.records.planes.now P.place.node c.cut_rows-cut.result.nodes in
    rw (lent, lent_cuts, lent_planes, l.kept.0) (record {
      stage = (P.plan.leaf, rw counts.0 ready);
      neighbours_in_bounds = rw n (omega (arith, codes-room P.place.a P.plan.neighbours, p.room.wholes, l.same.1.wholes_len), omega (arith, p.fits_at.borrowed, l.same.0.borrowed_len));
    })

pub returns : goal.returns
returns c = let p = c.requires in
    let P = c.args in
    let g = p.given_by.1 in
    let lent = part-lent c.cut_rows-cut.new.lists.level_points.now P.place.from P.place.a in
    let active = part P.lists.now.level_points.now P.place.from P.place.a in
    let n : length active ≡ P.place.a = length_part P.lists.now.level_points.now P.place.from P.place.a p.given_by.0 in
    let l = c.cut_rows-cut.ensures in
    let o = c.overlaps-borrowed.ensures in
    let counts = l.counts in
    let internals = l.internals in
    let domains = l.domains in
    let fits_internals = rw (← n) at p.fits_at.internals in
    let fits_domains = rw (← n) at p.fits_at.domains in
    let read = rw (← counts.0) at (leaves-read _ _ _ _ _ g _ _ _ _ fits_internals fits_domains _ _ internals domains) in
    let borrowed = level-borrowed P.plan.points.dimensions P.plan.points.coordinates.now P.plan.leaf P.plan.neighbours active in
    let rows = overlaps-rows _ _ _ _ _ g _ _ _ _ fits_internals fits_domains _ _ internals domains P.place.bat _ (rw (lent, l.kept.0, read) at o.domains) in
    let domains_back : _ ≡ c.overlaps-borrowed.new.leaves.domains.now = search rules in
    let borrowed_back : _ ≡ c.overlaps-borrowed.new.leaves.borrowed.now = search rules in
    record {
      same = search rules;
      counts = (counts.0 ∙ sym (level-number _ _ _ P.plan.neighbours _), rw (lent, l.kept.0, read, ← borrowed) at o.number, counts.1, counts.2);
      level_points = ap (λ (z : List ℕ). take P.place.from c.cut_rows-cut.new.lists.level_points.now ++ z) (take-append-drop _ (drop P.place.from c.cut_rows-cut.new.lists.level_points.now))
          ∙ take-append-drop P.place.from c.cut_rows-cut.new.lists.level_points.now ∙ l.kept.0;
      internals = internals ∙ ap (λ (z : List (List ℕ)). put P.lists.now.internals.now P.place.from (joined z)) (sym (level-own _ _ _ P.plan.neighbours _));
      domains = domains_back ∙ rows;
      boxes = l.boxes;
      borrowed = borrowed_back ∙ rw (lent, l.kept.0, l.kept.1, read, ← borrowed) at o.borrowed;
      cuts = whole_again P.place.node c.cut_rows-cut.result.nodes c.cut_rows-cut.new.records.cuts.now ∙ l.cuts;
      planes = whole_again P.place.node c.cut_rows-cut.result.nodes c.cut_rows-cut.new.records.planes.now ∙ l.planes;
    }
