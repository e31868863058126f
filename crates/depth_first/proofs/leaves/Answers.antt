-- `depth_first::leaves` meets its contract. Assumes nothing.
use mathlib.Core.Path.{sym, ap, ◌∙◌}
use borrow.Author.Rules.{rules}
use native.Mathlib.Omega.{arith}
use lib.ListN.{length, length-drop}
use Rattle.lists.specs.Lists.{put}
use Rattle.lists.proofs.Put.{part-back}
use Rattle.leaves.proofs.Place.{tail_all, tail-back}
use Rattle.depth_first.proofs.leaves.Goals as goal

pub cut_leaves-requires : goal.cut_leaves-requires
cut_leaves-requires c = let p = c.requires in
    let a = c.args in
    let copied = c.copy_values.ensures.after in
    record {
      dimensions_nonzero = rw copied p.dimensions_nonzero;
      base = ap length (sym copied);
      rows_in_bounds = rw copied p.active_in_bounds;
      rows_bound =
          rw (copied, tail_all a.lists.now.boxes.now a.start.skip, length-drop a.start.skip a.lists.now.boxes.now)
          (omega (arith, p.active_in_bounds_2.0), p.active_in_bounds_2.1, omega (arith, p.active_in_bounds_2.2));
      rows_in_bounds_2 = rw copied p.active_in_bounds_3;
    }

pub returns : goal.returns
returns c = let p = c.requires in
    let a = c.args in
    let copied = c.copy_values.ensures.after in
    let cut = c.cut_leaves in
    let f = rw copied at cut.ensures in
    let back = part-back a.lists.now.internals.now a.start.from (length a.active.now) cut.new.rows (cut.auto.rows ∙ ap length copied) in
    let cuts = f.cuts in
    let planes = f.planes in
    record {
      same = search rules;
      number = f.number;
      nodes = f.nodes;
      internals = back ∙ ap (put a.lists.now.internals.now a.start.from) f.rows;
      domains = f.domains;
      boxes = tail-back a.lists.now.boxes.now a.start.skip _ _ _ (omega (arith, p.active_in_bounds_2.2)) cut.auto.boxes f.boxes;
      cuts = search (rules, cuts);
      planes = search (rules, planes);
    }
