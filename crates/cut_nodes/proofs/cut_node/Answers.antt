-- `cut_nodes::cut_node` meets its contract. Assumes nothing.
use mathlib.Core.Path.{ap, ◌∙◌}
use native.Mathlib.Omega.{arith}
use borrow.Author.Rules.{rules}
use lib.ListN.{length, set}
use lib.Seq.{length-take-le, drop_at}
use Rattle.cut_nodes.proofs.cut_node.Goals as goal

pub returns : goal.returns
returns c = let a = c in
    let p = a.requires in
    let k = c.cut_stretch-at in
    let e = k.ensures in
    let w = c.write_node.ensures in
    record {
      same = search rules;
      plane = e.plane;
      rows = e.rows;
      wholes = drop_at k.new.room _ (length a.args.rows.now) (e.room ∙ length-take-le (length a.args.rows.now) a.args.wholes.now (omega (arith, p.3)));
      cuts = w.cuts ∙ ap (set a.args.records.now.cuts.now a.args.place) e.plane.0;
      planes = w.planes ∙ ap (set a.args.records.now.planes.now a.args.place) e.plane.1;
    }
