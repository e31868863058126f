-- `overlaps::send_all` meets its contract. Assumes nothing.
use mathlib.Core.Path.{sym, subst}
use mathlib.Core.List.{List}
use lib.Ieee.{Float}
use Rattle.rows.proofs.Good.{good-inside}
use Rattle.gap_laws.specs.Boxed.{Boxed}
use Rattle.overlaps.proofs.send_all.Goals as goal

pub get_pointarray_extents-requires : goal.get_pointarray_extents-requires
get_pointarray_extents-requires c =
    let g = c.requires.rows in
    (g.0, g.1, good-inside c.args.active.now g.2)

pub collect-requires : goal.collect-requires
collect-requires c =
    let a = c.args in
    let g = c.requires.rows in
    let m = c.requires.room in
    let x = c.requires.level in
    let box = c.get_pointarray_extents.ensures in (
      record {
        few = g.0;
        good = g.2;
        tree = x.0;
        filed = x.1;
        boxed = subst (λ (b : List Float). Boxed a.points.dimensions a.points.coordinates.now b x.0) (sym box.1) x.2;
        axes = box.0;
        rows = x.3;
      },
      g.3,
      m.0,
      m.1,
      m.2,
    )
