-- `depth_first::cut_leaves` meets its contract. Assumes nothing.
use mathlib.Core.Path.{refl, ap, ◌∙◌}
use mathlib.Core.List.{List}
use Prim.Native.Nat.{◌*◌}
use native.Mathlib.Omega.{arith}
use borrow.Author.Rules.{rules}
use lib.Ieee.{Float}
use Rattle.lists.specs.Lists.{put, joined}
use Rattle.definition.specs.Points.{box_width_lem}
use Rattle.queue.specs.Rows.{Own, with_own}
use Rattle.rows.proofs.Good.{good-inside}
use Rattle.record_laws.specs.Table.{rows_under}
use Rattle.record_laws.proofs.Long.{record-long}
use Rattle.cut_nodes.proofs.Laws.{written_of}
use Rattle.depth_first.proofs.Level as level
use Rattle.depth_first.proofs.cut_leaves.Goals as goal

pub get_pointarray_extents-whole-requires : goal.get_pointarray_extents-whole-requires
get_pointarray_extents-whole-requires c = let a = c in
    let p = a.requires in
    let g = p.dimensions_nonzero in
    let R = a.args.rows.now in
    let d = a.args.level.points.dimensions in
    let cs = a.args.level.points.coordinates.now in
    let leaf = a.args.level.leaf in
    (g.1, g.3, good-inside R g.4)

pub split-end-requires : goal.split-end-requires
split-end-requires c = let a = c in
    let p = a.requires in
    let g = p.dimensions_nonzero in
    let R = a.args.rows.now in
    let d = a.args.level.points.dimensions in
    let cs = a.args.level.points.coordinates.now in
    let leaf = a.args.level.leaf in
    let u = c.get_pointarray_extents-whole in
    let room = level.root-space d cs g.0 leaf g.2 R g.4 g.3 a.args.start.node p.rows_in_bounds.0 p.rows_in_bounds.1 p.rows_in_bounds_2.0 p.rows_in_bounds_2.1 in
    record {
      dimensions_nonzero = g;
      dimensions_value = (u.ensures.0, level.root-wide d cs g.0 leaf g.2 R g.4 g.3 u.result u.ensures.1, omega (arith, g.4.few), rw p.base room);
    }

pub number_leaves-requires : goal.number_leaves-requires
number_leaves-requires c = let a = c in
    let p = a.requires in
    let g = p.dimensions_nonzero in
    let R = a.args.rows.now in
    let d = a.args.level.points.dimensions in
    let cs = a.args.level.points.coordinates.now in
    let leaf = a.args.level.leaf in
    let u = c.get_pointarray_extents-whole in
    let room = level.root-space d cs g.0 leaf g.2 R g.4 g.3 a.args.start.node p.rows_in_bounds.0 p.rows_in_bounds.1 p.rows_in_bounds_2.0 p.rows_in_bounds_2.1 in
    let x = c.split-end in
    let is = level.root_is d cs g.0 leaf g.2 R g.4 g.3 u.result u.ensures.1 in
    let w = written_of refl is (rw p.base at x.ensures.written) in
    let eR = x.ensures.rows ∙ ap rows_under is in
    level.level-tabled d cs g.0 leaf g.2 R g.4 g.3 x.new.rows x.new.room.wholes.now x.new.room.floats.now x.new.records.cuts.now x.new.records.planes.now eR w x.auto.rows x.ensures.same.0.wholes_len x.ensures.same.0.floats_len x.ensures.same.1.cuts_len room g.1 a.args.start.from a.args.start.first a.args.domains.now a.args.boxes.now p.rows_bound.0 p.rows_bound.1 p.rows_bound.2

pub returns : goal.returns
returns c = let a = c in
    let p = a.requires in
    let g = p.dimensions_nonzero in
    let R = a.args.rows.now in
    let d = a.args.level.points.dimensions in
    let cs = a.args.level.points.coordinates.now in
    let leaf = a.args.level.leaf in
    let u = c.get_pointarray_extents-whole in
    let room = level.root-space d cs g.0 leaf g.2 R g.4 g.3 a.args.start.node p.rows_in_bounds.0 p.rows_in_bounds.1 p.rows_in_bounds_2.0 p.rows_in_bounds_2.1 in
    let x = c.split-end in
    let is = level.root_is d cs g.0 leaf g.2 R g.4 g.3 u.result u.ensures.1 in
    let w = written_of refl is (rw p.base at x.ensures.written) in
    let eR = x.ensures.rows ∙ ap rows_under is in
    let e = c.number_leaves.ensures in
    let rows = level.level-rows d cs g.0 leaf g.2 R g.4 g.3 x.new.rows x.new.room.wholes.now x.new.room.floats.now x.new.records.cuts.now x.new.records.planes.now eR w x.auto.rows x.ensures.same.0.wholes_len x.ensures.same.0.floats_len x.ensures.same.1.cuts_len room in
    let own = level.level-own d cs g.0 leaf g.2 R g.4 g.3 x.new.rows x.new.room.wholes.now x.new.room.floats.now x.new.records.cuts.now x.new.records.planes.now eR w x.auto.rows x.ensures.same.0.wholes_len x.ensures.same.0.floats_len x.ensures.same.1.cuts_len room in
    let m = level.level-many d cs g.0 leaf g.2 R g.4 g.3 x.new.rows x.new.room.wholes.now x.new.room.floats.now x.new.records.cuts.now x.new.records.planes.now eR w x.auto.rows x.ensures.same.0.wholes_len x.ensures.same.0.floats_len x.ensures.same.1.cuts_len room in
    let domains = e.domains ∙ ap (λ (z : List Own). with_own a.args.start.from z a.args.start.first a.args.domains.now) own in
    let boxes = e.boxes ∙ ap (λ (z : List (List Float)). put a.args.boxes.now (box_width_lem d * a.args.start.first) (joined z)) (level.level-boxes d cs g.0 leaf g.2 R g.4 g.3 x.new.rows x.new.room.wholes.now x.new.room.floats.now x.new.records.cuts.now x.new.records.planes.now eR w x.auto.rows x.ensures.same.0.wholes_len x.ensures.same.0.floats_len x.ensures.same.1.cuts_len room) in
    let cuts = e.cuts ∙ level.level-cuts-are d cs g.0 leaf g.2 R g.4 g.3 x.new.rows x.new.room.wholes.now x.new.room.floats.now x.new.records.cuts.now x.new.records.planes.now eR w x.auto.rows x.ensures.same.0.wholes_len x.ensures.same.0.floats_len x.ensures.same.1.cuts_len room in record {
      same = search rules;
      number = m;
      nodes = omega (arith, m, record-long d cs g.0 leaf g.2 R g.4 g.3);
      rows = e.rows ∙ ap joined rows;
      domains = search (rules, domains);
      boxes = search (rules, boxes);
      cuts = search (rules, cuts);
      planes = level.level-planes d cs g.0 leaf g.2 R g.4 g.3 x.new.rows x.new.room.wholes.now x.new.room.floats.now x.new.records.cuts.now x.new.records.planes.now eR w x.auto.rows x.ensures.same.0.wholes_len x.ensures.same.0.floats_len x.ensures.same.1.cuts_len room;
    }
