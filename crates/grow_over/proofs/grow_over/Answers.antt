-- `grow_over::grow_over` meets its contract. Assumes nothing.
use mathlib.Core.Path.{sym, ap, ◌∙◌}
use mathlib.Core.List.{List}
use native.Mathlib.Omega.{arith}
use borrow.Author.Rules.{rules}
use Rattle.lists.specs.Lists.{put, part}
use Rattle.lists.proofs.Put.{length_part}
use Rattle.definition.specs.Levels.{threshold}
use Rattle.definition.specs.Tree.{Level}
use Rattle.definition.specs.Packed.{counts_of, packed_level_points, packed_internals, packed_domains, packed_boxes, packed_borrowed}
use Rattle.definition.specs.Record.{whole_of, float_of}
use Rattle.definition.proofs.Sizes.{reductions-few}
use Rattle.config.specs.Params.{settings_of_lem}
use Rattle.grow_over.proofs.Over.{tree_is, counts_whole, records-whole}
use Rattle.grow_over.proofs.grow_over.Goals as goal

pub get_num_level_reductions-k-requires : goal.get_num_level_reductions-k-requires
get_num_level_reductions-k-requires c = let P = c.args in
    let pre = c.requires in
    omega (arith, length_part P.lists.now.level_points.now 0 P.n (omega (arith, pre.space.level_points)), pre.bound.2.good.few)

pub all_levels-requires : goal.all_levels-requires
all_levels-requires c = let P = c.args in
    let pre = c.requires in
    let s = settings_of_lem P.points.dimensions P.params in
    let ec = c.resolved_coarse_threshold-c.ensures in
    let ek = rw ec at c.get_num_level_reductions-k.ensures in record {
      le_c = (omega (arith, ec, pre.bound.0), omega (arith, ek, reductions-few P.n (threshold s.policy P.n) s.factor pre.bound.1), pre.bound.2);
      space = pre.space;
      record_room = pre.record_room;
    }

pub returns : goal.returns
returns c = let P = c.args in
    let pre = c.requires in
    let s = settings_of_lem P.points.dimensions P.params in
    let cs = P.points.coordinates.now in
    let rows = part P.lists.now.level_points.now 0 P.n in
    let ec = c.resolved_coarse_threshold-c.ensures in
    let ek = c.get_num_level_reductions-k.ensures in
    let w = c.all_levels.ensures in
    let t = tree_is s cs rows P.n _ _ (length_part P.lists.now.level_points.now 0 P.n (omega (arith, pre.space.level_points))) ec ek in record {
      same = search rules;
      counts = counts_whole _ _ _ _ _ _ _ _ _ _ w.counts.0 w.counts.1 w.counts.2 ∙ ap counts_of (sym t);
      level_points = w.level_points ∙ ap (λ (ls : List Level). put P.lists.now.level_points.now 0 (packed_level_points ls)) (sym t);
      internals = w.internals ∙ ap (λ (ls : List Level). put P.lists.now.internals.now 0 (packed_internals ls)) (sym t);
      domains = w.domains ∙ ap (λ (ls : List Level). put P.lists.now.domains.now 0 (packed_domains ls)) (sym t);
      boxes = w.boxes ∙ ap (λ (ls : List Level). put P.lists.now.boxes.now 0 (packed_boxes ls)) (sym t);
      borrowed = w.borrowed ∙ ap (λ (ls : List Level). put P.lists.now.borrowed.now 0 (packed_borrowed ls)) (sym t);
      cuts = records-whole whole_of s cs _ _ P.records.now.cuts.now _ t w.cuts;
      planes = records-whole float_of s cs _ _ P.records.now.planes.now _ t w.planes;
    }
