-- `load_lists::put_level` meets its contract. Assumes nothing.
use mathlib.Core.Path.{ap, ◌∙◌}
use native.Mathlib.Omega.{arith}
use borrow.Author.Rules.{rules}
use Prim.Native.Nat.{◌+◌, ◌≤◌}
use lib.ListN.{length, drop}
use Rattle.bytes_in.proofs.Fields.{lent_many, numbers-back}
use Rattle.lists.specs.Lists.{put}
use Rattle.file_levels.specs.Levels.{HeadHere}
use Rattle.load_lists.proofs.Level.{level-stands, level-within, rows-many, rows-read, rows-within, domains-stand, domains-after, domains-room, level-written}
use Rattle.load_lists.proofs.put_level.Goals as goal

pub level_at-requires : goal.level_at-requires
level_at-requires c = let a = c.args in omega (arith, level-within a.dimensions a.bytes.now a.c c.requires.dimensions_bound.1)

pub unwrap-head-requires : goal.unwrap-head-requires
unwrap-head-requires c = let a = c.args in c.level_at.ensures.stands ∙ level-stands a.dimensions a.bytes.now a.c c.requires.dimensions_bound.1

pub slice_bounds-read_fields-end : goal.slice_bounds-read_fields-end
slice_bounds-read_fields-end c = let a = c.args in
    let whole = c.requires.dimensions_bound.1 in
    let h : HeadHere (drop a.c.at a.bytes.now) a.c.at c.unwrap-head.result = (rw c.unwrap-head.ensures at c.level_at.ensures).parts in
    omega (arith, c.requires.bytes_in_bounds.0, rows-many a.dimensions a.bytes.now a.c whole h)

pub read_fields-requires : goal.read_fields-requires
read_fields-requires c = let a = c.args in
    let whole = c.requires.dimensions_bound.1 in
    let h : HeadHere (drop a.c.at a.bytes.now) a.c.at c.unwrap-head.result = (rw c.unwrap-head.ensures at c.level_at.ensures).parts in
    let fits : a.c.points + c.unwrap-head.result.rows ≤ length a.lists.now.level_points.now = omega (arith, c.requires.bytes_in_bounds.0, rows-many a.dimensions a.bytes.now a.c whole h) in
    omega (arith, rows-within a.dimensions a.bytes.now a.c whole h, lent_many a.lists.now.level_points.now a.c.points _ fits)

pub overflow_add-end : goal.overflow_add-end
overflow_add-end c = let a = c.args in
    let whole = c.requires.dimensions_bound.1 in
    let h : HeadHere (drop a.c.at a.bytes.now) a.c.at c.unwrap-head.result = (rw c.unwrap-head.ensures at c.level_at.ensures).parts in
    omega (arith, c.requires.bytes_in_bounds.0, rows-many a.dimensions a.bytes.now a.c whole h)

pub put_domains-requires : goal.put_domains-requires
put_domains-requires c = let a = c.args in
    let whole = c.requires.dimensions_bound.1 in
    let h : HeadHere (drop a.c.at a.bytes.now) a.c.at c.unwrap-head.result = (rw c.unwrap-head.ensures at c.level_at.ensures).parts in
    record {
      dimensions_bound = (c.requires.dimensions_bound.0, domains-stand a.dimensions a.bytes.now a.c whole h);
      room = domains-room a.dimensions a.bytes.now a.c whole h c.requires.bytes_in_bounds.1;
    }

pub returns : goal.returns
returns c = let a = c.args in
    let whole = c.requires.dimensions_bound.1 in
    let h : HeadHere (drop a.c.at a.bytes.now) a.c.at c.unwrap-head.result = (rw c.unwrap-head.ensures at c.level_at.ensures).parts in
    let w = c.put_domains.ensures in
    let fits : a.c.points + c.unwrap-head.result.rows ≤ length a.lists.now.level_points.now = omega (arith, c.requires.bytes_in_bounds.0, rows-many a.dimensions a.bytes.now a.c whole h) in
    record {
      same = search rules;
      next = (
        w.next.0 ∙ domains-after a.dimensions a.bytes.now a.c whole h,
        omega (arith, w.next.1, rows-many a.dimensions a.bytes.now a.c whole h),
      );
      level_points = w.kept ∙ numbers-back _ _ _ _ a.lists.now.level_points.now fits c.read_fields.ensures ∙ ap (put a.lists.now.level_points.now a.c.points) (rows-read a.dimensions a.bytes.now a.c whole h);
      written = level-written a.dimensions a.bytes.now a.c whole h w.written;
    }
