-- `overlaps::overlaps` meets its contract. The owners, the index, the pairs, and what they lend: `Stages`. Assumes nothing.
use Prim.Native.Nat.{ℕ, ◌+◌, ◌*◌, ◌≤◌}
use mathlib.Core.Path.{◌≡◌}
use mathlib.Core.List.{List}
use native.Mathlib.Omega.{arith}
use borrow.Author.Rules.{rules}
use lib.ListN.{length}
use lib.Ieee.{Float}
use Rattle.lists.specs.Lists.{part, joined}
use Rattle.definition.specs.Record.{Cuts, level_cuts}
use Rattle.packed.specs.View.{own_of}
use Rattle.packed.specs.Reading.{read_own}
use Rattle.packed.specs.declared.LevelLeaves.{LevelLeaves}
use Rattle.cut_index.specs.Filed.{positions_of as places_of}
use Rattle.cut_index.specs.Recorded.{Recorded}
use Rattle.overlap_owners.specs.Own.{Leaves, Owned}
use Rattle.overlaps.proofs.Stages.{sent-fits, stage-index, stage-boxed, stage-rows, stage-recorded, stage-places, stage-owners, stage-length, stage-inside, stage-encoded, stage-number, stage-borrowed, stage-domains}
use Rattle.overlaps.proofs.Borrows.{positions_of}
use Rattle.overlaps.proofs.overlaps.Goals as goal

-- the view of these leaves
abbrev Views : LevelLeaves → List ℕ → List ℕ → ℕ → ℕ → Type 0
Views l I D first m = (l.internals.now ≡ I) × (l.domains.now ≡ D) × (l.first ≡ first) × (l.count ≡ m)

module _ (l : LevelLeaves) (I D : List ℕ) (first m : ℕ) (e : Views l I D first m) (active : List ℕ) where
  viewed : Leaves active I D first m → Leaves active l.internals.now l.domains.now l.first l.count
  viewed h = rw (e.0, e.1, e.2, e.3) h

  owned : (wholes : List ℕ) → Owned active (own_of l) wholes → Owned active (read_own I D first m) wholes
  owned wholes h = rw (e.0, e.1, e.2, e.3) at h

  placed : (positions : List ℕ) → positions ≡ places_of active (joined (own_of l)) → positions ≡ places_of active (joined (read_own I D first m))
  placed positions h = rw (e.0, e.1, e.2, e.3) at h

  recorded : (cuts : List ℕ) (planes : List Float) (from : ℕ) (positions : List ℕ) (t : Cuts) → Recorded active cuts planes I D first m from positions t 0
      → Recorded active cuts planes l.internals.now l.domains.now l.first l.count from positions t 0
  recorded cuts planes from positions t h = rw (e.0, e.1, e.2, e.3) h

pub owners-requires : goal.owners-requires
owners-requires c =
    let p = c.requires in
    let a = c.args in
    let v = a.leaves.now in
    let f = c.split_at_mut-positions.ensures in
    let b = c.split_at_mut-index.ensures in
    record {
      leaves = viewed c.level-level.result v.internals.now v.domains.now v.first v.count c.level-level.ensures a.active.now p.stage.1.leaves;
      room = (omega (arith, p.neighbours_in_bounds.0, f.back_len, b.back_len), f.front_len);
    }

pub put_index-requires-clause-recorded : goal.put_index-requires-clause-recorded
put_index-requires-clause-recorded c =
    let p = c.requires in
    let a = c.args in
    let v = a.leaves.now in
    let positions = c.owners.new.positions in
    let t = level_cuts a.points.dimensions a.points.coordinates.now p.stage.0 a.active.now in (
      a.active.now,
      t,
      recorded c.level-level.result v.internals.now v.domains.now v.first v.count c.level-level.ensures a.active.now a.cuts.now a.planes.now a.from positions t
          (stage-recorded a.points.dimensions a.points.coordinates.now p.stage.0 a.neighbours a.active.now a.cuts.now a.planes.now v.internals.now v.domains.now v.first v.count a.from p.stage.1 positions (placed c.level-level.result v.internals.now v.domains.now v.first v.count c.level-level.ensures a.active.now positions c.owners.ensures.positions)),
    )

pub put_index-requires-clause-room : goal.put_index-requires-clause-room
put_index-requires-clause-room c =
    let p = c.requires in
    let a = c.args in
    let v = a.leaves.now in
    omega (arith, c.split_at_mut-index.ensures.front_len, stage-index a.points.dimensions a.points.coordinates.now p.stage.0 a.neighbours a.active.now a.cuts.now a.planes.now v.internals.now v.domains.now v.first v.count a.from p.stage.1)

pub send_all-end-requires : goal.send_all-end-requires
send_all-end-requires c =
    let p = c.requires in
    let a = c.args in
    let v = a.leaves.now in
    let W = c.owners.new.wholes in
    let o = owned c.level-level.result v.internals.now v.domains.now v.first v.count c.level-level.ensures a.active.now W c.owners.ensures.owned in
    let long : length a.active.now + 2 * length a.active.now * (a.neighbours + 1) ≤ length W =
    omega (arith, p.neighbours_in_bounds.0, c.split_at_mut-positions.ensures.back_len, c.split_at_mut-index.ensures.back_len, c.owners.auto.wholes) in
    let h : length a.active.now ≤ length W = omega arith in
    let positions = c.owners.new.positions in
    let placed_by = placed c.level-level.result v.internals.now v.domains.now v.first v.count c.level-level.ensures a.active.now positions c.owners.ensures.positions in
    let t = level_cuts a.points.dimensions a.points.coordinates.now p.stage.0 a.active.now in
    let L = p.stage.1.level in
    record {
      level = (
        t,
        c.put_index.ensures.filed a.active.now t (recorded c.level-level.result v.internals.now v.domains.now v.first v.count c.level-level.ensures a.active.now a.cuts.now a.planes.now a.from positions t (stage-recorded a.points.dimensions a.points.coordinates.now p.stage.0 a.neighbours a.active.now a.cuts.now a.planes.now v.internals.now v.domains.now v.first v.count a.from p.stage.1 positions placed_by)),
        stage-boxed a.points.dimensions a.points.coordinates.now p.stage.0 a.neighbours a.active.now a.cuts.now a.planes.now v.internals.now v.domains.now v.first v.count a.from p.stage.1,
        stage-rows a.points.dimensions a.points.coordinates.now p.stage.0 a.neighbours a.active.now a.cuts.now a.planes.now v.internals.now v.domains.now v.first v.count a.from p.stage.1,
      );
      rows = (L.axes_few, L.rows_some, p.stage.1.rows, p.stage.1.near);
      room = (stage-owners a.points.dimensions a.points.coordinates.now p.stage.0 a.neighbours a.active.now a.cuts.now a.planes.now v.internals.now v.domains.now v.first v.count a.from p.stage.1 W o h, stage-places a.points.dimensions a.points.coordinates.now p.stage.0 a.neighbours a.active.now a.cuts.now a.planes.now v.internals.now v.domains.now v.first v.count a.from p.stage.1 positions placed_by, omega (arith, sent-fits (length a.active.now) a.neighbours));
    }

pub lend-requires : goal.lend-requires
unfolding part
lend-requires c =
    let p = c.requires in
    let a = c.args in
    let v = a.leaves.now in
    let W = c.owners.new.wholes in
    let o = owned c.level-level.result v.internals.now v.domains.now v.first v.count c.level-level.ensures a.active.now W c.owners.ensures.owned in
    let long : length a.active.now + 2 * length a.active.now * (a.neighbours + 1) ≤ length W =
    omega (arith, p.neighbours_in_bounds.0, c.split_at_mut-positions.ensures.back_len, c.split_at_mut-index.ensures.back_len, c.owners.auto.wholes) in
    let h : length a.active.now ≤ length W = omega arith in
    let g = c.send_all-end in
    let U = g.new.wholes in
    let r : length a.active.now + 2 * length a.active.now * (a.neighbours + 1) ≤ length U = omega (arith, g.auto.wholes) in (
      p.stage.1.few,
      p.stage.1.leaf_few,
      p.stage.1.leaves.rows,
      omega (arith, stage-length a.points.dimensions a.points.coordinates.now p.stage.0 a.neighbours a.active.now a.cuts.now a.planes.now v.internals.now v.domains.now v.first v.count a.from p.stage.1 W o h U g.result g.ensures r, p.neighbours_in_bounds.1),
      stage-inside a.points.dimensions a.points.coordinates.now p.stage.0 a.neighbours a.active.now a.cuts.now a.planes.now v.internals.now v.domains.now v.first v.count a.from p.stage.1 W o h U g.result g.ensures r,
    )

pub returns : goal.returns
unfolding part
returns c =
    let p = c.requires in
    let a = c.args in
    let v = a.leaves.now in
    let W = c.owners.new.wholes in
    let o = owned c.level-level.result v.internals.now v.domains.now v.first v.count c.level-level.ensures a.active.now W c.owners.ensures.owned in
    let long : length a.active.now + 2 * length a.active.now * (a.neighbours + 1) ≤ length W =
    omega (arith, p.neighbours_in_bounds.0, c.split_at_mut-positions.ensures.back_len, c.split_at_mut-index.ensures.back_len, c.owners.auto.wholes) in
    let h : length a.active.now ≤ length W = omega arith in
    let g = c.send_all-end in
    let U = g.new.wholes in
    let r : length a.active.now + 2 * length a.active.now * (a.neighbours + 1) ≤ length U = omega (arith, g.auto.wholes) in
    let ls = positions_of a.points.dimensions a.points.coordinates.now a.neighbours a.active.now (read_own v.internals.now v.domains.now v.first v.count) in
    let l = c.lend in
    let H = stage-encoded a.points.dimensions a.points.coordinates.now p.stage.0 a.neighbours a.active.now a.cuts.now a.planes.now v.internals.now v.domains.now v.first v.count a.from p.stage.1 W o h U g.result g.ensures r in record {
      same = search rules;
      number = stage-number a.points.dimensions a.points.coordinates.now p.stage.0 a.neighbours a.active.now a.cuts.now a.planes.now v.internals.now v.domains.now v.first v.count a.from p.stage.1 W o h U g.result g.ensures r l.result (l.ensures.number ls H);
      borrowed = stage-borrowed a.points.dimensions a.points.coordinates.now p.stage.0 a.neighbours a.active.now a.cuts.now a.planes.now v.internals.now v.domains.now v.first v.count a.from p.stage.1 W o h U g.result g.ensures r v.borrowed.now l.new.self.borrowed.now v.at (l.ensures.rows ls H);
      domains = stage-domains a.points.dimensions a.points.coordinates.now p.stage.0 a.neighbours a.active.now a.cuts.now a.planes.now v.internals.now v.domains.now v.first v.count a.from p.stage.1 W o h U g.result g.ensures r l.new.self.domains.now v.at (l.ensures.columns ls H);
      most = omega (arith, l.ensures.most, stage-length a.points.dimensions a.points.coordinates.now p.stage.0 a.neighbours a.active.now a.cuts.now a.planes.now v.internals.now v.domains.now v.first v.count a.from p.stage.1 W o h U g.result g.ensures r);
    }
