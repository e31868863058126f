-- `cut_engine::cut_level` meets its contract, by the engine. Assumes nothing.
use native.Mathlib.Omega.{arith}
use Rattle.record_laws.proofs.Long.{level-nodes}
use Rattle.cut_engine.proofs.cut_level.Goals as goal
use Rattle.cut_engine.proofs.cut_level.Goals.{in-Queue, in-DepthFirst}

pub overflow_mul-result : goal.overflow_mul-result
overflow_mul-result c = let p = c.requires.dimensions_nonzero in
    let P = c.args in
    let few = level-nodes P.points.dimensions P.points.coordinates.now p.0 P.leaf p.2 P.active.now p.4 p.3 in
    elim c.match-engine.branch [
      | in-Queue w ↦ record { fits = omega (arith, few, w.leaves-is, w.leaves-leaves.ensures.nodes, p.4.few) }
      | in-DepthFirst w ↦ record { fits = omega (arith, few, w.leaves-is, w.leaves-leaves-in-DepthFirst.ensures.nodes, p.4.few) }
    ]

pub returns-clause-counts : goal.returns-clause-counts
returns-clause-counts c = let p = c.requires.dimensions_nonzero in
    let P = c.args in
    let few = level-nodes P.points.dimensions P.points.coordinates.now p.0 P.leaf p.2 P.active.now p.4 p.3 in
    elim c.match-engine.branch [
      | in-Queue w ↦
          let e = w.leaves-leaves.ensures in
          (omega (arith, w.leaves-is, e.number), omega (arith, w.leaves-is, e.nodes), omega (arith, w.leaves-is, e.nodes, few))
      | in-DepthFirst w ↦
          let e = w.leaves-leaves-in-DepthFirst.ensures in
          (omega (arith, w.leaves-is, e.number), omega (arith, w.leaves-is, e.nodes), omega (arith, w.leaves-is, e.nodes, few))
    ]
