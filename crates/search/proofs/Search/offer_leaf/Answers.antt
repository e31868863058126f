-- `search::Search::offer_leaf` meets its contract: it offers one row after the other. Assumes nothing.
use mathlib.Core.Path.{ap}
use native.Mathlib.Omega.{arith}
use lib.ListN.{length}
use Rattle.cut_index.proofs.Positions.{positions-length}
use Rattle.search.proofs.Offering.{offers-none, leaf-asked, leaf-more}
use Rattle.search.proofs.Search.offer_leaf.Goals as goal

pub loop-k-init : goal.loop-k-init
loop-k-init c = let a = c.args in offers-none a.self a.row a.near.now a.far.now a.count

pub bounds-rows-k : goal.bounds-rows-k
bounds-rows-k c = let a = c.args in
    omega (arith, c.loop-k-test.true, ap length c.requires.1, positions-length a.self.active.now a.rows.own.now)

pub offer-so_far-requires : goal.offer-so_far-requires
offer-so_far-requires c = let a = c.args in
    let l = c.loop-k in
    leaf-asked a.self a.row a.rows.own.now a.rows.places.now c.requires.1 a.near.now a.far.now a.count l.k c.loop-k-test.true l.near l.far l.so_far l.invariant
    c.requires.0 c.requires.2 c.requires.3

pub loop-k-preserved : goal.loop-k-preserved
loop-k-preserved c = let a = c.args in
    let l = c.loop-k in
    let f = c.offer-so_far in
    leaf-more a.self a.row a.rows.own.now a.rows.places.now c.requires.1 a.near.now a.far.now a.count l.k c.loop-k-test.true l.near l.far l.so_far l.invariant
    f.new.near f.new.far f.result f.ensures
