-- `search::Search::nearest` meets its contract. Assumes nothing.
use mathlib.Core.List.{[]}
use native.Mathlib.Omega.{arith}
use Rattle.nearest_scan.proofs.Takes.{found_none}
use Rattle.search.proofs.Searching.{root-asked, root-found}
use Rattle.search.proofs.Search.nearest.Goals as goal

pub returns-then-self-eq0 : goal.returns-then-self-eq0
returns-then-self-eq0 c = let a = c.args in
    found_none a.self.points.dimensions a.self.points.coordinates.now a.self.active.now a.row c.requires.0.good c.requires.1 a.self.neighbours [] [] c.if-self-eq0.true

pub visit-requires : goal.visit-requires
visit-requires c = let a = c.args in root-asked a.self a.row c.requires.0 c.requires.1 a.near.now a.far.now c.requires.2 c.requires.3 (omega (arith, c.if-self-eq0.false))

pub returns : goal.returns
returns c = let a = c.args in
    let v = c.visit in
    root-found a.self a.row c.requires.0 c.requires.1 a.near.now a.far.now c.requires.2 c.requires.3 v.new.near v.new.far v.result v.ensures
