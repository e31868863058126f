-- What has demand 3 has the rules of a loaded tree. Assumes nothing.
use mathlib.Core.List.{List}
use lib.Ieee.{Float}
use Rattle.definition.specs.Tree.{Settings, point_count}
use Rattle.demand3.specs.Handed.{Handed}
use Rattle.demand3.specs.Demand3.{Demand3}
use Rattle.demand3.specs.LoadedTree.{LoadedTree}

-- THE LAW
pub demand-3-loaded : (s : Settings) (cs : List Float) (h : Handed) → Demand3 s cs h → LoadedTree s.dimension (point_count s.dimension cs) h
demand-3-loaded s cs h m = record {
  first_lists_all = m.first_lists_all;
  each_rows = λ l k. (m.each_fine l k).rows;
  each_next = λ l k. (m.each_fine l k).next;
  some_level = m.some_level;
  few_levels = m.few_levels;
  last_single = m.last_coarse.single;
  counted = m.counted;
  none_beyond = m.none_beyond;
}
