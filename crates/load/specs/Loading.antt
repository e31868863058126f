-- The outcome of a load. Definitions only.
use Rattle.std.specs.Prelude.{ℕ, ◌≡◌, List, Float}
use Rattle.definition.specs.Tree.{Settings, point_count}
use Rattle.definition.specs.Packed.{Counts}
use Rattle.definition.specs.Refusals.{accepted}
use Rattle.definition.specs.Outcome.{Answer, TreeLists}
use Rattle.demand3.specs.Handed.{handed}
use Rattle.demand3.specs.LoadedTree.{LoadedTree}
use Rattle.demand3.specs.Depths.{TreeDepths}
use Rattle.stored.specs.Outcome.{load_verdict, load_answer, load_lists_lem}

-- The complete outcome of a call of the loader: its answer and the five lists, each by its own equation; and, of an accepted call,
-- demand 3's rules of what it hands out, and its leaves' depths.
pub record Loaded (s : Settings) (cs : List Float) (bs : List ℕ) (old new : TreeLists) (answer : Answer Counts) : Type 0 where
  pub answers : answer ≡ load_answer s cs bs old
  pub level_points : new.level_points ≡ (load_lists_lem s cs bs old).level_points
  pub internals : new.internals ≡ (load_lists_lem s cs bs old).internals
  pub domains : new.domains ≡ (load_lists_lem s cs bs old).domains
  pub boxes : new.boxes ≡ (load_lists_lem s cs bs old).boxes
  pub borrowed : new.borrowed ≡ (load_lists_lem s cs bs old).borrowed
  pub rules : load_verdict s cs bs old ≡ accepted → LoadedTree s.dimension (point_count s.dimension cs) (handed answer new)
  pub depths : load_verdict s cs bs old ≡ accepted → TreeDepths (handed answer new)
