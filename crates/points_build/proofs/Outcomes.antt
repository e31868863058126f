-- The outcome of a build over all points: demand 3 and the depths follow from its answer and its lists. Assumes nothing.
use mathlib.Core.Path.{◌≡◌, ap}
use mathlib.Core.List.{List}
use Prim.Native.Nat.{ℕ}
use lib.Ieee.{Float}
use Rattle.definition.specs.Tree.{Settings, levels}
use Rattle.definition.specs.Packed.{Counts, counts_of}
use Rattle.definition.specs.Outcome.{RecordLists, Answer, TreeLists, answered, tree_lists_after, record_lists_after, RoomAfter, zero_counts, build_call, build_answer, build_lists, build_records}
use Rattle.demand3.proofs.Demand.{demand-3-of, tree-depths-of}
use Rattle.points_build.specs.Outcome.{Built}

pub built : (s : Settings) (cs : List Float) (old : TreeLists) (floats : List Float) (wholes : List ℕ) (records : RecordLists)
    {floats' : List Float} {wholes' : List ℕ} {records' : RecordLists} {new : TreeLists} {answer : Answer Counts}
    → answer ≡ answered (build_call s cs old floats wholes records) (counts_of (levels s cs)) zero_counts
    → new ≡ tree_lists_after (build_call s cs old floats wholes records) (levels s cs) old
    → records' ≡ record_lists_after (build_call s cs old floats wholes records) s cs (levels s cs) records
    → RoomAfter (build_call s cs old floats wholes records) floats floats' → RoomAfter (build_call s cs old floats wholes records) wholes wholes'
    → Built s cs old new floats floats' wholes wholes' records records' answer
unfolding build_answer build_lists build_records
built s cs old floats wholes records a l r f w =
    record {
      answers = a;
      lists = l;
      records = r;
      floats_free = f;
      wholes_free = w;
      demand3 =
          demand-3-of s cs old floats wholes records _ _ _ _ _ _ a (ap (λ (t : TreeLists). t.level_points) l) (ap (λ (t : TreeLists). t.internals) l)
          (ap (λ (t : TreeLists). t.domains) l) (ap (λ (t : TreeLists). t.boxes) l) (ap (λ (t : TreeLists). t.borrowed) l);
      depths =
          tree-depths-of s cs old floats wholes records _ _ _ _ _ _ a (ap (λ (t : TreeLists). t.level_points) l) (ap (λ (t : TreeLists). t.internals) l)
          (ap (λ (t : TreeLists). t.domains) l) (ap (λ (t : TreeLists). t.boxes) l) (ap (λ (t : TreeLists). t.borrowed) l);
    }
