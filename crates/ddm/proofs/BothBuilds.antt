-- The two builds on equal input: the same settings and points, the same lists before, and the same room. Both hand back the same answer, the
-- same five lists, and the same two lists of the records. Assumes nothing.
use mathlib.Core.Path.{◌≡◌, sym, ◌∙◌}
use mathlib.Core.List.{List}
use Prim.Native.Nat.{ℕ}
use lib.Ieee.{Float}
use Rattle.definition.specs.Tree.{Settings}
use Rattle.definition.specs.Packed.{Counts}
use Rattle.definition.specs.Outcome.{Answer, TreeLists, RecordLists}
use Rattle.points_build.specs.Outcome.{Built}

-- what the contract of each promises
pub both-builds : (s : Settings) (cs : List Float) (old : TreeLists) (floats : List Float) (wholes : List ℕ) (records : RecordLists)
    {new deep : TreeLists} {floats' floats'' : List Float} {wholes' wholes'' : List ℕ} {records' records'' : RecordLists} {answer said : Answer Counts}
    → Built s cs old new floats floats' wholes wholes' records records' answer → Built s cs old deep floats floats'' wholes wholes'' records records'' said
    → (said ≡ answer) × ((deep ≡ new) × (records'' ≡ records'))
both-builds s cs old floats wholes records b d = (d.answers ∙ sym b.answers, (d.lists ∙ sym b.lists, d.records ∙ sym b.records))
