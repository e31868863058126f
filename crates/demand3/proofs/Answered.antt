-- A caller sees in the answer that a build was accepted: each refusal has a number that is not 0. Assumes nothing.
use mathlib.Core.Path.{◌≡◌}
use mathlib.Core.List.{List}
use Prim.Native.Nat.{ℕ}
use lib.Ieee.{Float}
use Rattle.definition.specs.Tree.{Settings}
use Rattle.definition.specs.Refusals.{accepted}
use Rattle.definition.specs.Outcome.{RecordLists, TreeLists, build_call, build_answer}
use Rattle.definition_laws.proofs.Accepted.{build-zero}

-- THE LAW
pub answered-zero : (s : Settings) (cs : List Float) (old : TreeLists) (floats : List Float) (wholes : List ℕ) (records : RecordLists)
    → (build_answer s cs old floats wholes records).number ≡ 0 → build_call s cs old floats wholes records ≡ accepted
unfolding build_answer
answered-zero s cs old floats wholes records e = build-zero s cs _ e
