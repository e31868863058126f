use mathlib.Core.List.{List}
use Prim.Native.Nat.{ℕ}
use lib.ListN.{get_or}
use lib.Ieee.{Float, nan}
use Rattle.definition.specs.Number.{square_root_lem}
use Rattle.sampling_rounds.proofs.Roots.{Looked}
use Rattle.sampling_rounds.proofs.look_back.Given as goal

abbrev value : List Float → ℕ → Float
value floats i = get_or floats i nan

abbrev pub invariant-loop-i : goal.invariant-loop-i
invariant-loop-i l = Looked (value l.floats) (square_root_lem (value l.floats l.best)) l.low l.i
