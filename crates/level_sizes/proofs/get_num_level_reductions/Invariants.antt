use mathlib.Core.Path.{◌≡◌}
use Prim.Native.Nat.{ℕ, ◌^◌, ◌*◌, ◌<◌}
use Rattle.level_sizes.proofs.get_num_level_reductions.Given as goal

abbrev pub invariant-loop-k : goal.invariant-loop-k
invariant-loop-k l = (l.covered ≡ l.c * l.f ^ l.k) × ((j : ℕ) → j < l.k → l.c * l.f ^ j < l.n)
