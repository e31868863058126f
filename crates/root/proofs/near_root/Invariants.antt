use Prim.Native.Nat.{◌+◌, ◌-◌, ◌*◌, ◌^◌, ◌≤◌, ◌<◌}
use Rattle.root.proofs.near_root.Given as goal

abbrev pub invariant-loop-lo : goal.invariant-loop-lo
invariant-loop-lo l = (2 ^ 52 ≤ l.lo) × (l.lo ≤ l.hi) × (l.hi < 2 ^ 53) × (l.lo * l.lo < l.n * 2 ^ 52 + l.lo) × (l.n * 2 ^ 52 ≤ l.hi * l.hi + l.hi)

abbrev pub decreases-loop-lo : goal.decreases-loop-lo
decreases-loop-lo l = l.hi - l.lo
