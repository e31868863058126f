use mathlib.Core.Path.{◌≡◌}
use Prim.Native.Nat.{◌≤◌}
use lib.ListN.{length}
use Rattle.live_slots.proofs.Listed.{Listing}
use Rattle.live_slots.proofs.list_live.Given as goal

abbrev pub invariant-loop-i : goal.invariant-loop-i
invariant-loop-i l = (l.n ≤ l.i) × (length l.rows ≡ length l.initial.rows) × Listing l.table.flags.now l.initial.rows l.rows l.i l.n
