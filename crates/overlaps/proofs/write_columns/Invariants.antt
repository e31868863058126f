use Prim.Native.Nat.{ℕ, ◌≤◌}
use mathlib.Core.Path.{◌≡◌}
use mathlib.Core.List.{List}
use lib.ListN.{length}
use Rattle.overlaps.specs.Codes.{codes_from, Positions}
use Rattle.overlaps.proofs.Columns.{Columned}
use Rattle.rows.specs.Rows.{most_leaves}
use Rattle.overlaps.proofs.write_columns.Given as goal

abbrev pub invariant-loop-leaf : goal.invariant-loop-leaf
invariant-loop-leaf l = (l.start ≤ length l.codes) × ((ls : List (List ℕ)) → Positions l.m most_leaves ls → l.codes ≡ codes_from 0 ls → Columned l.codes l.first l.bat l.initial.domains l.domains l.leaf l.start ls)
