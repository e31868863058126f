use mathlib.Core.Path.{◌≡◌}
use Rattle.lists.specs.Lists.{put, part}
use Rattle.closing.proofs.move_point.Given as goal

abbrev pub invariant-loop-i : goal.invariant-loop-i
invariant-loop-i l = l.coordinates ≡ put l.initial.coordinates l.to (part l.initial.coordinates l.from l.i)
