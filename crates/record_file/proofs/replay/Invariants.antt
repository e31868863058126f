use Rattle.std.proofs.Common.{◌≡◌, ◌≤◌}
use Rattle.record_file.specs.Tallies.{FirstOf}
use Rattle.record_file.proofs.replay.Given as goal

abbrev pub invariant-loop-calls : goal.invariant-loop-calls
invariant-loop-calls g l =
    record {
      calls : l.tally.calls ≡ l.calls;
      differ : l.tally.differ ≤ l.calls;
      first : FirstOf l.tally.calls l.tally.differ l.tally.first;
    }
