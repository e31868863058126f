-- `sampling_rounds::Sampled::worst_distance` meets its contract. Assumes nothing.
use borrow.Author.Rules.{rules}
use Rattle.sampling_rounds.specs.Rounds.{brought}
use Rattle.sampling_rounds.proofs.Passes.{lessened-kept, lessened-good}
use Rattle.sampling_rounds.proofs.Roots.{greatest-good, peak-worst}
use Rattle.sampling_rounds.proofs.Sampled.worst_distance.Goals as goal

pub returns-clause-same : goal.returns-clause-same
returns-clause-same c = search rules

pub returns-clause-worst : goal.returns-clause-worst
returns-clause-worst c = let peak = c.lessen-square.ensures.peak in
    let s = c.args.self.now in
    let r = c.requires.ready in
    let left = c.requires.unchosen in
    let kept = lessened-kept _ _ _ _ s.squares.now r.rows r.here r.kept in
    peak-worst (brought s c.args.last.0) _ _ _ _ peak _
    (greatest-good _ _ _ _ _ peak kept left.0 left.1.0
    (lessened-good _ _ _ _ s.squares.now r.rows r.here left.0 left.1.0 left.1.1))
    c.root.ensures
