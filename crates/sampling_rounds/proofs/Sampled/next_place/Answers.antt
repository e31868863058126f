-- `sampling_rounds::Sampled::next_place` meets its contract. Assumes nothing.
use native.Mathlib.Nat.{lt_trans}
use native.Mathlib.Omega.{arith}
use borrow.Author.Rules.{rules}
use Rattle.sampling_rounds.specs.Rounds.{brought}
use Rattle.sampling_rounds.proofs.Passes.{lessened-kept, lessened-good}
use Rattle.sampling_rounds.proofs.Roots.{greatest-good, first-chosen}
use Rattle.sampling_rounds.proofs.Sampled.next_place.Goals as goal

pub first_farthest-place-requires-clause-most_value : goal.first_farthest-place-requires-clause-most_value
first_farthest-place-requires-clause-most_value c = let s = c.args.self.now in
    let r = c.requires.ready in
    let left = c.requires.unchosen in
    let peak = c.lessen-peak.ensures.peak in
    rw peak.here (greatest-good (brought s c.args.last.0) _ _ _ _ peak (lessened-kept _ _ _ _ s.squares.now r.rows r.here r.kept) left.0 left.1.0
    (lessened-good _ _ _ _ s.squares.now r.rows r.here left.0 left.1.0 left.1.1))

pub first_farthest-place-requires-clause-by_index : goal.first_farthest-place-requires-clause-by_index
first_farthest-place-requires-clause-by_index c = let s = c.args.self.now in
    let r = c.requires.ready in
    let le = c.lessen-peak.ensures in
    λ i h. let b = lt_trans h le.peak.inside in
    rw (le.values i b) (lessened-kept _ _ _ _ s.squares.now r.rows r.here r.kept i b)

pub returns-clause-same : goal.returns-clause-same
returns-clause-same c = search rules

pub returns-clause-chosen : goal.returns-clause-chosen
returns-clause-chosen c = let le = c.lessen-peak in
    let s = c.args.self.now in
    let r = c.requires.ready in
    let left = c.requires.unchosen in
    let kept = lessened-kept _ _ _ _ s.squares.now r.rows r.here r.kept in
    let v = brought s c.args.last.0 in
    let good-best = greatest-good v _ _ _ _ le.ensures.peak kept left.0 left.1.0
    (lessened-good _ _ _ _ s.squares.now r.rows r.here left.0 left.1.0 left.1.1) in
    first-chosen v _ _ _ _ le.ensures.peak le.new.self.squares.now _ le.ensures.values (omega (arith, r.room)) good-best c.first_farthest-place.ensures
