-- `sampling_rounds::first_farthest` meets its contract. Assumes nothing.
use mathlib.Core.Path.{◌≡◌, sym, ap, ap₂, ◌∙◌, subst}
use mathlib.Core.Bool.{true}
use lib.Ieee.{Float, lt}
use Rattle.definition.specs.Number.{square_root_lem}
use Rattle.root_laws.specs.Sorts.{good}
use Rattle.sampling_rounds.proofs.Roots.{none_before, less-before}
use Rattle.sampling_rounds.proofs.first_farthest.Goals as goal

pub returns-then-peak : goal.returns-then-peak
returns-then-peak c = none_before _ c.args.peak.place (subst (λ (x : Float). good x ≡ true) c.requires.place_in_bounds.1 c.requires.most_value) c.args.peak.second c.requires.held c.if-peak.true

pub returns-then-root : goal.returns-then-root
returns-then-root c = less-before _ c.args.peak.place (subst (λ (x : Float). good x ≡ true) c.requires.place_in_bounds.1 c.requires.most_value) c.args.peak.second c.requires.held
    (ap₂ lt (sym c.root.ensures) (sym (c.root-2.ensures ∙ ap square_root_lem c.requires.place_in_bounds.1)) ∙ c.if-root.true)
