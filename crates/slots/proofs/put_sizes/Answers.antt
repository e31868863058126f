-- `slots::put_sizes` meets its contract. Assumes nothing.
use mathlib.Core.Path.{ap, ◌∙◌}
use Rattle.lists.specs.Lists.{put}
use Rattle.definition.specs.Packed.{BuildSizes}
use Rattle.definition.specs.Outcome.{Answer, zero_sizes}
use Rattle.build_sizes.specs.Sizes.{sizes_of}
use Rattle.slots.specs.Slots.{sizes_slot}
use Rattle.refusal.proofs.Told.{seen}
use borrow.Author.Rules.{rules}
use Rattle.slots.proofs.put_sizes.Goals as goal

pub returns-clause-slot : goal.returns-clause-slot
returns-clause-slot c = c.put_values.ensures ∙ ap (put _ 0) c.lengths.ensures
    ∙ ap (λ (a : Answer BuildSizes). put c.args.res.now 0 (sizes_slot a)) (seen _ sizes_of zero_sizes c.args.answer c.of-told.result (λ x z. search rules) c.of-told.ensures)
