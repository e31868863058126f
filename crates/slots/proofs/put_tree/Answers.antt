-- `slots::put_tree` meets its contract. Assumes nothing.
use mathlib.Core.Path.{ap, ◌∙◌}
use Rattle.lists.specs.Lists.{put}
use Rattle.definition.specs.Packed.{Counts}
use Rattle.definition.specs.Outcome.{Answer, zero_counts}
use Rattle.tree_answer.specs.Answers.{counts_given}
use Rattle.slots.specs.Slots.{build_slot}
use Rattle.refusal.proofs.Told.{seen}
use Rattle.tree_answer.proofs.Zeros.{no-counts}
use Rattle.slots.proofs.put_tree.Goals as goal

pub returns-clause-slot : goal.returns-clause-slot
returns-clause-slot c = c.put_counts.ensures
    ∙ ap (λ (a : Answer Counts). put c.args.res.now 0 (build_slot a)) (seen _ counts_given zero_counts c.args.answer c.of-told.result (λ x z. no-counts x z.0 z.1.0 z.1.1) c.of-told.ensures)
