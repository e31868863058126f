-- `settings_record::policy_fits` meets its contract. Assumes nothing.
use Rattle.settings_record.proofs.Policies.{fits-fixed, fits-auto, fits-neither}
use borrow.Author.Rules.{rules}
use Rattle.settings_record.proofs.policy_fits.Goals as goal

pub returns-in-0 : goal.returns-in-0
returns-in-0 c = fits-auto c.args.input.now _ c.byte_at.ensures.0 c.in-0.is _ c.number_at.ensures.0

pub returns-in-1 : goal.returns-in-1
returns-in-1 c = fits-fixed c.args.input.now _ c.byte_at.ensures.0 c.in-1.is

pub returns-in_default : goal.returns-in_default
returns-in_default c = fits-neither c.args.input.now _ c.byte_at.ensures.0 (search rules) (search rules)
