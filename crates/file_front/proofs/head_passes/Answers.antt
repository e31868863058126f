-- `file_front::head_passes` meets its contract. Assumes nothing.
use mathlib.Core.Path.{◌∙◌}
use Rattle.config.specs.Params.{settings_are}
use Rattle.file_front.proofs.Takes.{head_is}
use Rattle.file_front.proofs.head_passes.Goals as goal

pub returns : goal.returns
returns c = c.is_ok.ensures.value ∙ head_is (settings_are c.args.settings) c.args.n c.rows_fault.result c.rows_fault.ensures.number
