-- `ddm_tree::reply_to` meets its contract. Assumes nothing.
use mathlib.Core.Path.{ap, ◌∙◌}
use Rattle.formats.specs.Printout.{printout}
use Rattle.stream_laws.specs.Sizes.{decisive}
use Rattle.stream_laws.proofs.Front.{front-printed}
use Rattle.program_input.proofs.Fronts.{front-decides}
use Rattle.ddm_tree.proofs.reply_to.Goals as goal

pub returns : goal.returns
returns c = let input = c.args.input in
    let print = c.print_bytes.ensures in
    record {
      fits = print.fits;
      same = front-decides printout decisive front-printed input.front input.bytes.now c.requires.0 c.requires.1 _
          (print.same ∙ ap printout c.read.ensures);
    }
