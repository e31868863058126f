-- `ddm_reload::read_argument` meets its contract. Assumes nothing.
use lib.ListN.{length}
use Rattle.program_input.specs.Input.{Stopped}
use Rattle.ddm_reload.proofs.Decided.{ok-through}
use Rattle.ddm_reload.proofs.read_argument.Goals as goal

pub returns : goal.returns
returns g c =
    ok-through c.read_opened.result c.map_err.result (λ front. Stopped (length c.read_opened.new.input) front) _ c.read_opened.ensures.stopped
    c.map_err.ensures.cases c.map_err.ensures.variant
