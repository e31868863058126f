-- `run_job_streams::agrees` meets its contract. Assumes nothing.
use mathlib.Core.Path.{sym}
use native.Mathlib.Omega.{arith}
use lib.Seq.{length-take-le}
use Rattle.stream_laws.proofs.Long.{printout-long}
use Rattle.job_room.proofs.Printing.{count_fits}
use Rattle.run_job_streams.proofs.agrees.Goals as goal

pub slice_bounds-eq-end : goal.slice_bounds-eq-end
slice_bounds-eq-end c = omega (arith, count_fits _ _ _ c.in-Ok.ensures.answer (printout-long _), c.printout.auto)

pub slice_bounds-eq-end-in-Ok : goal.slice_bounds-eq-end-in-Ok
slice_bounds-eq-end-in-Ok c = sym (length-take-le _ _ (omega (arith, count_fits _ _ _ c.in-Ok.ensures.answer (printout-long _), c.printout.auto)))
