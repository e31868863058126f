-- `ddm_reload::print_reloaded` meets its contract. Assumes nothing.
use native.Mathlib.Omega.{arith}
use Rattle.ddm_reload.proofs.print_reloaded.Goals as goal

pub reply_to-count-requires : goal.reply_to-count-requires
reply_to-count-requires g c = record {
  job_value = (c.in_ok-front.ensures, omega (arith, c.read_argument.auto.input));
  tree_value = (c.in_ok-front-2.ensures, omega (arith, c.read_argument-2.auto.input, c.room-file.ensures.long));
  most_bytes_in_bounds = omega (arith, c.room-text.ensures.long);
}
