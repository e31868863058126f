-- `ddm_reload::reply_to` meets its contract. Assumes nothing.
use mathlib.Core.Path.{ap₂, ◌∙◌}
use Rattle.stored.specs.Programs.{reloaded}
use Rattle.ddm_reload.proofs.Decided.{both-decide}
use Rattle.ddm_reload.proofs.reply_to.Goals as goal

pub returns : goal.returns
returns c = let a = c.args in
    let job = c.requires.job_value in
    let tree = c.requires.tree_value in
    let print = c.print_bytes.ensures in
    record {
      fits = print.fits;
      same = both-decide a.job.front a.job.bytes.now job.0 job.1 a.tree.front a.tree.bytes.now tree.0 tree.1 _
          (print.same ∙ ap₂ (λ xs ys. reloaded xs ys) c.read.ensures c.read-2.ensures);
    }
