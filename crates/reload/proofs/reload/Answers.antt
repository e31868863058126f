-- `reload::reload` meets its contract. Assumes nothing.
use mathlib.Core.Path.{◌≡◌, refl, ◌∙◌}
use borrow.Author.Rules.{rules}
use native.Mathlib.Omega.{arith}
use Rattle.stored.specs.Programs.{reloaded}
use Rattle.job_room.proofs.Printing.{answer-short, output-short, answer-long, output-long}
use Rattle.reload.proofs.reload.Goals as goal

pub returns-then-output-lt-TEXT : goal.returns-then-output-lt-TEXT
returns-then-output-lt-TEXT c = let a = c.args in
    let text = reloaded a.stream.now a.file.now in
    let short = c.if-output-lt-TEXT.true in
    record {
      answer = answer-short text a.output.now (omega (arith, short));
      output = output-short text a.output.now (omega (arith, short));
    }

pub returns : goal.returns
returns c = let a = c.args in
    let text = reloaded a.stream.now a.file.now in
    let long = c.if-output-lt-TEXT.false in
    let w = c.write_reloaded.ensures in
    let back : _ ≡ c.write_reloaded.new.output.bytes.now = search rules in
    record {
      answer = answer-long text a.output.now long refl refl w;
      output = back ∙ output-long text a.output.now long refl refl w;
    }
