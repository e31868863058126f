-- `printout::printout` meets its contract. Assumes nothing.
use Rattle.job_room.proofs.Printing.{answer-short, output-short, answer-long, output-long}
use Rattle.formats.specs.Printout.{printout as printed}
use mathlib.Core.Path.{◌≡◌, refl, ◌∙◌}
use borrow.Author.Rules.{rules}
use native.Mathlib.Omega.{arith}
use Rattle.printout.proofs.printout.Goals as goal

pub returns-then-output-lt-TEXT : goal.returns-then-output-lt-TEXT
returns-then-output-lt-TEXT c = let a = c.args in
    record {
      answer = answer-short (printed a.input.now) a.output.now (omega (arith, c.if-output-lt-TEXT.true));
      output = output-short (printed a.input.now) a.output.now (omega (arith, c.if-output-lt-TEXT.true));
    }

pub returns : goal.returns
returns c = let a = c.args in
    let long = c.if-output-lt-TEXT.false in
    let w = c.write_printout.ensures in
    let back : _ ≡ c.write_printout.new.output.bytes.now = search rules in
    record {
      answer = answer-long (printed a.input.now) a.output.now long refl refl w;
      output = back ∙ output-long (printed a.input.now) a.output.now long refl refl w;
    }
