-- `keep::keep` meets its contract. Assumes nothing.
use native.Mathlib.Omega.{arith}
use Rattle.std.proofs.lemmas.Result.{err_from_is_err_and}
use Rattle.stored.specs.Programs.{kept}
use Rattle.keep.proofs.Outcomes.{answer-short, output-short}
use Rattle.keep.proofs.StreamKept.{broken-answer, broken-output, whole-answer, whole-output}
use Rattle.keep.proofs.keep.Goals as goal

pub returns-then-file-lt-MOST_FILE_BYTES : goal.returns-then-file-lt-MOST_FILE_BYTES
returns-then-file-lt-MOST_FILE_BYTES c = let a = c.args in
    let short = c.if-file-lt-MOST_FILE_BYTES.true in
    record {
      answer = answer-short (kept a.stream.now) a.file.now (omega (arith, short));
      output = output-short (kept a.stream.now) a.file.now (omega (arith, short));
    }

pub returns-in_err-job : goal.returns-in_err-job
returns-in_err-job c = let a = c.args in
    let long = c.if-file-lt-MOST_FILE_BYTES.false in
    let same = c.read_job.ensures.same in
    let p = err_from_is_err_and c.from_residual.result c.from_residual.ensures.1 in
    record {
      answer = rw (p.1, p.2) (broken-answer _ a.stream.now same a.file.now _ c.in_err-job.was (omega (arith, long)));
      output = broken-output _ a.stream.now same a.file.now _ c.in_err-job.was (omega (arith, long));
    }

pub returns : goal.returns
returns c = let a = c.args in
    let same = c.read_job.ensures.same in
    let told = c.in_ok-job.was in
    let w = c.keep_job.ensures in
    record {
      answer = whole-answer _ a.stream.now same a.file.now _ told _ w.answer;
      output = whole-output _ a.stream.now same a.file.now _ told _ w.output;
    }
