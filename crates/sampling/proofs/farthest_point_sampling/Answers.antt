-- `sampling::farthest_point_sampling` meets its contract: a refusal writes to no list, and an accepted call samples all
-- rows. Assumes nothing.
use mathlib.Core.Path.{sym, ap, ◌∙◌}
use Prim.Native.Nat.{◌/◌}
use native.Mathlib.Omega.{arith}
use lib.ListN.{length}
use lib.Seq.{length-take-le}
use Rattle.std.proofs.Common.{take-append-drop}
use Rattle.std.proofs.lemmas.Result.{err_from_is_err_and}
use Rattle.lists.proofs.From.{length_from}
use borrow.Author.Rules.{rules}
use Rattle.sampling.proofs.Refusing.{call-accepted, rows-numbered, call-ready, call-written, call-covered, call-refused, call-sampled}
use Rattle.sampling.proofs.farthest_point_sampling.Goals as goal

pub number_rows-requires : goal.number_rows-requires
number_rows-requires c = let v = c.in_ok-rows.ensures in
    rw v.rows (call-accepted _ _ _ _ _ _ _ (sym v.number)).wholes

pub sample_rows-cover-requires : goal.sample_rows-cover-requires
sample_rows-cover-requires c = let v = c.in_ok-rows.ensures in
    let a = call-accepted _ _ _ _ _ _ _ (sym v.number) in
    let r = call-ready _ _ _ _ _ _ _ a _ (rows-numbered _ _ _ (rw v.rows at c.number_rows.ensures)) in
    let n = length-take-le c.args.wanted c.args.out.now a.output in
    rw v.rows (record { rows = r.0; wanted = rw n r.1.0; room = r.1.1.1 })

pub returns-in_err-rows : goal.returns-in_err-rows
returns-in_err-rows c =
    let p = err_from_is_err_and c.from_residual.result c.from_residual.ensures.1 in
    record { sampled = rw (p.1, p.2) (call-refused _ _ _ _ _ _ _ _ c.in_err-rows.ensures.number); same = search rules }

pub slice_bounds-all-end : goal.slice_bounds-all-end
slice_bounds-all-end c = let v = c.in_ok-rows.ensures in
    rw v.rows (omega (arith, (call-accepted _ _ _ _ _ _ _ (sym v.number)).wholes, c.number_rows.auto.wholes))

pub slice_bounds-all-end-2 : goal.slice_bounds-all-end-2
slice_bounds-all-end-2 c = let v = c.in_ok-rows.ensures in
    let n = length c.args.points.coordinates.now / c.args.points.dimensions in
    rw v.rows (sym (ap length (rows-numbered n c.args.room.now.wholes.now _ (rw v.rows at c.number_rows.ensures)) ∙ length_from 0 n))

pub returns : goal.returns
returns c = let v = c.in_ok-rows.ensures in
    let e = sym v.number in
    let a = call-accepted _ _ _ _ _ _ _ e in
    let n = rows-numbered _ _ _ (rw v.rows at c.number_rows.ensures) in
    let s = c.sample_rows-cover in
    let size = length-take-le c.args.wanted c.args.out.now a.output in
    let kept = ap length (take-append-drop c.in_ok-rows.rows c.number_rows.new.wholes) ∙ c.number_rows.auto.wholes in
    record {
      sampled = call-sampled _ _ _ _ _ _ _ s.result e (call-covered _ _ _ _ _ _ _ a _ n s.result (rw (v.rows, size) at s.ensures.cover)) _
          (call-written _ _ _ _ _ _ _ a _ n _ _ (rw (v.rows, size) at s.ensures.sampled) (s.auto.out ∙ size)) _ s.auto.floats _ kept;
      same = search rules;
    }

pub slice_bounds-sample_rows-end : goal.slice_bounds-sample_rows-end
slice_bounds-sample_rows-end c = (call-accepted _ _ _ _ _ _ _ (sym c.in_ok-rows.ensures.number)).output

pub slice_bounds-sample_rows-end-2 : goal.slice_bounds-sample_rows-end-2
slice_bounds-sample_rows-end-2 c = sym (length-take-le c.args.wanted c.args.out.now (call-accepted _ _ _ _ _ _ _ (sym c.in_ok-rows.ensures.number)).output)
