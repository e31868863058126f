-- `points_build::build_by` meets its contract. Assumes nothing.
use mathlib.Core.Path.{sym, ap, ◌∙◌}
use Rattle.std.proofs.lemmas.Result.{err_from_is_err_and}
use borrow.Author.Rules.{rules}
use Rattle.definition.specs.Tree.{levels}
use Rattle.definition.specs.Packed.{counts_of}
use Rattle.definition.specs.Refusals.{build_verdict}
use Rattle.definition.specs.Outcome.{build_call, zero_counts}
use Rattle.config.specs.Params.{settings_of_lem}
use Rattle.refusal.proofs.Answers.{answer-refused, answer-accepted}
use Rattle.tree_answer.specs.Answers.{counts_given}
use Rattle.tree_lists.specs.Lent.{lists_in, records_in}
use Rattle.grow.proofs.Outcomes.{room-refused, room-accepted, lists-refused, lists-accepted, whole-lists, records-refused, records-accepted, whole-records}
use Rattle.points_build.proofs.Outcomes.{built}
use Rattle.points_build.proofs.build_by.Goals as goal

pub grow-requires : goal.grow-requires
grow-requires c = let P = c.args in
    let s = settings_of_lem P.points.dimensions P.params in
    sym (c.in_ok-check_build.ensures ∙ ap (build_verdict s P.points.coordinates.now) c.lent-lent.ensures)

pub returns-in_err-check_build-clause-built : goal.returns-in_err-check_build-clause-built
returns-in_err-check_build-clause-built c = let P = c.args in
    let s = settings_of_lem P.points.dimensions P.params in
    let cs = P.points.coordinates.now in
    let floats = P.room.now.floats.now in
    let wholes = P.room.now.wholes.now in
    let old = lists_in P.lists.now in
    let records = records_in P.records.now in
    let v = build_call s cs old floats wholes records in
    let p = err_from_is_err_and c.from_residual.result c.from_residual.ensures.1 in
    let e = sym (c.in_err-check_build.ensures ∙ ap (build_verdict s cs) c.lent-lent.ensures) in
    rw (p.1, p.2)
    (built s cs old floats wholes records (answer-refused counts_given (counts_of (levels s cs)) zero_counts v _ e) (lists-refused v (levels s cs) old _ e)
    (records-refused v s cs (levels s cs) records _ e) (room-refused v _ floats e) (room-refused v _ wholes e))

pub returns-clause-built : goal.returns-clause-built
returns-clause-built c = let P = c.args in
    let s = settings_of_lem P.points.dimensions P.params in
    let cs = P.points.coordinates.now in
    let floats = P.room.now.floats.now in
    let wholes = P.room.now.wholes.now in
    let old = lists_in P.lists.now in
    let records = records_in P.records.now in
    let v = build_call s cs old floats wholes records in
    let e = sym (c.in_ok-check_build.ensures ∙ ap (build_verdict s cs) c.lent-lent.ensures) in
    let w = c.grow.ensures in
    let lists = whole-lists w.level_points w.internals w.domains w.boxes w.borrowed ∙ lists-accepted v (levels s cs) old e in
    let taken = whole-records w.cuts w.planes ∙ records-accepted v s cs (levels s cs) records e in
    built s cs old floats wholes records (answer-accepted counts_given _ (counts_of (levels s cs)) zero_counts v e w.counts) lists taken
    (room-accepted v _ _ e (search rules)) (room-accepted v _ _ e (search rules))
