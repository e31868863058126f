-- `slots_checks::check_slots` meets its contract. Assumes nothing.
use mathlib.Core.Path.{◌≡◌, sym, ◌∙◌}
use mathlib.Core.Bool.{false}
use Prim.Native.Nat.{◌*◌}
use native.Mathlib.Omega.{arith}
use native.Mathlib.Nat.{le_trans, mul-le-mul_right}
use borrow.Author.Tests.{ltb-false}
use lib.ListN.{length}
use Rattle.std.proofs.lemmas.Result.{err_from_is_err_and}
use Rattle.lists.proofs.Tests.{or-none}
use Rattle.definition.specs.Packed.{build_stated}
use Rattle.definition.specs.Refusals.{build_short}
use Rattle.definition.specs.Table.{capacity, coordinates_short}
use Rattle.config.specs.Params.{settings_of_lem}
use Rattle.build_sizes.specs.Sizes.{sizes_of}
use Rattle.table_checks.specs.Tables.{head_in, table_in}
use Rattle.table_laws.proofs.Live.{sound-table}
use Rattle.table_laws.proofs.Slots.{live-most}
use Rattle.slots_checks.proofs.Groups.{is-sound, is-unsound, refused-27, refused-9, refused-11, judged-last}
use Rattle.slots_checks.proofs.check_slots.Goals as goal

pub returns-in_err-ok_or : goal.returns-in_err-ok_or
returns-in_err-ok_or c = let P = c.args in
    let p = err_from_is_err_and c.from_residual.result c.from_residual.ensures.1 in
    let none = is-unsound (table_in P.table) c.sound.result _ c.sound.ensures _ (sym c.in_err-ok_or.ensures.value) in
    rw (p.1, p.2, none.1) (refused-27 (settings_of_lem P.table.points.dimensions P.params) (table_in P.table) (sizes_of P.lent) none.0)

pub rows_fault-requires : goal.rows_fault-requires
rows_fault-requires c = let P = c.args in
    let sound = (is-sound (table_in P.table) c.sound.result _ c.sound.ensures _ (sym c.in_ok-ok_or.ensures.value)) in
    let held = sound-table (head_in P.table.head) P.table.flags.now sound in
    omega (arith, held.within, live-most (head_in P.table.head) P.table.flags.now sound)

pub returns-in_err-rows_fault : goal.returns-in_err-rows_fault
returns-in_err-rows_fault c = let P = c.args in
    let p = err_from_is_err_and c.from_residual-in_err-rows_fault.result c.from_residual-in_err-rows_fault.ensures.1 in
    rw (p.1, p.2)
    (refused-9 (settings_of_lem P.table.points.dimensions P.params) (table_in P.table) (sizes_of P.lent) (is-sound (table_in P.table) c.sound.result _ c.sound.ensures _ (sym c.in_ok-ok_or.ensures.value)) _ c.in_err-rows_fault.ensures.number)

pub any_short-requires : goal.any_short-requires
any_short-requires c = let P = c.args in
    let f = c.in_ok-rows_fault.ensures.fine in
    (f.1, live-most (head_in P.table.head) P.table.flags.now (is-sound (table_in P.table) c.sound.result _ c.sound.ensures _ (sym c.in_ok-ok_or.ensures.value)), f.2)

pub returns-then-any_short : goal.returns-then-any_short
returns-then-any_short c = let P = c.args in
    refused-11 (settings_of_lem P.table.points.dimensions P.params) (table_in P.table) (sizes_of P.lent) (is-sound (table_in P.table) c.sound.result _ c.sound.ensures _ (sym c.in_ok-ok_or.ensures.value)) c.in_ok-rows_fault.ensures.number (sym c.any_short.ensures ∙ c.if-any_short.true)

pub judge_slots-requires : goal.judge_slots-requires
judge_slots-requires c = let P = c.args in
    let s = settings_of_lem P.table.points.dimensions P.params in
    let t = table_in P.table in
    let held = sound-table (head_in P.table.head) P.table.flags.now (is-sound (table_in P.table) c.sound.result _ c.sound.ensures _ (sym c.in_ok-ok_or.ensures.value)) in
    let long : coordinates_short P.table.points.dimensions t ≡ false = (or-none (build_short (sizes_of P.lent) (build_stated P.table.points.dimensions P.table.head.live s.neighbours)) (coordinates_short P.table.points.dimensions t) (sym c.any_short.ensures ∙ c.if-any_short.false)).1 in (
      omega (arith, held.within),
      le_trans (mul-le-mul_right P.table.points.dimensions held.within) (ltb-false (length P.table.points.coordinates.now) (capacity P.table.flags.now * P.table.points.dimensions) long),
      omega (arith, held.within),
      c.in_ok-rows_fault.ensures.fine.1,
    )

pub returns : goal.returns
returns c = let P = c.args in
    c.judge_slots.ensures
    ∙ judged-last (settings_of_lem P.table.points.dimensions P.params) (table_in P.table) (sizes_of P.lent) (is-sound (table_in P.table) c.sound.result _ c.sound.ensures _ (sym c.in_ok-ok_or.ensures.value)) c.in_ok-rows_fault.ensures.number (sym c.any_short.ensures ∙ c.if-any_short.false)
