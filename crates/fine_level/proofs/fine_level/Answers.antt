-- `fine_level::fine_level` meets its contract. Assumes nothing.
use mathlib.Core.Path.{◌≡◌, refl, sym, ap, ◌∙◌}
use mathlib.Core.List.{List}
use Prim.Native.Nat.{ℕ, ◌+◌, ◌*◌, ◌≤◌}
use native.Mathlib.Omega.{arith}
use borrow.Author.Rules.{rules}
use native.Mathlib.Nat.{mul-add, mul-le-mul_left}
use lib.ListN.{length}
use Rattle.lists.specs.Lists.{part, put, joined}
use Rattle.lists.proofs.Put.{length_part}
use Rattle.fine_level.proofs.Stages.{level-number, level-next, number-most, packed-read, packed-sends}
use Rattle.fine_level.proofs.Sent.{sent-own, sent-borrowed, sent-number, sent-stretches, floats-are}
use Rattle.definition.specs.Packed.{row_numbers, row_floats_lem}
use Rattle.definition.specs.Cut.{leaves_of}
use Rattle.fine_level.proofs.fine_level.Goals as goal

pub divide-parts-requires : goal.divide-parts-requires
divide-parts-requires c = let p = c.requires in
    record { given_by = (omega (arith, p.a_in_bounds.0), p.a_in_bounds.2); fits_at = p.fits_at; room = p.room; record_fits = p.record_fits }

pub send_up-requires : goal.send_up-requires
send_up-requires c = let p = c.requires in
    let P = c.args in
    let d = P.plan.points.dimensions in
    let cs = P.plan.points.coordinates.now in
    let q = P.plan.neighbours in
    let active = part P.lists.now.level_points.now P.place.from P.place.a in
    let g = p.a_in_bounds.2 in
    let n : length active ≡ P.place.a = length_part P.lists.now.level_points.now P.place.from P.place.a (omega (arith, p.a_in_bounds.0)) in
    let v = c.divide-parts.ensures in
    let counts = v.counts in
    let internals = v.internals in
    let domains = v.domains in
    let listed = v.level_points in
    let many = counts.0 ∙ level-number d cs P.plan.leaf q active in
    let few = number-most d cs P.plan.leaf q active g in
    let sends = packed-sends d cs P.plan.leaf q active g _ _ _ _ _ (rw n p.fits_at.internals) (rw n p.fits_at.domains) _ _ internals domains in
    let rows : row_floats_lem d * (P.place.first + length (leaves_of d cs P.plan.leaf active)) ≤ row_floats_lem d * (P.place.first + 2 * P.place.a) =
    mul-le-mul_left (row_floats_lem d) (omega (arith, few, n)) in record {
      sends_up = rw (listed, many) sends;
      size_le_a = (
        omega (arith, p.a_in_bounds.1),
        omega (arith, ap length listed, p.a_in_bounds.0, p.a_in_bounds.1),
        omega (arith, few, many, n, p.room.wholes),
        omega (arith, few, many, n, p.room.floats),
        rw many (omega (arith, rows, p.fits_at.boxes, v.same.0.boxes_len)),
      );
    }

pub returns : goal.returns
returns c = let p = c.requires in
    let P = c.args in
    let d = P.plan.points.dimensions in
    let cs = P.plan.points.coordinates.now in
    let q = P.plan.neighbours in
    let active = part P.lists.now.level_points.now P.place.from P.place.a in
    let g = p.a_in_bounds.2 in
    let n : length active ≡ P.place.a = length_part P.lists.now.level_points.now P.place.from P.place.a (omega (arith, p.a_in_bounds.0)) in
    let v = c.divide-parts.ensures in
    let counts = v.counts in
    let internals = v.internals in
    let domains = v.domains in
    let listed = v.level_points in
    let many = counts.0 ∙ level-number d cs P.plan.leaf q active in
    let leaf = P.plan.leaf in
    let size = P.size in
    let few = number-most d cs leaf q active g in
    let rows : row_floats_lem d * (P.place.first + length (leaves_of d cs leaf active)) ≤ row_floats_lem d * (P.place.first + 2 * P.place.a) =
    mul-le-mul_left (row_floats_lem d) (omega (arith, few, n)) in
    let read = rw (← many) at (packed-read d cs leaf q active g _ _ _ _ _ (rw n p.fits_at.internals) (rw n p.fits_at.domains) _ _ internals domains) in
    let up = c.send_up.ensures in
    let number = rw (read, level-next d cs leaf q active size) at (rw listed at up.number) in
    let list = rw (read, level-next d cs leaf q active size) at (rw listed at up.list) in
    let covered = rw read at up.boxes in
    let fits : row_floats_lem d * P.place.first + row_floats_lem d * length (leaves_of d cs leaf active) ≤ length P.lists.now.boxes.now =
    omega (arith, rows, p.fits_at.boxes, mul-add (row_floats_lem d) P.place.first (length (leaves_of d cs leaf active))) in
    record {
      same = search rules;
      counts = (
        counts.0 ∙ sym (sent-number d cs leaf q size active),
        counts.1 ∙ ap (λ (x : List (List ℕ)). length (joined x)) (sym (sent-borrowed d cs leaf q size active)),
        counts.2,
        counts.3,
      );
      next = number;
      level_points = list;
      internals = up.kept.0 ∙ internals ∙ ap (λ (x : List (List ℕ)). put P.lists.now.internals.now P.place.from (joined x)) (sym (sent-own d cs leaf q size active));
      domains = up.kept.1 ∙ domains ∙ ap (put P.lists.now.domains.now (row_numbers * P.place.first)) (sym (sent-stretches d cs leaf q size active P.place.from P.place.bat));
      boxes = floats-are d cs leaf q size active P.lists.now.boxes.now _ _ (row_floats_lem d * P.place.first) _ fits v.boxes refl covered;
      borrowed = up.kept.2 ∙ v.borrowed ∙ ap (λ (x : List (List ℕ)). put P.lists.now.borrowed.now P.place.bat (joined x)) (sym (sent-borrowed d cs leaf q size active));
      cuts = v.cuts;
      planes = v.planes;
    }
