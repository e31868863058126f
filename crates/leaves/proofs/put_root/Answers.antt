-- `leaves::put_root` meets its contract. Assumes nothing.
use mathlib.Core.Path.{sym, ap, ◌∙◌}
use Prim.Native.Nat.{ℕ}
use mathlib.Core.List.{◌++◌}
use borrow.Author.Rules.{rules}
use lib.ListN.{drop}
use Rattle.lists.proofs.Put.{put-zero}
use Rattle.definition.specs.Points.{extents}
use Rattle.leaves.proofs.Turns.{length-extents}
use Rattle.leaves.proofs.put_root.Goals as goal

pub returns : goal.returns
returns c = let a = c.args in
    let d = a.points.dimensions in
    let cs = a.points.coordinates.now in
    let floats = a.room.now.floats.now in
    let box = extents d cs a.rows.now in
    record {
      same = search rules;
      floats =
          rw (c.write_box.ensures ∙ c.get_pointarray_extents-extents.ensures.1, c.box_width-width.ensures)
          (ap (λ (n : ℕ). box ++ drop n floats) (sym (length-extents d cs a.rows.now)) ∙ sym (put-zero floats box));
      wholes = c.put_waiting.ensures;
    }
