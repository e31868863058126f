-- `cut_nodes::put_leaf` meets its contract. Assumes nothing.
use mathlib.Core.Path.{refl, sym, ap, ◌∙◌}
use mathlib.Core.List.{[], ◌∷◌}
use Prim.Native.Nat.{ℕ, ◌+◌, ◌*◌, ◌≤◌}
use native.Mathlib.Nat.{mul-add}
use native.Mathlib.Omega.{arith}
use borrow.Author.Rules.{rules}
use lib.ListN.{length}
use Rattle.lists.specs.Lists.{put}
use Rattle.lists.proofs.Put.{part-back, part-lent, length_part}
use Rattle.definition.specs.Points.{box_width_lem}
use Rattle.boxes.specs.Boxes.{floats_of}
use Rattle.cut_nodes.specs.Written.{domain_of}
use Rattle.cut_nodes.proofs.Laws.{leaf-written}
use Rattle.cut_nodes.proofs.put_leaf.Goals as goal

pub returns : goal.returns
returns c = record {
  same = search rules;
  next = (refl, refl);
  written = λ rows h.
      let a = c.args in
      let p = c.requires in
      let w = a.whole.dimensions in
      let entry = a.base + 3 * a.from.leaves in
      let floats = a.room.now.floats.now in
      let at = c.bounds_before-at.result in
      let wide = c.box_width-width.result in
      let fit : at + wide ≤ length floats = rw (c.bounds_before-at.ensures, c.box_width-width.ensures) (omega (arith, p.2, mul-add (box_width_lem w) a.from.leaves 1)) in
      let back = part-back floats at wide _ (c.write_box.auto.bounds ∙ ap length (part-lent floats at wide) ∙ length_part floats at wide fit) in
      leaf-written w a.base (domain_of rows a.whole a.depth) a.from.place a.from.leaves _ _
      a.room.now.wholes.now _ a.room.now.floats.now _ a.records.now.cuts.now _ a.records.now.planes.now _
      (omega (arith, p.1)) p.3 p.4
      (c.put_entry.ensures
      ∙ ap (λ (n : ℕ). put a.room.now.wholes.now entry (a.depth ∷ n ∷ a.from.place ∷ [])) (sym h))
      (back ∙ ap (put floats at) c.write_box.ensures ∙ ap (λ (f : ℕ). put floats f (floats_of a.whole)) c.bounds_before-at.ensures)
      c.write_node.ensures.cuts c.write_node.ensures.planes refl refl;
}
