-- A text that grows: with the first k + 1 parts it is the text with the first k, and one part more. Assumes nothing.
-- Holds: grown_room, grown, fine_text, fine-none, fine-grows
use mathlib.Core.Path.{◌≡◌, refl, sym, ap, ◌∙◌}
use mathlib.Core.Bool.{true}
use Prim.Native.Nat.{ℕ, zero, suc, ◌+◌, ◌-◌, ◌≤◌, ◌<◌}
use native.Mathlib.Nat.{add-zero, zero-add, add-suc, suc-add}
use native.Mathlib.Numerals.{add-one}
use native.Mathlib.Omega.{arith}
use mathlib.Core.List.{List, [], ◌∷◌, ◌++◌, append_assoc, append-nil, map}
use lib.ListN.{length, length-append, length-map}
use Rattle.lists.specs.Lists.{from}
use Rattle.definition.specs.Tree.{Leaf}
use Rattle.formats.specs.Printout.{domain_line, floats_text, fine_lines}
use Rattle.lists.proofs.From.{from_suc, length_from}
use Rattle.lists.proofs.Map.{map_snoc}
use Rattle.bytes_out.specs.declared.writer.Writer.{Writer}
use Rattle.bytes_out.specs.Writing.{Takes, Appends}
use Rattle.bytes_out.proofs.Writing.{spelt_as, ◌▸◌}
use Rattle.packed.specs.Reading.{Packed, read_leaf, read_leaves}
use Rattle.print_tree.specs.Unpack.{leaf_line, box_part}

module _ (g x : ℕ → List ℕ) (grows : (k : ℕ) → g (k + 1) ≡ g k ++ x k) where
  at_least : (k d : ℕ) → length (g k) ≤ length (g (k + d))
  at_least k zero = omega (arith, ap (λ (i : ℕ). length (g i)) (add-zero k))
  at_least k (suc d) =
      let e : length (g (k + suc d)) ≡ length (g (k + d)) + length (x (k + d)) =
      ap (λ (i : ℕ). length (g i)) (add-suc k d ∙ sym (add-one (k + d))) ∙ ap length (grows (k + d)) ∙ length-append (g (k + d)) (x (k + d)) in
      omega (arith, at_least k d, e)

  -- where there is room for the first m, there is room for the next of them
  pub grown_room : {w v : Writer} (m k : ℕ) → k < m → Takes w (g m) → Appends w v (g k) → Takes v (x k)
  grown_room {w} {v} m k h all a =
      let e : k + 1 + (m - (k + 1)) ≡ m = omega arith in
      record { fits = omega (arith, all.fits, a.place, a.long, at_least (k + 1) (m - (k + 1)), ap (λ (i : ℕ). length (g i)) e, ap length (grows k), length-append (g k) (x k)) }

  pub grown : {w v u : Writer} (k : ℕ) → Appends w v (g k) → Appends v u (x k) → Appends w u (g (k + 1))
  grown k a b = spelt_as (sym (grows k)) (a ▸ b)

-- ---- the lines of fine domains
fine-one : (i : ℕ) (fs : List Leaf) (f : Leaf) → fine_lines i (fs ++ f ∷ []) ≡ fine_lines i fs ++ domain_line (i + length fs) f (floats_text f.box)
unfolding fine_lines
fine-one i [] f = rw (add-zero i, append-nil)
fine-one i (h ∷ fs) f =
    rw (fine-one (suc i) fs f, append_assoc, suc-add, add-suc)

module _ (p : Packed) (j : ℕ) where
  abbrev pub fine_text : ℕ → List ℕ
  fine_text k = fine_lines 0 (read_leaves p j k)

  pub fine-none : fine_text 0 ≡ []
  unfolding read_leaves fine_lines from
  fine-none = refl

  pub fine-grows : (k : ℕ) → fine_text (k + 1) ≡ fine_text k ++ leaf_line true k p (j + k)
  unfolding read_leaves leaf_line box_part
  fine-grows k =
      ap (λ (l : List ℕ). fine_lines 0 (map (read_leaf p) l)) (from_suc j k)
      ∙ ap (fine_lines 0) (map_snoc (read_leaf p) (from j k) (j + k))
      ∙ fine-one 0 (map (read_leaf p) (from j k)) (read_leaf p (j + k))
      ∙ ap (λ (i : ℕ). fine_lines 0 (map (read_leaf p) (from j k)) ++ domain_line i (read_leaf p (j + k)) (floats_text (read_leaf p (j + k)).box))
      (zero-add _ ∙ length-map (from j k) (read_leaf p) ∙ length_from j k)
