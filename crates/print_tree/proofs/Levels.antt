-- The levels' texts one after the other, from the packed lists and the counts. Assumes nothing.
-- Holds: total-none, front_text, fine_at, how-many, front-none, front-grows, coarse_text, texts-end, fine-here, coarse-here,
--   levels-whole
use mathlib.Core.Path.{◌≡◌, refl, sym, ap, ap₂, ◌∙◌}
use mathlib.Core.Bool.{false}
use Prim.Native.Nat.{ℕ, suc, ◌+◌, ◌-◌}
use native.Mathlib.Nat.{add-zero, zero-add, add-suc}
use native.Mathlib.Omega.{arith}
use mathlib.Core.List.{List, [], ◌∷◌, ◌++◌, append_assoc, append-nil, map}
use lib.ListN.{length, get_or, take, drop, length-map}
use Rattle.lists.specs.Lists.{from, total, joined}
use Rattle.definition.specs.Tree.{Level}
use Rattle.formats.specs.Printout.{level_line, fine_lines, coarse_lines, levels_text}
use Rattle.packed.specs.Reading.{Packed, read_leaves, read_level, read_levels, Stands}
use Rattle.print_tree.specs.Unpack.{leaf_line, box_part, points_line, fine_level_text, coarse_level_text}
use Rattle.lists.proofs.From.{from_suc, length_from}
use Rattle.lists.proofs.Map.{map_snoc}
use Rattle.lists.proofs.Put.{part-lent}

pub total-none : (xs : List ℕ) → 0 ≡ total (take 0 xs)
unfolding total
total-none xs = refl

-- ---- levels' texts
fine_texts : ℕ → List Level → List ℕ
fine_texts s [] = []
fine_texts s (l ∷ ls) = (level_line s l ++ fine_lines 0 l.leaves) ++ fine_texts (suc s) ls

texts-one : (s : ℕ) (ls : List Level) (l : Level) → fine_texts s (ls ++ l ∷ []) ≡ fine_texts s ls ++ (level_line (s + length ls) l ++ fine_lines 0 l.leaves)
unfolding fine_texts
texts-one s [] l = rw (append-nil, add-zero)
texts-one s (m ∷ ls) l =
    let here = level_line s m ++ fine_lines 0 m.leaves in
    let number : suc s + length ls ≡ s + suc (length ls) = omega arith in
    ap (λ (r : List ℕ). here ++ r) (texts-one (suc s) ls l)
    ∙ sym (append_assoc here (fine_texts (suc s) ls) (level_line (suc s + length ls) l ++ fine_lines 0 l.leaves))
    ∙ ap (λ (k : ℕ). (here ++ fine_texts (suc s) ls) ++ (level_line k l ++ fine_lines 0 l.leaves)) number

texts-last : (s : ℕ) (ls : List Level) (l : Level) → levels_text s (ls ++ l ∷ []) ≡ fine_texts s ls ++ (level_line (s + length ls) l ++ coarse_lines l.leaves)
unfolding fine_texts levels_text
texts-last s [] l = rw add-zero
texts-last s (m ∷ []) l = rw (add-suc, add-zero, append-nil)
texts-last s (m ∷ n ∷ ls) l =
    let here = level_line s m ++ fine_lines 0 m.leaves in
    let number : suc s + suc (length ls) ≡ s + suc (suc (length ls)) = omega arith in
    ap (λ (r : List ℕ). here ++ r) (texts-last (suc s) (n ∷ ls) l)
    ∙ sym (append_assoc here (fine_texts (suc s) (n ∷ ls)) (level_line (suc s + suc (length ls)) l ++ coarse_lines l.leaves))
    ∙ ap (λ (k : ℕ). (here ++ fine_texts (suc s) (n ∷ ls)) ++ (level_line k l ++ coarse_lines l.leaves)) number

module _ (p : Packed) (level_points rows counts : List ℕ) where
  -- the first t levels, as fine ones
  pub front_text : ℕ → List ℕ
  front_text t = fine_texts 0 (read_levels p level_points rows counts t)

  pub fine_at : ℕ → List ℕ
  fine_at t =
      fine_level_text t (take (total (take t rows) + get_or rows t 0 - total (take t rows)) (drop (total (take t rows)) level_points)) p (total (take t counts))
      (get_or counts t 0)

  one_more : (t : ℕ) → read_levels p level_points rows counts (t + 1) ≡ read_levels p level_points rows counts t ++ read_level p level_points rows counts t ∷ []
  unfolding read_levels
  one_more t =
      ap (map (read_level p level_points rows counts)) (from_suc 0 t)
      ∙ map_snoc (read_level p level_points rows counts) (from 0 t) (0 + t)
      ∙ ap (λ (k : ℕ). map (read_level p level_points rows counts) (from 0 t) ++ read_level p level_points rows counts k ∷ []) (zero-add t)

  pub how-many : (t : ℕ) → length (read_levels p level_points rows counts t) ≡ t
  unfolding read_levels
  how-many t = length-map (from 0 t) (read_level p level_points rows counts) ∙ length_from 0 t

  pub front-none : front_text 0 ≡ []
  unfolding front_text read_levels fine_texts from
  front-none = refl

  line_at : (t : ℕ)
      → level_line t (read_level p level_points rows counts t) ≡ points_line t (take (total (take t rows) + get_or rows t 0 - total (take t rows)) (drop (total (take t rows)) level_points))
  unfolding level_line read_level
  line_at t = rw (← part-lent level_points (total (take t rows)) (get_or rows t 0))

  pub front-grows : (t : ℕ) → front_text (t + 1) ≡ front_text t ++ fine_at t
  unfolding front_text fine_at fine_level_text read_level
  front-grows t =
      ap (fine_texts 0) (one_more t)
      ∙ texts-one 0 (read_levels p level_points rows counts t) (read_level p level_points rows counts t)
      ∙ ap (λ (k : ℕ). fine_texts 0
      (read_levels p level_points rows counts t) ++ (level_line k (read_level p level_points rows counts t) ++ fine_lines 0 (read_level p level_points rows counts t).leaves))
      (zero-add _ ∙ how-many t)
      ∙ ap (λ (l : List ℕ). fine_texts 0 (read_levels p level_points rows counts t) ++ (l ++ fine_lines 0 (read_level p level_points rows counts t).leaves)) (line_at t)

  one_domain : (j : ℕ) → coarse_lines (read_leaves p j 1) ≡ leaf_line false 0 p j
  unfolding coarse_lines read_leaves leaf_line box_part from joined
  one_domain j = append-nil _

  pub coarse_text : ℕ → List ℕ
  coarse_text t = coarse_level_text t (take (total (take t rows) + get_or rows t 0 - total (take t rows)) (drop (total (take t rows)) level_points)) p (total (take t counts))

  pub texts-end : (t : ℕ) → get_or counts t 0 ≡ 1 → levels_text 0 (read_levels p level_points rows counts (t + 1)) ≡ front_text t ++ coarse_text t
  unfolding front_text coarse_text coarse_level_text read_level
  texts-end t one =
      ap (levels_text 0) (one_more t)
      ∙ texts-last 0 (read_levels p level_points rows counts t) (read_level p level_points rows counts t)
      ∙ ap (λ (k : ℕ). fine_texts 0
      (read_levels p level_points rows counts t) ++ (level_line k (read_level p level_points rows counts t) ++ coarse_lines (read_level p level_points rows counts t).leaves))
      (zero-add _ ∙ how-many t)
      ∙ ap₂ (λ (l : List ℕ) (k : List ℕ). fine_texts 0 (read_levels p level_points rows counts t) ++ (l ++ k)) (line_at t)
      (ap (λ (k : ℕ). coarse_lines (read_leaves p (total (take t counts)) k)) one ∙ one_domain (total (take t counts)))

  -- ---- the same in the code's terms: a and j are the sums of the counts so far
  module _ (t a j : ℕ) (ea : a ≡ total (take t rows)) (ej : j ≡ total (take t counts)) where
    pub fine-here : fine_at t ≡ fine_level_text t (take (a + get_or rows t 0 - a) (drop a level_points)) p j (get_or counts t 0)
    unfolding fine_at
    fine-here = rw (ea, ej)

    pub coarse-here : coarse_text t ≡ coarse_level_text t (take (a + get_or rows t 0 - a) (drop a level_points)) p j
    unfolding coarse_text
    coarse-here = rw (ea, ej)

  pub levels-whole : (n t : ℕ) → Stands p level_points rows counts n → t ≡ n - 1 → levels_text 0 (read_levels p level_points rows counts n) ≡ front_text t ++ coarse_text t
  levels-whole n t s e =
      let f : n ≡ t + 1 = omega (arith, s.some) in
      ap (λ (k : ℕ). levels_text 0 (read_levels p level_points rows counts k)) f ∙ texts-end t (ap (λ (k : ℕ). get_or counts k 0) e ∙ s.coarse)
