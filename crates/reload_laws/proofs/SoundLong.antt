-- How long the printout of a sound tree can be: over at most 32 rows on at most 3 axes there are at most four levels and 193 domains.
-- Assumes nothing.
use mathlib.Core.Path.{◌≡◌, sym}
use Prim.Native.Nat.{ℕ, suc, ◌+◌, ◌*◌, ◌≤◌, ◌<◌}
use native.Mathlib.Omega.{arith}
use mathlib.Core.Bool.{true, true≢false}
use mathlib.Core.List.{List, [], ◌∷◌, ◌++◌, Memᴰ}
use lib.ListN.{length, length-append}
use lib.Dec.{leb, eqb}
use borrow.Author.Tests.{leb-true, eqb-true}
use Rattle.lists.specs.Lists.{from, joined}
use Rattle.lists.specs.Ascends.{All}
use Rattle.lists.proofs.Tests.{and-fst, four-pass}
use Rattle.lists.proofs.All.{all-of}
use Rattle.definition.specs.Points.{box_width_lem}
use Rattle.definition.specs.Tree.{Settings, Leaf, Level}
use Rattle.definition.specs.Packed.{most_levels, most_rows, leaves_in_lem}
use Rattle.formats.specs.Stream.{stream_points}
use Rattle.formats.specs.Printout.{ascii, domain_line, fine_lines, coarse_lines, level_line, levels_text, tree_text}
use Rattle.stream_laws.specs.Sizes.{most_bytes}
use Rattle.stream_laws.proofs.Long.{decimal-long, each_long, FewRows, few-from, Brief, domain-long, level-long, fine-long, dash-long}
use Rattle.stored.specs.Sound.{sound_box, sound_depths, sound_levels, first_all, fits, sound}
use Rattle.tree_tests.proofs.AllRows.{same-is}
use Rattle.stored_laws.proofs.Stowed.{leaves-many}
use Rattle.tree_tests.proofs.Depths.{depth-most}
use Rattle.tree_tests.proofs.SoundLevels.{coarse-level, fine-level, sound-rows-first, sound-rows-ascend}
use Rattle.reload_laws.proofs.SoundRows.{few-inside, own-few, borrowed_few}

-- ---- a level
two_digits : (l : Level) → sound_depths l ≡ true → (f : Leaf) → Memᴰ f l.leaves → f.depth < 100
two_digits l h f m = omega (arith, depth-most l h f m)

module _ (d : ℕ) (axes : d ≤ 3) where
  box-few : (f : Leaf) → sound_box d f ≡ true → length f.box ≤ 6
  unfolding sound_box
  box-few f h = omega (arith, eqb-true (length f.box) (box_width_lem d) (and-fst (eqb (length f.box) (box_width_lem d)) _ h))

  -- the coarse one
  coarse-long : (t : ℕ) (l : Level) → sound_levels d (l ∷ []) ≡ true → FewRows l.points
      → length (levels_text t (l ∷ [])) ≤ 130 + 358 * length l.leaves
  unfolding levels_text coarse_lines
  coarse-long t l h rows =
      let c = coarse-level d l h in
      let Few : Leaf → Type 0 = λ f. FewRows f.own × FewRows f.borrowed × (f.depth < 100) in
      let all : All Few l.leaves = all-of Few l.leaves (λ f m. (own-few l c.rows rows f m, borrowed_few l c.rows rows f m, two_digits l c.depths f m)) in
      let lines = each_long (λ f. domain_line 0 f (ascii " -")) 358 Few (λ f k. omega (arith, domain-long 0 f (ascii " -") k.0 k.1 k.2 (omega arith), dash-long)) l.leaves all in
      omega (arith, length-append (level_line t l) (coarse_lines l.leaves), level-long t l rows, lines)

  -- one before others
  fine-text : (t : ℕ) (l m : Level) (ls : List Level) → sound_levels d (l ∷ m ∷ ls) ≡ true → FewRows l.points → length l.leaves ≤ 1000
      → length (level_line t l ++ fine_lines 0 l.leaves) ≤ 130 + 358 * length l.leaves
  fine-text t l m ls h rows few =
      let c = fine-level d l m ls h in
      let all : All Brief l.leaves =
      all-of Brief l.leaves
      (λ f k. record { own = own-few l c.rows rows f k; borrowed = borrowed_few l c.rows rows f k; box = box-few f (c.boxes f k); depth = two_digits l c.depths f k }) in
      omega (arith, length-append (level_line t l) (fine_lines 0 l.leaves), level-long t l rows, fine-long 0 l.leaves (omega arith) all)

  -- ---- the levels from any on
  next-few : (l m : Level) (ls : List Level) → sound_levels d (l ∷ m ∷ ls) ≡ true → FewRows l.points → FewRows m.points
  next-few l m ls h rows =
      let c = fine-level d l m ls h in
      few-inside m.points l.points
      (sound-rows-ascend m (sound-rows-first d m ls c.later))
      (sound-rows-ascend l c.rows) rows c.inside

  levels-long : (t : ℕ) (l : Level) (ls : List Level) → sound_levels d (l ∷ ls) ≡ true → FewRows l.points → length (leaves_in_lem (l ∷ ls)) ≤ 1000
      → length (levels_text t (l ∷ ls)) ≤ 130 * length (l ∷ ls) + 358 * length (leaves_in_lem (l ∷ ls))
  unfolding levels_text leaves_in_lem joined
  levels-long t l [] h rows few = omega (arith, coarse-long t l h rows, length-append l.leaves [])
  levels-long t l (m ∷ ls) h rows few =
      let split = length-append l.leaves (leaves_in_lem (m ∷ ls)) in
      omega (
        arith,
        split,
        length-append (level_line t l ++ fine_lines 0 l.leaves) (levels_text (suc t) (m ∷ ls)),
        fine-text t l m ls h rows (omega (arith, split, few)),
        levels-long (suc t) m ls (fine-level d l m ls h).later (next-few l m ls h rows) (omega (arith, split, few)),
      )

-- ---- the tree
module _ (s : Settings) (n : ℕ) (few : n ≤ stream_points) where
  first-few : (l : Level) (ls : List Level) → first_all n (l ∷ ls) ≡ true → FewRows l.points
  unfolding first_all
  first-few l ls h = rw (same-is l.points (from 0 n) h) (few-from n few)

  tree-long : (axes : s.dimension ≤ 3) (ls : List Level) → length ls ≤ most_levels → length (leaves_in_lem ls) ≤ most_rows n → first_all n ls ≡ true
      → sound_levels s.dimension ls ≡ true → length (levels_text 0 ls) ≤ 69614
  unfolding sound_levels
  tree-long axes [] short most first h = absurd (true≢false (sym h))
  tree-long axes (l ∷ ls) short most first h =
      omega (arith, levels-long s.dimension axes 0 l ls h (first-few l ls first) (omega arith))

-- THE LAW: no printout of a sound tree over at most 32 rows on at most 3 axes is longer than `most_bytes`
pub sound-long : (s : Settings) (n : ℕ) (ls : List Level) → sound s n ls ≡ true → n ≤ stream_points → s.dimension ≤ 3 → length (tree_text ls) ≤ most_bytes
unfolding sound tree_text ascii
sound-long s n ls h few axes =
    let g = four-pass (leb (length ls) most_levels) (first_all n ls) (sound_levels s.dimension ls) (fits s.dimension n s.neighbours ls) h in
    let short = leb-true (length ls) most_levels g.0 in
    simp length-append
    (omega (arith, tree-long s n few axes ls short (leaves-many s n ls h) g.1 g.2, decimal-long (length ls)))
