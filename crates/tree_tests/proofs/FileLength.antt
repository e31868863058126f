-- The length of the file of a tree that passes its tests in turn, by counts alone. Assumes nothing.
use mathlib.Core.Path.{◌≡◌, refl, sym, ap, ◌∙◌}
use Prim.Native.Nat.{ℕ, suc, ◌+◌, ◌-◌, ◌*◌, ◌≤◌}
use native.Mathlib.Nat.{mul-suc}
use native.Mathlib.Omega.{arith}
use mathlib.Core.Bool.{true, true≢false}
use mathlib.Core.List.{List, [], ◌∷◌, ◌++◌, map}
use lib.ListN.{length, length-append}
use lib.Dec.{ltb, eqb}
use lib.Ieee.{Float}
use borrow.Author.Tests.{eqb-true}
use Rattle.lists.specs.Lists.{total, joined}
use Rattle.lists.proofs.Tests.{and-fst}
use Rattle.lists.proofs.Joined.{joined-append}
use Rattle.definition.specs.Points.{box_width_lem}
use Rattle.definition.specs.Tree.{Settings, Leaf, Level, point_count}
use Rattle.definition.specs.Packed.{leaves_in_lem, packed_level_points, packed_borrowed}
use Rattle.definition_laws.proofs.Fit.{length-leaves, length-points, length-borrowed}
use Rattle.formats.specs.Bytes.{number_size, float_size}
use Rattle.stored.specs.File.{front_bytes_lem, level_bytes, domain_bytes, tree_records, file_bytes}
use Rattle.stored.specs.Sound.{sound_box, sound_levels}
use Rattle.stored.specs.Stored.{counts_size}
use Rattle.tree_tests.specs.InTurn.{levels_pass}
use Rattle.tree_tests.specs.Size.{file_size_lem}
use Rattle.tree_tests.proofs.SoundLevels.{coarse-level, fine-level}
use Rattle.tree_tests.proofs.Passed.{passed_is, own-length}
use Rattle.tree_tests.proofs.Lengths.{borrowed_total, length_front, length-level, length-domains-in}

-- ---- level rows, domains and borrowed rows of levels
abbrev rows_of : List Level → ℕ
rows_of ls = total (map (λ (l : Level). length l.points) ls)

abbrev domains_of_lem : List Level → ℕ
domains_of_lem ls = total (map (λ (l : Level). length l.leaves) ls)

abbrev borrowed_of : List Level → ℕ
borrowed_of ls = total (map (λ (l : Level). borrowed_total l.leaves) ls)

-- ---- the records of the levels. The coarse domain's box is counted on both sides, so that nothing is taken away.
abbrev Records : ℕ → List Level → Type 0
Records d ls =
    length (joined (tree_records ls)) + float_size * box_width_lem d
    ≡ counts_size * (length ls + domains_of_lem ls) + number_size * (2 * rows_of ls + borrowed_of ls) + (float_size + number_size) * domains_of_lem ls
    + float_size * box_width_lem d * domains_of_lem ls

box-length : (d : ℕ) (f : Leaf) → sound_box d f ≡ true → length f.box ≡ box_width_lem d
unfolding sound_box
box-length d f h = eqb-true (length f.box) (box_width_lem d) (and-fst (eqb (length f.box) (box_width_lem d)) _ h)

length-records-of : (d : ℕ) (l : Level) (ls : List Level) → sound_levels d (l ∷ ls) ≡ true → (1 ≤ domains_of_lem (l ∷ ls)) × Records d (l ∷ ls)
unfolding tree_records joined total
length-records-of d l [] h =
    let c = coarse-level d l h in
    let a = length-append (level_bytes l) (joined (map (domain_bytes []) l.leaves)) in
    let b = length-domains-in (λ f. []) 0 l.leaves (λ f m. refl) in
    (omega (arith, c.one), omega (arith, a, b, c.one, ap (λ (k : ℕ). d * k) c.one, own-length l c.rows, length-level l))
length-records-of d l (m ∷ ls) h =
    let c = fine-level d l m ls h in
    let g = length-records-of d m ls c.later in
    let rs = map (λ (f : Leaf). domain_bytes f.box f) l.leaves in
    let a = length-append (level_bytes l) (joined (rs ++ tree_records (m ∷ ls))) in
    let e = ap length (joined-append rs (tree_records (m ∷ ls))) ∙ length-append (joined rs) (joined (tree_records (m ∷ ls))) in
    let b = length-domains-in (λ f. f.box) (box_width_lem d) l.leaves (λ f m. box-length d f (c.boxes f m)) in
    (omega (arith, g.0), omega (arith, a, b, e, g.1, own-length l c.rows, length-level l))

records-of : (d : ℕ) (ls : List Level) → sound_levels d ls ≡ true → (1 ≤ domains_of_lem ls) × Records d ls
unfolding sound_levels
records-of d [] h = absurd (true≢false (sym h))
records-of d (l ∷ ls) h = length-records-of d l ls h

-- one box less than domains
one_less : (w k : ℕ) → 1 ≤ k → w * k ≡ w * (k - 1) + w
one_less w k h = let e : k ≡ suc (k - 1) = omega arith in ap (λ (m : ℕ). w * m) e ∙ mul-suc w (k - 1)

-- THE LENGTH: of a tree over n rows that passes in turn
pub file-length : (s : Settings) (cs : List Float) (n : ℕ) (ls : List Level) → levels_pass s.dimension (λ k. eqb k n) (λ i. ltb i n) ls ≡ true
    → length (file_bytes s cs ls)
    ≡ file_size_lem s.dimension (point_count s.dimension cs) (length ls) (length (packed_level_points ls)) (length (leaves_in_lem ls)) (length (packed_borrowed ls))
unfolding file_bytes
file-length s cs n ls h =
    let d = s.dimension in
    let g = records-of d ls (passed_is d n ls h).levels in
    rw (length-points ls, length-leaves ls, length-borrowed ls)
    (length-append (front_bytes_lem s cs) (joined (tree_records ls)) ∙ omega (arith, length_front s cs, g.1, one_less (float_size * box_width_lem d) (domains_of_lem ls) g.0))
