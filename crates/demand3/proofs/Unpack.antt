-- The tree in what a build hands back: the reading's laws in the demand's words. Assumes nothing.
-- Holds: leaf_lists, PackedIn, handed-levels, handed-rows, handed-leaves, handed-listed, handed-own-count, handed-borrowed-count,
--   handed-own, handed-borrowed, handed-box, handed-cover, handed-depth, handed-counted, handed-beyond
use mathlib.Core.Path.{◌≡◌, sym, ap, ◌∙◌}
use Prim.Native.Nat.{ℕ, ◌≤◌, ◌<◌}
use native.Mathlib.Omega.{arith}
use lib.ListN.{length, get_or, get_or-eq_default}
use mathlib.Core.List.{List}
use Rattle.definition.specs.Tree.{Leaf, Level}
use Rattle.definition.specs.Packed.{leaves_in_lem}
use Rattle.packed.specs.Reading.{Packed, packed}
use Rattle.packed.proofs.Counts.{no_level}
use Rattle.packed.proofs.Unpacked as tree
use Rattle.packed.proofs.Unpacked.{Packs, no_leaf}
use Rattle.demand3.specs.Handed.{Handed, level_count, rows_on_lem, leaves_on, listed, row_number, domain_row, own_of, borrowed_of, box_of, cover_in, depth_of}
use Rattle.demand3.specs.Demand3.{Counted}

-- the lists that hold the leaves, on d axes
abbrev pub leaf_lists : ℕ → Handed → Packed
leaf_lists d h = packed h.lists.internals h.lists.domains h.lists.boxes h.lists.borrowed d

abbrev pub PackedIn : ℕ → List Level → Handed → Type 0
PackedIn d ls h = Packs ls (leaf_lists d h) h.lists.level_points h.counts

module _ (d : ℕ) (ls : List Level) (h : Handed) (k : PackedIn d ls h) where
  pub handed-levels : level_count h ≡ length ls
  handed-levels = tree.levels-are ls (leaf_lists d h) h.lists.level_points h.counts k

  pub handed-rows : (l : ℕ) → rows_on_lem h l ≡ length (get_or ls l no_level).points
  handed-rows = tree.rows_on ls (leaf_lists d h) h.lists.level_points h.counts k

  pub handed-leaves : (l : ℕ) → leaves_on h l ≡ length (get_or ls l no_level).leaves
  handed-leaves = tree.leaves-on ls (leaf_lists d h) h.lists.level_points h.counts k

  pub handed-listed : (l : ℕ) → listed h l ≡ (get_or ls l no_level).points
  unfolding listed
  handed-listed = tree.listed-is ls (leaf_lists d h) h.lists.level_points h.counts k

  -- ---- a leaf
  module _ (l i : ℕ) (in-level : i < length (get_or ls l no_level).leaves) where
    there : row_number h l i < length (leaves_in_lem ls)
    unfolding row_number
    there = tree.leaf-in ls (leaf_lists d h) h.lists.level_points h.counts k l i in-level

    is : get_or (leaves_in_lem ls) (row_number h l i) no_leaf ≡ get_or (get_or ls l no_level).leaves i no_leaf
    unfolding row_number
    is = tree.leaf-at ls (leaf_lists d h) h.lists.level_points h.counts k l i in-level

    pub handed-own-count : (domain_row h l i).own_count ≡ length (get_or (get_or ls l no_level).leaves i no_leaf).own
    unfolding domain_row
    handed-own-count = tree.own-count-is ls (leaf_lists d h) h.lists.level_points h.counts k (row_number h l i) there ∙ ap (λ (f : Leaf). length f.own) is

    pub handed-borrowed-count : (domain_row h l i).borrowed_count ≡ length (get_or (get_or ls l no_level).leaves i no_leaf).borrowed
    unfolding domain_row
    handed-borrowed-count = tree.borrowed-count-is ls (leaf_lists d h) h.lists.level_points h.counts k (row_number h l i) there ∙ ap (λ (f : Leaf). length f.borrowed) is

    pub handed-own : own_of h l i ≡ (get_or (get_or ls l no_level).leaves i no_leaf).own
    unfolding own_of
    handed-own = tree.own_is ls (leaf_lists d h) h.lists.level_points h.counts k (row_number h l i) there ∙ ap (λ (f : Leaf). f.own) is

    pub handed-borrowed : borrowed_of h l i ≡ (get_or (get_or ls l no_level).leaves i no_leaf).borrowed
    unfolding borrowed_of
    handed-borrowed = tree.borrowed-is ls (leaf_lists d h) h.lists.level_points h.counts k (row_number h l i) there ∙ ap (λ (f : Leaf). f.borrowed) is

    pub handed-box : box_of d h l i ≡ (get_or (get_or ls l no_level).leaves i no_leaf).box
    unfolding box_of
    handed-box = tree.box-is ls (leaf_lists d h) h.lists.level_points h.counts k (row_number h l i) there ∙ ap (λ (f : Leaf). f.box) is

    pub handed-cover : cover_in d h l i ≡ (get_or (get_or ls l no_level).leaves i no_leaf).cover
    unfolding cover_in
    handed-cover = tree.cover_is ls (leaf_lists d h) h.lists.level_points h.counts k (row_number h l i) there ∙ ap (λ (f : Leaf). f.cover) is

    pub handed-depth : depth_of h l i ≡ (get_or (get_or ls l no_level).leaves i no_leaf).depth
    unfolding depth_of
    handed-depth = tree.depth_is ls (leaf_lists d h) h.lists.level_points h.counts k (row_number h l i) there ∙ ap (λ (f : Leaf). f.depth) is

  -- ---- counts
  pub handed-counted : (l : ℕ) → Counted h l
  handed-counted l = record {
    of_level = ap length (handed-listed l) ∙ sym (handed-rows l);
    of_own = λ i m. let z : i < length (get_or ls l no_level).leaves = omega (arith, handed-leaves l) in ap length (handed-own l i z) ∙ sym (handed-own-count l i z);
    of_borrowed = λ i m. let z : i < length (get_or ls l no_level).leaves = omega (arith, handed-leaves l) in ap length (handed-borrowed l i z) ∙ sym (handed-borrowed-count l i z);
  }

  pub handed-beyond : (l : ℕ) → level_count h ≤ l → (rows_on_lem h l ≡ 0) × (leaves_on h l ≡ 0)
  handed-beyond l m =
      let none : get_or ls l no_level ≡ no_level = get_or-eq_default ls no_level (omega (arith, handed-levels)) in
      (handed-rows l ∙ ap (λ (x : Level). length x.points) none, handed-leaves l ∙ ap (λ (x : Level). length x.leaves) none)
