-- A tree that is packed into the lists and sound stands at their front, so a reader who goes by its counts and domain rows stays inside them.
-- Assumes nothing.
use mathlib.Core.Path.{◌≡◌, sym, ap, ◌∙◌}
use mathlib.Core.Bool.{Bool, true, ◌&&◌}
use mathlib.Core.List.{List, ◌++◌}
use Prim.Native.Nat.{ℕ, ◌-◌, ◌≤◌}
use native.Mathlib.Nat.{mul-le-mul_left, le_trans}
use native.Mathlib.Omega.{arith}
use borrow.Author.Tests.{eqb-true}
use lib.Dec.{eqb}
use lib.ListN.{length, take, drop, take-append-drop}
use lib.Ieee.{Float}
use Rattle.definition.specs.Tree.{Settings, Level}
use Rattle.definition.specs.Packed.{Counts, counts_of, row_floats_lem, tree_stated, leaves_in_lem, packed_level_points, packed_internals, packed_domains, packed_boxes, packed_borrowed}
use Rattle.definition.specs.Outcome.{TreeLists}
use Rattle.packed.specs.Reading.{Packed, packed, Stands}
use Rattle.packed.proofs.Unpacked.{Packs, levels-are, leaf-in, tree-stands}
use Rattle.stored.specs.Sound.{same, sound}
use Rattle.stored.specs.Outcome.{tree_held, leads, packs}
use Rattle.tree_tests.proofs.AllRows.{same-is}
use Rattle.tree_tests.proofs.Several.{three-pass}
use Rattle.stored_rules.proofs.SoundTree.{sound-tree}
use Rattle.stored_laws.proofs.Stowed.{leaves-many}
use Rattle.stored_laws.proofs.Fronts.{boxes-held}

-- ---- numbers that lead a list, and what stands after them
leads-append : (xs l : List ℕ) → leads xs l ≡ true → l ≡ xs ++ drop (length xs) l
leads-append xs l h = sym (take-append-drop (length xs) l) ∙ ap (λ (ys : List ℕ). ys ++ drop (length xs) l) (sym (same-is xs (take (length xs) l) h))

-- ---- counts that agree in each part
counts-from-parts : (a b : Counts) → a.levels ≡ b.levels → a.rows ≡ b.rows → a.domains ≡ b.domains → a ≡ b
counts-from-parts a b e f g = go e f g
  where
    go : {i j : ℕ} {xs ys us vs : List ℕ} → i ≡ j → xs ≡ ys → us ≡ vs → ◌≡◌ {A = Counts} (record { levels = i; rows = xs; domains = us }) (record { levels = j; rows = ys; domains = vs })
    go e f g = rw (e, f, g)

module _ (s : Settings) (n : ℕ) (c : Counts) (l : TreeLists) where
  abbrev d : ℕ
  d = s.dimension

  abbrev p : Packed
  p = packed l.internals l.domains l.boxes l.borrowed d

  abbrev ls : List Level
  ls = tree_held d c l

  -- the tests of `packs`, taken apart
  abbrev front : Bool
  front = eqb c.levels (counts_of ls).levels && same c.rows (counts_of ls).rows && same c.domains (counts_of ls).domains

  abbrev rows-lead : Bool
  rows-lead = leads (packed_level_points ls) l.level_points

  abbrev own-lead : Bool
  own-lead = leads (packed_internals ls) l.internals

  abbrev domains-lead : Bool
  domains-lead = leads (packed_domains ls) l.domains

  abbrev borrowed-lead : Bool
  borrowed-lead = leads (packed_borrowed ls) l.borrowed

  counts_same : front ≡ true → c ≡ counts_of ls
  counts_same h =
      let f = three-pass (eqb c.levels (counts_of ls).levels) (same c.rows (counts_of ls).rows) (same c.domains (counts_of ls).domains) h in
      counts-from-parts c (counts_of ls) (eqb-true c.levels (counts_of ls).levels f.0) (same-is c.rows (counts_of ls).rows f.1)
      (same-is c.domains (counts_of ls).domains f.2)

  -- the tree stands at the front of the lists, which have room for its boxes
  module _ (packing : packs c l (tree_held s.dimension c l) ≡ true) (passing : sound s n (tree_held s.dimension c l) ≡ true)
      (room : (tree_stated s.dimension n s.neighbours).boxes ≤ length l.boxes) where
    tests : (front ≡ true) × (rows-lead ≡ true) × (own-lead ≡ true) × (domains-lead ≡ true) × (borrowed-lead ≡ true)
    unfolding packs
    tests =
        let f = three-pass (front && rows-lead && own-lead) domains-lead borrowed-lead packing in
        let g = three-pass front rows-lead own-lead f.0 in
        (g.0, g.1, g.2, f.1, f.2)

    boxes-lead : l.boxes ≡ packed_boxes ls ++ drop (length (packed_boxes ls)) l.boxes
    unfolding tree_stated
    boxes-lead =
        let k = length (packed_boxes ls) in
        let e = boxes-held d c l (le_trans (mul-le-mul_left (row_floats_lem d) (leaves-many s n ls passing)) room) in
        sym (take-append-drop k l.boxes) ∙ ap (λ (xs : List Float). xs ++ drop k l.boxes) (sym e)

    at_front : Packs ls p l.level_points c
    at_front =
        let t = sound-tree s n ls passing in
        record {
          few = t.few;
          boxed = t.boxed;
          counts = counts_same tests.0;
          points-rest = drop (length (packed_level_points ls)) l.level_points;
          points-are = leads-append (packed_level_points ls) l.level_points tests.1;
          internals-rest = drop (length (packed_internals ls)) l.internals;
          internals = leads-append (packed_internals ls) l.internals tests.2;
          domains-rest = drop (length (packed_domains ls)) l.domains;
          domains = leads-append (packed_domains ls) l.domains tests.3;
          boxes-rest = drop (length (packed_boxes ls)) l.boxes;
          boxes = boxes-lead;
          borrowed-rest = drop (length (packed_borrowed ls)) l.borrowed;
          borrowed = leads-append (packed_borrowed ls) l.borrowed tests.4;
        }

    pub held-levels : c.levels ≡ length (tree_held s.dimension c l)
    held-levels = levels-are ls p l.level_points c at_front

    pub held-some : 1 ≤ length (leaves_in_lem (tree_held s.dimension c l))
    held-some =
        let t = sound-tree s n ls passing in
        let one = (t.last (length ls - 1) (omega (arith, t.some))).one-leaf in
        omega (arith, leaf-in ls p l.level_points c at_front (length ls - 1) 0 (omega (arith, one)))

    -- THE LAW: a reader stays inside the lists
    pub held-stands : s.dimension ≤ 3
        → Stands (packed l.internals l.domains l.boxes l.borrowed s.dimension) l.level_points c.rows c.domains c.levels
    held-stands axes =
        let t = sound-tree s n ls passing in
        tree-stands ls p l.level_points c at_front axes t.some (t.last (length ls - 1) (omega (arith, t.some))).one-leaf
