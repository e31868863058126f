-- A packed tree is read back: the rows of each level, each leaf by its domain row, and so the whole tree; and a reader who goes by the
-- domain rows stays inside the lists. Assumes nothing.
-- Holds: no_leaf, Packs, levels-are, rows_on, leaves-on, listed-is, own-count-is, borrowed-count-is, depth_is, own_is,
--   borrowed-is, box-is, cover_is, leaf-is, tree-row-fits, leaf-in, leaf-at, tree-back, tree-stands
use mathlib.Core.Path.{◌≡◌, refl, sym, ap, ap₂, ◌∙◌}
use mathlib.Core.Logic.{⊎_elim}
use mathlib.Core.List.{List, [], ◌∷◌, ◌++◌, map, map-map, map-id, append_assoc}
use Prim.Native.Nat.{ℕ, zero, suc, ◌+◌, ◌-◌, ◌*◌, ◌≤◌, ◌<◌}
use native.Mathlib.Omega.{arith}
use native.Mathlib.Nat.{zero-add, add-zero, add_assoc, mul-add}
use lib.ListN.{length, get_or, take, length-map, length-append, get_or-append, get_or-eq_default}
use lib.Seq.{get_or-append-add, take-append_seam, take-length}
use lib.Ieee.{Float}
use Rattle.lists.specs.Lists.{total, from, joined, part}
use Rattle.lists.specs.Ascends.{All}
use Rattle.lists.proofs.Tests.{le-or-lt}
use Rattle.lists.proofs.All.{all_map, all-imp, all-at}
use Rattle.lists.proofs.Map.{take-map, get_d-map-in}
use Rattle.lists.proofs.From.{map-from-at}
use Rattle.lists.proofs.Put.{part-nil, part-part, get_d_part}
use Rattle.lists.proofs.Joined.{joined_at, joined-fits, get_d-joined, even-lengths}
use Rattle.definition.specs.Number.{plus_zero}
use Rattle.definition.specs.Points.{box_width_lem}
use Rattle.definition.specs.Tree.{Leaf, Level, most_fine}
use Rattle.definition.specs.Packed.{Counts, row_numbers, row_floats_lem, row_of, numbers_of, leaf_floats, leaves_in_lem, packed_level_points, packed_internals, packed_borrowed, packed_domains, packed_boxes, stretches, per_level, counts_of}
use Rattle.definition_laws.proofs.Fit.{length-leaves, length-points, length-domains, floats-length}
use Rattle.packed.specs.Reading.{Packed, own_start, own_count, borrowed_start, borrowed_count, depth_at, own_at, borrowed_at, box_at_lem, cover_at, read_leaf, read_leaves, up_to, points_at, read_level, read_levels, RowFits, Stands}
use Rattle.packed.proofs.Counts.{no_level, counts-length, counts-before, level-count}

-- what stands past a level's leaves
abbrev pub no_leaf : Leaf
no_leaf = record { own = []; borrowed = []; box = []; cover = plus_zero; depth = 0 }

-- ---- the numbers of the domain rows

-- the own, and the borrowed, rows of leaves together
abbrev own_sum : List Leaf → ℕ
own_sum fs = total (map length (map (λ f. f.own) fs))

abbrev borrowed_sum : List Leaf → ℕ
borrowed_sum fs = total (map length (map (λ f. f.borrowed) fs))

-- number k of the domain row at i: its stretches start where those before it end
number-at : (rest : List ℕ) (fs : List Leaf) (a b i k : ℕ) → i < length fs → k < row_numbers
    → get_or (stretches a b fs ++ rest) (row_numbers * i + k) 0
    ≡ get_or (numbers_of (row_of (a + own_sum (take i fs)) (b + borrowed_sum (take i fs)) (get_or fs i no_leaf))) k 0
unfolding stretches total
number-at rest [] a b i k h g = absurd (omega arith)
number-at rest (f ∷ fs) a b zero k h g =
    let here = numbers_of (row_of a b f) in
    let more = stretches (a + length f.own) (b + length f.borrowed) fs in
    ap (λ (l : List ℕ). get_or l (row_numbers * 0 + k) 0) (append_assoc here more rest)
    ∙ ap (λ (j : ℕ). get_or (here ++ (more ++ rest)) j 0) (zero-add k)
    ∙ get_or-append here (more ++ rest) 0 k g
    ∙ ap₂ (λ (x y : ℕ). get_or (numbers_of (row_of x y f)) k 0) (sym (add-zero a)) (sym (add-zero b))
number-at rest (f ∷ fs) a b (suc i) k h g =
    let here = numbers_of (row_of a b f) in
    let more = stretches (a + length f.own) (b + length f.borrowed) fs in
    let e : row_numbers * suc i + k ≡ length here + (row_numbers * i + k) = omega arith in
    ap₂ (λ (l : List ℕ) (j : ℕ). get_or l j 0) (append_assoc here more rest) e
    ∙ get_or-append-add here (more ++ rest) (row_numbers * i + k) 0
    ∙ number-at rest fs (a + length f.own) (b + length f.borrowed) i k (omega arith) g
    ∙ ap₂ (λ (x y : ℕ). get_or (numbers_of (row_of x y (get_or fs i no_leaf))) k 0)
    (add_assoc a (length f.own) (own_sum (take i fs))) (add_assoc b (length f.borrowed) (borrowed_sum (take i fs)))

-- ---- a tree at the front of the lent lists, with its counts
pub record Packs (ls : List Level) (p : Packed) (level_points : List ℕ) (c : Counts) : Type 0 where
  pub few : length ls ≤ suc most_fine
  pub boxed : All (λ (f : Leaf). length f.box ≡ box_width_lem p.dimension) (leaves_in_lem ls)
  pub counts : c ≡ counts_of ls
  pub points-rest : List ℕ
  pub points-are : level_points ≡ packed_level_points ls ++ points-rest
  pub internals-rest : List ℕ
  pub internals : p.internals ≡ packed_internals ls ++ internals-rest
  pub domains-rest : List ℕ
  pub domains : p.domains ≡ packed_domains ls ++ domains-rest
  pub boxes-rest : List Float
  pub boxes : p.boxes ≡ packed_boxes ls ++ boxes-rest
  pub borrowed-rest : List ℕ
  pub borrowed : p.borrowed ≡ packed_borrowed ls ++ borrowed-rest

module _ (ls : List Level) (p : Packed) (level_points : List ℕ) (c : Counts) (k : Packs ls p level_points c) where
  -- ---- counts
  pub levels-are : c.levels ≡ length ls
  unfolding counts_of
  levels-are = ap (λ (x : Counts). x.levels) k.counts

  rows_are : c.rows ≡ per_level (λ l. length l.points) ls
  unfolding counts_of
  rows_are = ap (λ (x : Counts). x.rows) k.counts

  domains-are : c.domains ≡ per_level (λ l. length l.leaves) ls
  unfolding counts_of
  domains-are = ap (λ (x : Counts). x.domains) k.counts

  pub rows_on : (l : ℕ) → get_or c.rows l 0 ≡ length (get_or ls l no_level).points
  rows_on l = ap (λ (x : List ℕ). get_or x l 0) rows_are ∙ level-count (λ l. length l.points) ls k.few refl l

  pub leaves-on : (l : ℕ) → get_or c.domains l 0 ≡ length (get_or ls l no_level).leaves
  leaves-on l = ap (λ (x : List ℕ). get_or x l 0) domains-are ∙ level-count (λ l. length l.leaves) ls k.few refl l

  -- the rows, and the leaves, of the levels before level l
  rows_before : (l : ℕ) → l ≤ length ls → take l c.rows ≡ map length (take l (map (λ l. l.points) ls))
  rows_before l h =
      ap (take l) rows_are ∙ counts-before (λ l. length l.points) ls k.few l h
      ∙ sym (map-map length (λ (l : Level). l.points) (take l ls)) ∙ ap (map length) (sym (take-map (λ (l : Level). l.points) l ls))

  leaves-before : (l : ℕ) → l ≤ length ls → take l c.domains ≡ map length (take l (map (λ l. l.leaves) ls))
  leaves-before l h =
      ap (take l) domains-are ∙ counts-before (λ l. length l.leaves) ls k.few l h
      ∙ sym (map-map length (λ (l : Level). l.leaves) (take l ls)) ∙ ap (map length) (sym (take-map (λ (l : Level). l.leaves) l ls))

  -- ---- the rows of a level
  pub listed-is : (l : ℕ) → points_at level_points c.rows l ≡ (get_or ls l no_level).points
  unfolding packed_level_points
  listed-is l =
      ⊎_elim
      (λ (past : length ls ≤ l).
      let e : get_or ls l no_level ≡ no_level = get_or-eq_default ls no_level past in
      let n : get_or c.rows l 0 ≡ 0 = rows_on l ∙ ap (λ (x : Level). length x.points) e in
      rw (n, e) (part-nil level_points (up_to c.rows l)))
      (λ (h : l < length ls).
      let blocks : List (List ℕ) = map (λ l. l.points) ls in
      let e : get_or blocks l [] ≡ (get_or ls l no_level).points = get_d-map-in (λ l. l.points) ls l no_level [] h in
      let n : get_or c.rows l 0 ≡ length (get_or blocks l []) = rows_on l ∙ ap length (sym e) in
      rw (k.points-are, n, rows_before l (omega arith)) (joined_at blocks k.points-rest l (rw (length-map ls (λ (l : Level). l.points)) h) ∙ e))
      (le-or-lt (length ls) l)

  -- ---- the leaf of the domain row number j
  abbrev all : List Leaf
  all = leaves_in_lem ls

  module _ (j : ℕ) (h : j < length (leaves_in_lem ls)) where
    abbrev leaf : Leaf
    leaf = get_or all j no_leaf

    number_is : (i : ℕ) → i < row_numbers
        → get_or p.domains (row_numbers * j + i) 0 ≡ get_or (numbers_of (row_of (own_sum (take j all)) (borrowed_sum (take j all)) (get_or all j no_leaf))) i 0
    unfolding packed_domains
    number_is i lt =
        ap (λ (x : List ℕ). get_or x (row_numbers * j + i) 0) k.domains ∙ number-at k.domains-rest all 0 0 j i h lt
        ∙ ap₂ (λ (x y : ℕ). get_or (numbers_of (row_of x y leaf)) i 0) (zero-add (own_sum (take j all))) (zero-add (borrowed_sum (take j all)))

    own-start-is : own_start p.domains j ≡ own_sum (take j all)
    own-start-is = ap (λ (i : ℕ). get_or p.domains i 0) (sym (add-zero (row_numbers * j))) ∙ number_is 0 (omega arith)

    pub own-count-is : own_count p.domains j ≡ length (get_or (leaves_in_lem ls) j no_leaf).own
    own-count-is = number_is 1 (omega arith)

    borrowed-start-is : borrowed_start p.domains j ≡ borrowed_sum (take j all)
    borrowed-start-is = number_is 2 (omega arith)

    pub borrowed-count-is : borrowed_count p.domains j ≡ length (get_or (leaves_in_lem ls) j no_leaf).borrowed
    borrowed-count-is = number_is 3 (omega arith)

    pub depth_is : depth_at p.domains j ≡ (get_or (leaves_in_lem ls) j no_leaf).depth
    depth_is = number_is 4 (omega arith)

    -- the stretch of the leaf in a list that holds what `f` gives of each leaf
    module _ {A : Type 0} (f : Leaf → List A) (start many : ℕ) (a : start ≡ total (map length (map f (take j all)))) (n : many ≡ length (f leaf)) where
      named : get_or (map f all) j [] ≡ f leaf
      named = get_d-map-in f all j no_leaf [] h

      start_is : start ≡ total (map length (take j (map f all)))
      start_is = a ∙ ap (λ (x : List (List A)). total (map length x)) (sym (take-map f j all))

      in_blocks : j < length (map f all)
      in_blocks = rw (length-map all f) h

      stretch-is : (rest : List A) → part (joined (map f all) ++ rest) start many ≡ f leaf
      stretch-is rest =
          ap₂ (λ (x y : ℕ). part (joined (map f all) ++ rest) x y) start_is (n ∙ ap length (sym named))
          ∙ joined_at (map f all) rest j in_blocks ∙ named

      stretch-fits : (list rest : List A) → list ≡ joined (map f all) ++ rest → start + many ≤ length list
      stretch-fits list rest e =
          omega (arith, ap length e, length-append (joined (map f all)) rest, joined-fits (map f all) j in_blocks, start_is, n, ap length named)

    -- the floats of the leaves before it, each with as many as the next
    floats-start : row_floats_lem p.dimension * j ≡ total (map length (map leaf_floats (take j all)))
    floats-start =
        let w = row_floats_lem p.dimension in
        let each : All (λ (b : List Float). length b ≡ w) (map leaf_floats all) =
        all_map (λ (b : List Float). length b ≡ w) leaf_floats all
        (all-imp (λ (f : Leaf). length f.box ≡ box_width_lem p.dimension) (λ f. length (leaf_floats f) ≡ w) all (floats-length p.dimension) k.boxed) in
        sym (even-lengths w (map leaf_floats all) each j (omega (arith, length-map all leaf_floats)))
        ∙ ap (λ (x : List (List Float)). total (map length x)) (take-map leaf_floats j all)

    box-count : length leaf.box ≡ box_width_lem p.dimension
    box-count = all-at (λ (f : Leaf). length f.box ≡ box_width_lem p.dimension) all j no_leaf k.boxed h

    floats-count : row_floats_lem p.dimension ≡ length (leaf_floats leaf)
    floats-count = sym (floats-length p.dimension leaf box-count)

    floats-is : part p.boxes (row_floats_lem p.dimension * j) (row_floats_lem p.dimension) ≡ leaf_floats leaf
    unfolding packed_boxes
    floats-is =
        ap (λ (x : List Float). part x (row_floats_lem p.dimension * j) (row_floats_lem p.dimension)) k.boxes
        ∙ stretch-is leaf_floats (row_floats_lem p.dimension * j) (row_floats_lem p.dimension) floats-start floats-count k.boxes-rest

    pub own_is : own_at p.internals p.domains j ≡ (get_or (leaves_in_lem ls) j no_leaf).own
    unfolding packed_internals
    own_is =
        ap (λ (x : List ℕ). part x (own_start p.domains j) (own_count p.domains j)) k.internals
        ∙ stretch-is (λ f. f.own) (own_start p.domains j) (own_count p.domains j) own-start-is own-count-is k.internals-rest

    pub borrowed-is : borrowed_at p.borrowed p.domains j ≡ (get_or (leaves_in_lem ls) j no_leaf).borrowed
    unfolding packed_borrowed
    borrowed-is =
        ap (λ (x : List ℕ). part x (borrowed_start p.domains j) (borrowed_count p.domains j)) k.borrowed
        ∙ stretch-is (λ f. f.borrowed) (borrowed_start p.domains j) (borrowed_count p.domains j) borrowed-start-is borrowed-count-is k.borrowed-rest

    pub box-is : box_at_lem p.dimension p.boxes j ≡ (get_or (leaves_in_lem ls) j no_leaf).box
    unfolding part
    box-is =
        let s = row_floats_lem p.dimension * j in
        let w = box_width_lem p.dimension in
        ap (λ (i : ℕ). part p.boxes i w) (sym (add-zero s)) ∙ sym (part-part p.boxes s (row_floats_lem p.dimension) 0 w (omega arith))
        ∙ ap (λ (x : List Float). part x 0 w) floats-is
        ∙ ap (λ (i : ℕ). take i (leaf_floats leaf)) (sym box-count) ∙ take-append_seam leaf.box (leaf.cover ∷ [])

    pub cover_is : cover_at p.dimension p.boxes j ≡ (get_or (leaves_in_lem ls) j no_leaf).cover
    cover_is =
        let s = row_floats_lem p.dimension * j in
        let w = box_width_lem p.dimension in
        sym (get_d_part p.boxes s (row_floats_lem p.dimension) w plus_zero (omega arith))
        ∙ ap (λ (x : List Float). get_or x w plus_zero) floats-is
        ∙ ap (λ (i : ℕ). get_or (leaf_floats leaf) i plus_zero) (sym box-count ∙ sym (add-zero (length leaf.box)))
        ∙ get_or-append-add leaf.box (leaf.cover ∷ []) 0 plus_zero

    pub leaf-is : read_leaf p j ≡ get_or (leaves_in_lem ls) j no_leaf
    unfolding read_leaf
    leaf-is = rw (own_is, borrowed-is, box-is, cover_is, depth_is)

    pub tree-row-fits : p.dimension ≤ 3 → RowFits p j
    unfolding packed_internals packed_borrowed packed_boxes
    tree-row-fits axes =
        record {
          axes = axes;
          row = omega (arith, ap length k.domains, length-append (packed_domains ls) k.domains-rest, length-domains ls, h);
          own = stretch-fits (λ f. f.own) (own_start p.domains j) (own_count p.domains j) own-start-is own-count-is p.internals k.internals-rest k.internals;
          borrowed = stretch-fits (λ f. f.borrowed) (borrowed_start p.domains j) (borrowed_count p.domains j) borrowed-start-is borrowed-count-is p.borrowed k.borrowed-rest k.borrowed;
          floats =
              omega (
                arith,
                stretch-fits leaf_floats (row_floats_lem p.dimension * j) (row_floats_lem p.dimension) floats-start floats-count p.boxes k.boxes-rest k.boxes,
                mul-add (row_floats_lem p.dimension) j 1,
              );
        }

  -- ---- leaf i of level l
  module _ (l i : ℕ) (in-level : i < length (get_or ls l no_level).leaves) where
    abbrev blocks : List (List Leaf)
    blocks = map (λ l. l.leaves) ls

    -- a level that has leaves is there
    level-there : l < length ls
    level-there =
        ⊎_elim
        (λ (past : length ls ≤ l).
        let z : length (get_or ls l no_level).leaves ≡ 0 = ap (λ (x : Level). length x.leaves) (get_or-eq_default ls no_level past) in
        absurd (omega arith))
        (λ h. h)
        (le-or-lt (length ls) l)

    block-is : get_or blocks l [] ≡ (get_or ls l no_level).leaves
    block-is = get_d-map-in (λ l. l.leaves) ls l no_level [] level-there

    in_block : i < length (get_or blocks l [])
    in_block = rw block-is in-level

    block-there : l < length blocks
    block-there = omega (arith, length-map ls (λ (l : Level). l.leaves), level-there)

    before-is : take l c.domains ≡ map length (take l blocks)
    before-is = leaves-before l (omega (arith, level-there))

    -- its position among all leaves
    pub leaf-in : up_to c.domains l + i < length (leaves_in_lem ls)
    unfolding leaves_in_lem
    leaf-in = rw before-is (omega (arith, joined-fits blocks l block-there, in_block))

    pub leaf-at : get_or (leaves_in_lem ls) (up_to c.domains l + i) no_leaf ≡ get_or (get_or ls l no_level).leaves i no_leaf
    unfolding leaves_in_lem
    leaf-at = rw before-is (get_d-joined blocks l i no_leaf block-there in_block ∙ ap (λ (x : List Leaf). get_or x i no_leaf) block-is)

  -- ---- the tree
  level-is : (l : ℕ) → read_level p level_points c.rows c.domains l ≡ get_or ls l no_level
  unfolding read_level read_leaves
  level-is l =
      let m = (get_or ls l no_level).leaves in
      let start = up_to c.domains l in
      let leaves : map (read_leaf p) (from start (length m)) ≡ m =
      map-from-at (read_leaf p) (λ f. f) no_leaf m start (λ i h. leaf-is (start + i) (leaf-in l i h) ∙ leaf-at l i h) ∙ map-id m in
      rw (listed-is l, leaves-on l, leaves)

  pub tree-back : read_levels p level_points c.rows c.domains (length ls) ≡ ls
  unfolding read_levels
  tree-back = map-from-at (read_level p level_points c.rows c.domains) (λ x. x) no_level ls 0 (λ l h. ap (read_level p level_points c.rows c.domains) (zero-add l) ∙ level-is l) ∙ map-id ls

  -- ---- a reader stays inside the lists, where the last level has one leaf
  counted-points : up_to c.rows (length ls) ≤ length level_points
  counted-points =
      let n = length ls in
      let e : total (take n c.rows) ≡ total (map (λ (l : Level). length l.points) ls) =
      ap total (ap (take n) rows_are ∙ counts-before (λ l. length l.points) ls k.few n (omega arith) ∙ ap (map (λ (l : Level). length l.points)) (take-length ls)) in
      omega (arith, e, length-points ls, ap length k.points-are, length-append (packed_level_points ls) k.points-rest)

  counted-leaves : up_to c.domains (length ls) ≡ length (leaves_in_lem ls)
  counted-leaves =
      let n = length ls in
      ap total (ap (take n) domains-are ∙ counts-before (λ l. length l.leaves) ls k.few n (omega arith) ∙ ap (map (λ (l : Level). length l.leaves)) (take-length ls))
      ∙ sym (length-leaves ls)

  pub tree-stands : p.dimension ≤ 3 → 1 ≤ length ls → length (get_or ls (length ls - 1) no_level).leaves ≡ 1 → Stands p level_points c.rows c.domains c.levels
  tree-stands axes some one =
      record {
        some = omega (arith, levels-are);
        rowed = omega (arith, levels-are, k.few, ap length rows_are, counts-length (λ l. length l.points) ls);
        counted = omega (arith, levels-are, k.few, ap length domains-are, counts-length (λ l. length l.leaves) ls);
        within = rw levels-are counted-points;
        fits = λ j h. tree-row-fits j (omega (arith, counted-leaves, ap (up_to c.domains) levels-are)) axes;
        coarse = ap (λ (l : ℕ). get_or c.domains (l - 1) 0) levels-are ∙ leaves-on (length ls - 1) ∙ one;
      }
