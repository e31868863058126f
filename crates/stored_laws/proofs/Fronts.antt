-- Lists that pack a tree: its counts, and the fronts of the lists, are the tree's; so are the boxes of the tree that stands in them,
-- where the list of boxes is long enough. Assumes nothing.
use mathlib.Core.Path.{◌≡◌, refl, sym, ap, ap₂, subst, ◌∙◌}
use mathlib.Core.Logic.{⊎_elim}
use Prim.Native.Nat.{ℕ, zero, suc, ◌*◌, ◌≤◌, ◌<◌}
use native.Mathlib.Nat.{zero-add, mul-suc, mul-le-mul_left, le_trans}
use native.Mathlib.Numerals.{add-one}
use native.Mathlib.Omega.{arith}
use mathlib.Core.Bool.{Bool, true, ◌&&◌}
use mathlib.Core.List.{List, ◌++◌, map, map-map, map-append}
use lib.ListN.{length, get_or, take, length-map}
use lib.Seq.{take_all, length-take-le}
use lib.Dec.{eqb}
use borrow.Author.Tests.{eqb-true}
use Rattle.lists.specs.Lists.{from, joined, total, part}
use Rattle.lists.proofs.Tests.{le-or-lt, four-pass}
use Rattle.lists.proofs.Sums.{total-more}
use Rattle.lists.proofs.Map.{map_same}
use Rattle.lists.proofs.From.{from-mem, length_from, below-snoc, from-append}
use Rattle.lists.proofs.Put.{part-snoc}
use Rattle.lists.proofs.Joined.{joined-map-snoc, parts-front}
use Rattle.definition.specs.Number.{plus_zero}
use Rattle.definition.specs.Points.{box_width_lem}
use Rattle.definition.specs.Tree.{Leaf, Level}
use Rattle.definition.specs.Packed.{Counts, row_floats_lem, leaf_floats, counts_of, leaves_in_lem, packed_level_points, packed_internals, packed_domains, packed_boxes, packed_borrowed}
use Rattle.definition.specs.Refusals.{accepted}
use Rattle.definition.specs.Outcome.{TreeLists, written, list_after, tree_lists_after}
use Rattle.packed.specs.Reading.{Packed, packed, up_to, read_leaf, read_leaves, read_level, read_levels}
use Rattle.stored.specs.Sound.{same}
use Rattle.stored.specs.Outcome.{leads, tree_held, packs}
use Rattle.tree_tests.proofs.AllRows.{same-is}
use Rattle.stored_laws.specs.RoundTrip.{fronts_over}

-- ---- the boxes of the tree in the lists are the front of the boxes

-- what is a front is the front of its length
front-again : {A : Type 0} (l : List A) (k : ℕ) (xs : List A) → xs ≡ take k l → xs ≡ take (length xs) l
front-again l k xs e =
    ⊎_elim
    (λ (h : k ≤ length l). e ∙ ap (λ (m : ℕ). take m l) (sym (ap length e ∙ length-take-le k l h)))
    (λ (h : length l < k).
    let all : xs ≡ l = e ∙ take_all k l (omega arith) in
    all ∙ sym (take_all (length xs) l (omega (arith, ap length all))))
    (le-or-lt k (length l))

leaves-held : (p : Packed) (level_points rows counts : List ℕ) (n : ℕ) → leaves_in_lem (read_levels p level_points rows counts n) ≡ map (read_leaf p) (from 0 (up_to counts n))
unfolding leaves_in_lem read_levels read_level read_leaves joined from total
leaves-held p level_points rows counts zero = refl
leaves-held p level_points rows counts (suc n) =
    let level = read_level p level_points rows counts in
    let k = up_to counts n in
    let m = get_or counts n 0 in
    ap joined (map-map (λ (l : Level). l.leaves) level (from 0 (suc n)))
    ∙ ap (λ (js : List ℕ). joined (map (λ t. (level t).leaves) js)) (below-snoc n) ∙ joined-map-snoc (λ t. (level t).leaves) (from 0 n) n
    ∙ ap (λ (fs : List Leaf). fs ++ map (read_leaf p) (from k m)) (ap joined (sym (map-map (λ (l : Level). l.leaves) level (from 0 n))) ∙ leaves-held p level_points rows counts n)
    ∙ sym (map-append (read_leaf p) (from 0 k) (from k m))
    ∙ ap (map (read_leaf p)) (ap (λ (a : ℕ). from 0 k ++ from a m) (sym (zero-add k)) ∙ sym (from-append 0 k m))
    ∙ ap (λ (a : ℕ). map (read_leaf p) (from 0 a)) (sym (total-more counts n))

-- the floats of the domain row j, where the boxes have them
row-floats : (p : Packed) (j : ℕ) → row_floats_lem p.dimension * suc j ≤ length p.boxes
    → leaf_floats (read_leaf p j) ≡ part p.boxes (row_floats_lem p.dimension * j) (row_floats_lem p.dimension)
unfolding read_leaf
row-floats p j h =
    let w = box_width_lem p.dimension in
    let at = row_floats_lem p.dimension * j in
    sym (ap (part p.boxes at) (add-one w) ∙ part-snoc p.boxes at w plus_zero (omega (arith, h, mul-suc (row_floats_lem p.dimension) j)))

pub boxes-held : (d : ℕ) (c : Counts) (l : TreeLists) → row_floats_lem d * length (leaves_in_lem (tree_held d c l)) ≤ length l.boxes
    → packed_boxes (tree_held d c l) ≡ take (length (packed_boxes (tree_held d c l))) l.boxes
unfolding tree_held packed_boxes
boxes-held d c l long =
    let p = packed l.internals l.domains l.boxes l.borrowed d in
    let m = up_to c.domains c.levels in
    let w = row_floats_lem d in
    let fs = leaves_in_lem (read_levels p l.level_points c.rows c.domains c.levels) in
    let are = leaves-held p l.level_points c.rows c.domains c.levels in
    let many : length fs ≡ m = ap length are ∙ length-map (from 0 m) (read_leaf p) ∙ length_from 0 m in
    let enough : w * m ≤ length l.boxes = subst (λ (k : ℕ). w * k ≤ length l.boxes) many long in
    front-again l.boxes (w * m) (joined (map leaf_floats fs))
    (ap (λ (fs : List Leaf). joined (map leaf_floats fs)) are
    ∙ ap joined (map-map leaf_floats (read_leaf p) (from 0 m))
    ∙ ap joined (map_same (λ j. leaf_floats (read_leaf p j)) (λ j. part l.boxes (w * j) w) (from 0 m)
    (λ j u. let below : suc j ≤ m = omega (arith, (from-mem 0 m u).1) in row-floats p j (le_trans (mul-le-mul_left w below) enough)))
    ∙ parts-front l.boxes w m)

-- ---- lists and counts that are those of the tree
seven-pass : (a b c d e f g : Bool) → a && b && c && d && e && f && g ≡ true
    → (a ≡ true) × (b ≡ true) × (c ≡ true) × (d ≡ true) × (e ≡ true) × (f ≡ true) × (g ≡ true)
seven-pass a b c d e f g h =
    let u = four-pass (a && b && c && d) e f g h in
    let v = four-pass a b c d u.0 in
    (v.0, v.1, v.2, v.3, u.1, u.2, u.3)

abbrev counts : ℕ → List ℕ → List ℕ → Counts
counts levels rows domains = record { levels = levels; rows = rows; domains = domains }

module _ (c : Counts) (l : TreeLists) (ls : List Level) where
  module _ (h : packs c l ls ≡ true) where
    parts : (eqb c.levels (counts_of ls).levels ≡ true) × (same c.rows (counts_of ls).rows ≡ true) × (same c.domains (counts_of ls).domains ≡ true)
        × (leads (packed_level_points ls) l.level_points ≡ true) × (leads (packed_internals ls) l.internals ≡ true) × (leads (packed_domains ls) l.domains ≡ true)
        × (leads (packed_borrowed ls) l.borrowed ≡ true)
    unfolding packs
    parts =
        seven-pass (eqb c.levels (counts_of ls).levels) (same c.rows (counts_of ls).rows) (same c.domains (counts_of ls).domains)
        (leads (packed_level_points ls) l.level_points) (leads (packed_internals ls) l.internals) (leads (packed_domains ls) l.domains) (leads (packed_borrowed ls) l.borrowed) h

    pub packs-counts : c ≡ counts_of ls
    packs-counts =
        let levels = eqb-true c.levels (counts_of ls).levels parts.0 in
        let rows = same-is c.rows (counts_of ls).rows parts.1 in
        let domains = same-is c.domains (counts_of ls).domains parts.2 in
        ap (λ (n : ℕ). counts n c.rows c.domains) levels ∙ ap₂ (λ (r d : List ℕ). counts (counts_of ls).levels r d) rows domains

    -- so the lists after a write of the tree have their fronts from these, if the boxes do
    pub packs-fronts : packed_boxes ls ≡ take (length (packed_boxes ls)) l.boxes → (old : TreeLists) → tree_lists_after accepted ls old ≡ fronts_over ls l old
    unfolding tree_lists_after list_after written fronts_over
    packs-fronts boxes old =
        let points = same-is (packed_level_points ls) (take (length (packed_level_points ls)) l.level_points) parts.3 in
        let internals = same-is (packed_internals ls) (take (length (packed_internals ls)) l.internals) parts.4 in
        let domains = same-is (packed_domains ls) (take (length (packed_domains ls)) l.domains) parts.5 in
        let borrowed = same-is (packed_borrowed ls) (take (length (packed_borrowed ls)) l.borrowed) parts.6 in
        cc
