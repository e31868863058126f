-- A tree that passes the tests, over at most 1,048,576 rows and with bounds and covers of the format, fits the fields of its file. Assumes
-- nothing.
-- Holds: zeros-fit, coarse-boxed, leaves-many, sound-stowed
use mathlib.Core.Path.{◌≡◌, sym, ap, ap₂, subst, ◌∙◌, refl}
use Prim.Native.Nat.{ℕ, ◌*◌, ◌≤◌, ◌<◌}
use native.Mathlib.Omega.{arith}
use mathlib.Core.Bool.{Bool, true, false, not, ◌&&◌}
use mathlib.Core.List.{List, [], ◌∷◌, map}
use lib.ListN.{length, replicate, length-append}
use lib.Dec.{leb, eqb}
use lib.Ieee.{Float, binary64, to_bits, of_bits, is_nan}
use lib.Ieee.Bits.{of_bits-to_bits, of_bits-fits}
use borrow.Author.Tests.{leb-true, eqb-true, eq-eqb}
use Rattle.lists.specs.Lists.{any_of, member, count, from, joined}
use Rattle.lists.specs.Ascends.{All}
use Rattle.lists.proofs.Tests.{clash, and-fst, and-snd, three-pass, four-pass}
use Rattle.lists.proofs.All.{all-of, all-mem, all_left, all_right, joined-all, map-all, all_replicate}
use Rattle.lists.proofs.From.{all_from, length_from}
use Rattle.lists.proofs.Members.{member-mem}
use Rattle.lists.proofs.Ascends.{ascends-few}
use Rattle.definition.specs.Number.{plus_zero}
use Rattle.definition.specs.Points.{box_width_lem}
use Rattle.definition.specs.Tree.{Settings, Leaf, Level, most_depth}
use Rattle.definition.specs.Packed.{most_levels, most_rows, row_numbers, leaf_floats, tree_stated, leaves_in_lem, packed_level_points, packed_internals, packed_domains, packed_borrowed}
use Rattle.definition.specs.Refusals.{most_points}
use Rattle.definition_laws.proofs.Fit.{length-domains}
use Rattle.tree_tests.proofs.AllPass.{all-pass-each, ascending-ascends}
use Rattle.tree_tests.proofs.AllRows.{same-is}
use Rattle.tree_tests.proofs.Depths.{depth-most}
use Rattle.tree_tests.proofs.SoundLevels.{coarse-level, fine-level}
use Rattle.stored.specs.Sound.{all_of, same, ascending, partitioned, sound_leaf, sound_box, no_box, sound_rows, sound_depths, sound_levels, first_all, fits, sound}
use Rattle.stored_laws.specs.Writable.{NumberFits, FloatFits, BoxesFit}
use Rattle.stored_laws.proofs.Domains.{Stowed, Boxed}
use Rattle.stored_laws.proofs.Levels.{StowedLevel, StowedTree}

-- ---- rows below n
abbrev Below : ℕ → List ℕ → Type 0
Below n l = All (λ i. i < n) l

small : (n : ℕ) (l : List ℕ) → n ≤ most_points → Below n l → All NumberFits l
small n l h k = all-of NumberFits l (λ x m. omega (arith, all-mem (λ i. i < n) l k x m))

-- ---- a leaf
leaf-stowed : (n : ℕ) (active : List ℕ) (f : Leaf) → n ≤ most_points → Below n active → Below n f.own → sound_leaf active f ≡ true → f.depth ≤ most_depth → Stowed f
unfolding sound_leaf
leaf-stowed n active f h k o e deep =
    let p : ℕ → Bool = λ j. member j active && not (member j f.own) in
    let g = three-pass (ascending f.own) (ascending f.borrowed) (all_of p f.borrowed) e in
    let b : Below n f.borrowed =
    all-of (λ i. i < n) f.borrowed
    (λ x m. all-mem (λ i. i < n) active k x (member-mem active x (and-fst (member x active) (not (member x f.own)) (all-pass-each p f.borrowed g.2 x m)))) in
    let u = ascends-few n f.own (ascending-ascends f.own g.0) o in
    let v = ascends-few n f.borrowed (ascending-ascends f.borrowed g.1) b in
    record {
      own-few = omega (arith, u, h);
      borrowed_few = omega (arith, v, h);
      own-small = small n f.own h o;
      borrowed-small = small n f.borrowed h b;
      depth_small = omega (arith, deep);
    }

-- ---- boxes and covers
-- values with the same bits are the same
unbits : (xs : List Float) → All FloatFits xs → map (of_bits binary64) (map (to_bits binary64) xs) ≡ xs
unfolding All
unbits [] h = refl
unbits (x ∷ xs) h = ap₂ (λ (y : Float) (ys : List Float). y ∷ ys) (of_bits-to_bits binary64 x h.0) (unbits xs h.1)

pub zeros-fit : (k : ℕ) → All FloatFits (replicate k plus_zero)
zeros-fit k = all_replicate FloatFits k plus_zero (of_bits-fits binary64 0)

pub coarse-boxed : (d : ℕ) (f : Leaf) → All FloatFits (leaf_floats f) → no_box d f ≡ true → Boxed d true f
unfolding no_box
coarse-boxed d f h e =
    let z = replicate (box_width_lem d) plus_zero in
    let zeros = and-fst (same (map (to_bits binary64) f.box) (map (to_bits binary64) z)) (not (is_nan f.cover)) e in (
      sym (unbits f.box (all_left FloatFits f.box (f.cover ∷ []) h))
          ∙ ap (map (of_bits binary64)) (same-is (map (to_bits binary64) f.box) (map (to_bits binary64) z) zeros)
          ∙ unbits z (zeros-fit (box_width_lem d)),
      all_right FloatFits f.box (f.cover ∷ []) h,
    )

fine-boxed : (d : ℕ) (f : Leaf) → All FloatFits (leaf_floats f) → sound_box d f ≡ true → Boxed d false f
unfolding sound_box
fine-boxed d f h e = (eqb-true (length f.box) (box_width_lem d) (and-fst (eqb (length f.box) (box_width_lem d)) (not (any_of is_nan (leaf_floats f))) e), h)

-- ---- a level over rows below n
abbrev Inside : ℕ → Level → Type 0
Inside n l = (length l.points ≤ n) × Below n l.points

leaves-stowed : (n : ℕ) (l : Level) → n ≤ most_points → Inside n l → sound_rows l ≡ true → sound_depths l ≡ true → All Stowed l.leaves
unfolding sound_rows partitioned
leaves-stowed n l h k e deep =
    let own = joined (map (λ f. f.own) l.leaves) in
    let p : ℕ → Bool = λ i. eqb (count (λ j. eqb j i) own) 1 in
    let q : ℕ → Bool = λ i. member i l.points in
    let g = three-pass (ascending l.points) (all_of p l.points && all_of q own) (all_of (sound_leaf l.points) l.leaves) e in
    let b : Below n own = all-of (λ i. i < n) own (λ x m. all-mem (λ i. i < n) l.points k.1 x (member-mem l.points x (all-pass-each q own (and-snd (all_of p l.points) (all_of q own) g.1) x m))) in
    let c : All (λ f. Below n f.own) l.leaves =
    map-all (λ r. Below n r) (λ f. f.own) l.leaves (joined-all (λ i. i < n) (map (λ f. f.own) l.leaves) b) in
    all-of Stowed l.leaves
    (λ f m. leaf-stowed n l.points f h k.1 (all-mem (λ x. Below n x.own) l.leaves c f m) (all-pass-each (sound_leaf l.points) l.leaves g.2 f m)
    (depth-most l deep f m))

level-stowed : (d n : ℕ) (coarse : Bool) (l : Level) → n ≤ most_points → Inside n l → length l.leaves ≤ most_rows n → sound_rows l ≡ true → sound_depths l ≡ true
    → eqb (length l.leaves) 1 ≡ coarse → All (Boxed d coarse) l.leaves → StowedLevel d coarse l
level-stowed d n coarse l h k m e deep o x =
    record {
      one = o;
      rows_few = omega (arith, k.0, h);
      leaves-few = omega (arith, m, h);
      rows-small = small n l.points h k.1;
      stowed = leaves-stowed n l h k e deep;
      boxed = x;
    }

next-inside : (d n : ℕ) (l m : Level) (ls : List Level) → Inside n l → sound_levels d (l ∷ m ∷ ls) ≡ true → Inside n m
next-inside d n l m ls k e =
    let g = fine-level d l m ls e in
    (omega (arith, g.fewer-rows, k.0), all-of (λ i. i < n) m.points (λ x u. all-mem (λ i. i < n) l.points k.1 x (member-mem l.points x (g.inside x u))))

-- ---- the levels
levels-stowed : (d n : ℕ) (l : Level) (ls : List Level) → n ≤ most_points → Inside n l → length (leaves_in_lem (l ∷ ls)) ≤ most_rows n
    → All BoxesFit (l ∷ ls) → sound_levels d (l ∷ ls) ≡ true → StowedTree d (l ∷ ls)
unfolding StowedTree leaves_in_lem joined All
levels-stowed d n l [] h k m b e =
    let g = coarse-level d l e in
    level-stowed d n true l h k (omega (arith, length-append l.leaves [], m)) g.rows g.depths (eq-eqb (length l.leaves) 1 g.one)
    (all-of (Boxed d true) l.leaves (λ f u. coarse-boxed d f (all-mem (λ x. All FloatFits (leaf_floats x)) l.leaves b.0 f u) (g.boxes f u)))
levels-stowed d n l (t ∷ ls) h k m b e =
    let g = fine-level d l t ls e in
    let z = length-append l.leaves (leaves_in_lem (t ∷ ls)) in (
      level-stowed d n false l h k (omega (arith, z, m)) g.rows g.depths g.more
          (all-of (Boxed d false) l.leaves (λ f u. fine-boxed d f (all-mem (λ x. All FloatFits (leaf_floats x)) l.leaves b.0 f u) (g.boxes f u))),
      levels-stowed d n t ls h (next-inside d n l t ls k e) (omega (arith, z, m)) b.1 g.later,
    )

-- ---- the tree
pub leaves-many : (s : Settings) (n : ℕ) (ls : List Level) → sound s n ls ≡ true → length (leaves_in_lem ls) ≤ most_rows n
unfolding sound fits tree_stated
leaves-many s n ls e =
    let d = s.dimension in
    let stated = tree_stated d n s.neighbours in
    let t = (four-pass (leb (length ls) most_levels) (first_all n ls) (sound_levels d ls) (fits d n s.neighbours ls) e).3 in
    let g = four-pass (leb (length (packed_level_points ls)) stated.level_points) (leb (length (packed_internals ls)) stated.internals) (leb (length (packed_domains ls)) stated.domains) (leb (length (packed_borrowed ls)) stated.borrowed) t in
    let m : length (packed_domains ls) ≤ row_numbers * most_rows n = leb-true (length (packed_domains ls)) stated.domains g.2 in
    omega (arith, m, length-domains ls)

pub sound-stowed : (s : Settings) (n : ℕ) (ls : List Level) → n ≤ most_points → All BoxesFit ls → sound s n ls ≡ true → (length ls ≤ most_levels) × StowedTree s.dimension ls
unfolding sound first_all
sound-stowed s n ls h b e =
    let d = s.dimension in
    let g = four-pass (leb (length ls) most_levels) (first_all n ls) (sound_levels d ls) (fits d n s.neighbours ls) e in
    (leb-true (length ls) most_levels g.0, go ls b g.1 g.2 (leaves-many s n ls e))
  where
    go : (ls : List Level) → All BoxesFit ls → first_all n ls ≡ true → sound_levels s.dimension ls ≡ true → length (leaves_in_lem ls) ≤ most_rows n → StowedTree s.dimension ls
    go [] b f e m = clash f refl
    go (l ∷ ls) b f e m =
        let z = same-is l.points (from 0 n) f in
        let i : Inside n l =
        (omega (arith, ap length z, length_from 0 n), subst (λ (r : List ℕ). Below n r) (sym z) (all_from (λ j. j < n) 0 n (λ j u v. omega (arith, v)))) in
        levels-stowed s.dimension n l ls h i m b e
