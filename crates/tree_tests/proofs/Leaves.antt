-- The leaves of a level tested one after the other: internals a partition, each leaf sound, each box and depth as it is to be. Assumes nothing.
-- Holds: leaves-pass-nil, leaves-pass-cons, leaf-passes-same, leaves-pass-same, leaf-passes-is, sound-leaf-ascends, each_from,
--   leaves-pass-is, leaves-in-turn
use mathlib.Core.Path.{◌≡◌, refl, sym, ap, ◌∙◌}
use Prim.Native.Nat.{ℕ, ◌+◌, ◌-◌, ◌≤◌}
use native.Mathlib.Omega.{arith}
use mathlib.Core.Bool.{Bool, true, false, not, ◌&&◌, and-false}
use mathlib.Core.List.{List, [], ◌∷◌, ◌++◌, Memᴰ}
use lib.ListN.{length}
use lib.Dec.{leb, eqb, eqb-suc-zero}
use borrow.Author.Tests.{le-leb}
use Rattle.lists.specs.Lists.{any_of, member, count, joined}
use Rattle.lists.specs.Ascends.{Ascends}
use Rattle.lists.specs.Times.{times, Once}
use Rattle.lists.proofs.Tests.{and-of, and-fst, and-snd, same_test, three-pass, four-pass}
use Rattle.lists.proofs.Members.{mem-member}
use Rattle.lists.proofs.Times.{times-append, mem-times, times-mem, once-short}
use Rattle.lists.proofs.Ascends.{ascends-once}
use Rattle.definition.specs.Tree.{Leaf}
use Rattle.stored.specs.Sound.{all_of, ascending, partitioned, sound_leaf}
use Rattle.tree_tests.specs.InTurn.{among, without, leaf_passes, leaves_pass}
use Rattle.tree_tests.proofs.AllPass.{all-pass-cons, all-pass-each, each-all-pass, ascending-ascends}
use Rattle.tree_tests.proofs.Rows.{in-order-is, in-order-same}
use Rattle.tree_tests.proofs.Partition.{own_rows, divided, divided-times, times-divided, others_of, others-among, inside-times, others-once, others-times, others-length}

-- ---- leaf by leaf
pub leaves-pass-nil : (fitted : ℕ → Leaf → Bool) (listed left : ℕ → Bool) (k least : ℕ) → leaves_pass fitted listed left k least [] ≡ eqb k 0
unfolding leaves_pass
leaves-pass-nil fitted listed left k least = refl

pub leaves-pass-cons : (fitted : ℕ → Leaf → Bool) (listed left : ℕ → Bool) (k least : ℕ) (f : Leaf) (fs : List Leaf)
    → leaves_pass fitted listed left k least (f ∷ fs)
    ≡ leaf_passes (fitted least) listed left k f && leaves_pass fitted listed (without f.own left) (k - length f.own) f.depth fs
unfolding leaves_pass
leaves-pass-cons fitted listed left k least f fs = refl

-- ---- sets that agree give the same answer
pub leaf-passes-same : (fitted : Leaf → Bool) (listed listed' left left' : ℕ → Bool) (k : ℕ) (f : Leaf) → ((i : ℕ) → listed i ≡ listed' i)
    → ((i : ℕ) → left i ≡ left' i) → leaf_passes fitted listed left k f ≡ leaf_passes fitted listed' left' k f
unfolding leaf_passes
leaf-passes-same fitted listed listed' left left' k f h g =
    rw (
      in-order-same 0 left left' f.own (λ i l. g i),
      in-order-same 0 (without f.own listed) (without f.own listed') f.borrowed (λ i l. ap (λ (b : Bool). b && not (member i f.own)) (h i)),
    )

pub leaves-pass-same : (fitted : ℕ → Leaf → Bool) (listed listed' : ℕ → Bool) → ((i : ℕ) → listed i ≡ listed' i) → (fs : List Leaf) (left left' : ℕ → Bool) (k least : ℕ)
    → ((i : ℕ) → left i ≡ left' i) → leaves_pass fitted listed left k least fs ≡ leaves_pass fitted listed' left' k least fs
unfolding leaves_pass
leaves-pass-same fitted listed listed' h [] left left' k least g = refl
leaves-pass-same fitted listed listed' h (f ∷ fs) left left' k least g =
    rw (
      leaf-passes-same (fitted least) listed listed' left left' k f h g,
      leaves-pass-same fitted listed listed' h fs (without f.own left) (without f.own left') (k - length f.own) f.depth (λ i. ap (λ (b : Bool). b && not (member i f.own)) (g i)),
    )

-- ---- a leaf: it is sound and fitted, its own rows are left, and no more than those that are
regroup : (k a i b o x : Bool) → k && (a && i) && (b && o) && x ≡ k && i && (a && b && o) && x
regroup false a i b o x = refl
regroup true a false b o x = rw (and-false a)
regroup true true true b o x = refl
regroup true false true b o x = refl

pub leaf-passes-is : (fitted : Leaf → Bool) (points : List ℕ) (left : ℕ → Bool) (k : ℕ) (f : Leaf)
    → leaf_passes fitted (among points) left k f ≡ leb (length f.own) k && all_of left f.own && sound_leaf points f && fitted f
unfolding leaf_passes sound_leaf
leaf-passes-is fitted points left k f =
    rw (in-order-is left f.own, in-order-is (without f.own (among points)) f.borrowed)
    (regroup (leb (length f.own) k) (ascending f.own) (all_of left f.own) (ascending f.borrowed) (all_of (without f.own (among points)) f.borrowed) (fitted f))

pub sound-leaf-ascends : (points : List ℕ) (f : Leaf) → sound_leaf points f ≡ true → Ascends f.own
unfolding sound_leaf
sound-leaf-ascends points f h =
    ascending-ascends f.own (three-pass (ascending f.own) (ascending f.borrowed) (all_of (λ j. member j points && not (member j f.own)) f.borrowed) h).0

-- ---- each leaf passes, where the one before it has the depth `least`
unfoldable pub each_from : (ℕ → Leaf → Bool) → ℕ → List Leaf → Bool
each_from fitted least [] = true
each_from fitted least (f ∷ fs) = fitted least f && each_from fitted f.depth fs

-- ---- the leaves from one on: `rows` are those that no leaf before has
module _ (fitted : ℕ → Leaf → Bool) (points : List ℕ) where
  -- what the tests come to
  abbrev rest : List ℕ → ℕ → List Leaf → Bool
  rest rows least fs = divided rows (own_rows fs) && all_of (sound_leaf points) fs && each_from fitted least fs

  none_left : (rows : List ℕ) (least : ℕ) → eqb (length rows) 0 ≡ rest rows least []
  unfolding any_of joined count each_from
  none_left [] least = refl
  none_left (x ∷ xs) least = eqb-suc-zero (length xs)

  -- one leaf, and the leaves behind it
  module _ (f : Leaf) (fs : List Leaf) (left : ℕ → Bool) (rows : List ℕ) (least : ℕ) (o : Once rows) (e : (j : ℕ) → left j ≡ member j rows)
      (later : (left' : ℕ → Bool) (rows' : List ℕ) → Once rows' → ((j : ℕ) → left' j ≡ member j rows')
      → leaves_pass fitted (among points) left' (length rows') f.depth fs ≡ rest rows' f.depth fs) where
    -- where the leaf's own rows ascend and are left
    module _ (a : Ascends f.own) (i : (x : ℕ) → Memᴰ x f.own → left x ≡ true) where
      le : (r : ℕ) → times r f.own ≤ times r rows
      le = inside-times f.own rows a (λ x m. sym (e x) ∙ i x m)

      behind : leaves_pass fitted (among points) (without f.own left) (length rows - length f.own) f.depth fs ≡ rest (others_of f.own rows) f.depth fs
      behind =
          rw (others-length f.own rows o le)
          (later (without f.own left) (others_of f.own rows) (others-once f.own rows o le)
          (λ j. ap (λ (b : Bool). b && not (member j f.own)) (e j) ∙ sym (others-among f.own rows j)))

    passes : leaves_pass fitted (among points) left (length rows) least (f ∷ fs) ≡ true → rest rows least (f ∷ fs) ≡ true
    unfolding leaves_pass joined each_from
    passes h =
        let own = f.own in
        let x = leaf_passes (fitted least) (among points) left (length rows) f in
        let y = leaves_pass fitted (among points) (without own left) (length rows - length own) f.depth fs in
        let g = four-pass (leb (length own) (length rows)) (all_of left own) (sound_leaf points f) (fitted least f) (sym (leaf-passes-is (fitted least) points left (length rows) f) ∙ and-fst x y h) in
        let a = sound-leaf-ascends points f g.2 in
        let i = all-pass-each left own g.1 in
        let r = three-pass (divided (others_of own rows) (own_rows fs)) (all_of (sound_leaf points) fs) (each_from fitted f.depth fs) (sym (behind a i) ∙ and-snd x y h) in
        let t = divided-times (others_of own rows) (own_rows fs) (others-once own rows o (le a i)) r.0 in
        and-of
        (and-of
        (times-divided rows (own ++ own_rows fs) o (λ z. omega (arith, times-append z own (own_rows fs), t z, others-times own rows o (le a i) z)))
        (all-pass-cons (sound_leaf points) f fs ∙ and-of g.2 r.1))
        (and-of g.3 r.2)

    passed : rest rows least (f ∷ fs) ≡ true → leaves_pass fitted (among points) left (length rows) least (f ∷ fs) ≡ true
    unfolding leaves_pass joined each_from
    passed h =
        let own = f.own in
        let r = three-pass (divided rows (own ++ own_rows fs)) (all_of (sound_leaf points) (f ∷ fs)) (fitted least f && each_from fitted f.depth fs) h in
        let s = sym (all-pass-cons (sound_leaf points) f fs) ∙ r.1 in
        let t : (z : ℕ) → times z own + times z (own_rows fs) ≡ times z rows = λ z. sym (times-append z own (own_rows fs)) ∙ divided-times rows (own ++ own_rows fs) o r.0 z in
        let g = and-fst (sound_leaf points f) (all_of (sound_leaf points) fs) s in
        let a = sound-leaf-ascends points f g in
        let i : (x : ℕ) → Memᴰ x own → left x ≡ true = λ x m. e x ∙ mem-member rows x (times-mem rows x (omega (arith, t x, mem-times own x m))) in
        let d = times-divided (others_of own rows) (own_rows fs) (others-once own rows o (le a i)) (λ z. omega (arith, t z, others-times own rows o (le a i) z)) in
        and-of
        (leaf-passes-is (fitted least) points left (length rows) f
        ∙ and-of (and-of (and-of (le-leb (length own) (length rows) (once-short rows own o (le a i))) (each-all-pass left own i)) g) (and-fst (fitted least f) (each_from fitted f.depth fs) r.2))
        (behind a i ∙ and-of (and-of d (and-snd (sound_leaf points f) (all_of (sound_leaf points) fs) s)) (and-snd (fitted least f) (each_from fitted f.depth fs) r.2))

  pub leaves-pass-is : (fs : List Leaf) (left : ℕ → Bool) (rows : List ℕ) (least : ℕ) → Once rows → ((j : ℕ) → left j ≡ member j rows)
      → leaves_pass fitted (among points) left (length rows) least fs ≡ divided rows (own_rows fs) && all_of (sound_leaf points) fs && each_from fitted least fs
  unfolding leaves_pass
  leaves-pass-is [] left rows least o e = none_left rows least
  leaves-pass-is (f ∷ fs) left rows least o e =
      same_test (leaves_pass fitted (among points) left (length rows) least (f ∷ fs)) (rest rows least (f ∷ fs))
      (passes f fs left rows least o e (λ left' rows'. leaves-pass-is fs left' rows' f.depth))
      (passed f fs left rows least o e (λ left' rows'. leaves-pass-is fs left' rows' f.depth))

  -- THE LEAVES: of a level whose rows ascend
  pub leaves-in-turn : (fs : List Leaf) → Ascends points
      → leaves_pass fitted (among points) (among points) (length points) 0 fs
      ≡ partitioned (record { points = points; leaves = fs }) && all_of (sound_leaf points) fs && each_from fitted 0 fs
  unfolding partitioned
  leaves-in-turn fs a = leaves-pass-is fs (among points) points 0 (ascends-once points a) (λ j. refl)
