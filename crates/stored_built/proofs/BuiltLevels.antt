-- The levels of the build pass the tests of a stored tree, each with the one below it. Assumes nothing.
use mathlib.Core.Path.{◌≡◌, refl, ap, subst}
use mathlib.Core.Logic.{⊎_elim}
use mathlib.Core.Bool.{true, false, not, ◌&&◌}
use mathlib.Core.List.{List, [], ◌∷◌, map, zip_with}
use Prim.Native.Nat.{ℕ, zero, suc, ◌≤◌, ◌<◌}
use native.Mathlib.Omega.{arith}
use native.Mathlib.Decide.{dec_lt}
use borrow.Author.Tests.{lt-ltb, eq-eqb, ne_eqb}
use lib.Dec.{eqb}
use lib.ListN.{length, replicate}
use lib.Ieee.{Float, is_nan, binary64, to_bits}
use Rattle.lists.specs.Lists.{member, any_of, joined}
use Rattle.lists.specs.Ascends.{All, Ascends}
use Rattle.lists.specs.Times.{times}
use Rattle.lists.proofs.Tests.{and-of, le-or-lt}
use Rattle.lists.proofs.All.{all_append, all-mem, all-of, joined-all}
use Rattle.lists.proofs.Ascends.{ascends-keep, ascends-once}
use Rattle.lists.proofs.Joined.{joined-one}
use Rattle.lists.proofs.Times.{from-times, member-some, member-none, times-keep-le}
use Rattle.lists.proofs.Members.{none_passes}
use Rattle.definition.specs.Number.{plus_zero}
use Rattle.definition.specs.Points.{box_width_lem}
use Rattle.definition.specs.Cut.{Domain, leaves_of}
use Rattle.definition.specs.Overlaps.{borrowed_by}
use Rattle.definition.specs.Tree.{Settings, Leaf, Level, coarse_leaf, coarse_level_lem, fine_leaf, fine_level_lem, next_active, reductions_left, levels_from}
use Rattle.definition.specs.Packed.{leaf_floats}
use Rattle.definition.specs.Refusals.{most_points}
use Rattle.definition.proofs.Cuts.{Good, rows_of, leaves-ascend}
use Rattle.definition.proofs.Borrowed.{borrows_not_own}
use Rattle.definition.proofs.Steps.{fine_of, size_from, next_of, sent_from, levels-last, levels-end, levels-more}
use Rattle.definition.proofs.FineLeaves.{fine-many, fine-map, fine-each}
use Rattle.definition.proofs.Sizes.{sized}
use Rattle.definition.proofs.OneLevel.{OneLevel, one-level}
use Rattle.definition_laws.proofs.Shape.{leaves-boxes}
use Rattle.definition_laws.proofs.Depths.{fine-holds, coarse-holds}
use Rattle.definition.proofs.Levels.{next-short, next-good}
use Rattle.stored.specs.Sound.{all_of, ascending, partitioned, sound_leaf, sound_box, no_box, sound_rows, sound_depths, at_root, proper_part, sound_levels}
use Rattle.tree_tests.proofs.AllPass.{all_pass, ascends-ascending}
use Rattle.tree_tests.proofs.AllRows.{same_self}
use Rattle.tree_tests.proofs.Partition.{times-divided}
use Rattle.tree_tests.proofs.Depths.{depths-pass}
use Rattle.stored_built.proofs.FineLeaves.{leaves-two, zero-known, Finite, cover-known, leaves-known}

next-ascends : (active : List ℕ) (sent : List (List ℕ)) → Ascends active → Ascends (next_active active sent)
unfolding next_active
next-ascends active sent h = ascends-keep (λ i. member i (joined sent)) active h

-- ---- levels of which the first lists these rows
pub record Starts (active : List ℕ) (ls : List Level) : Type 0 where
  pub first : Level
  pub rest : List Level
  pub are : ls ≡ first ∷ rest
  pub lists : first.points ≡ active

-- ---- the coarse level
module _ (d : ℕ) (active : List ℕ) (ascends : Ascends active) where
  coarse-leaf : sound_leaf active (coarse_leaf d active) ≡ true
  unfolding sound_leaf ascending any_of
  coarse-leaf = rw (ascends-ascending active ascends)

  coarse-rows : sound_rows (coarse_level_lem d active) ≡ true
  unfolding sound_rows partitioned coarse_level_lem All
  coarse-rows =
      and-of
      (and-of (ascends-ascending active ascends) (rw (joined-one active) (times-divided active active (ascends-once active ascends) (λ r. refl))))
      (all_pass (sound_leaf active) (coarse_leaf d active ∷ []) (coarse-leaf, tt))

  coarse-box : no_box d (coarse_leaf d active) ≡ true
  unfolding no_box
  coarse-box = and-of (same_self (map (to_bits binary64) (replicate (box_width_lem d) plus_zero))) (ap not zero-known)

  coarse-depths : sound_depths (coarse_level_lem d active) ≡ true
  unfolding coarse_level_lem
  coarse-depths = depths-pass (coarse_level_lem d active) (coarse-holds d active)

  coarse-passes : sound_levels d (coarse_level_lem d active ∷ []) ≡ true
  unfolding sound_levels coarse_level_lem All
  coarse-passes =
      let leaf = coarse_leaf d active in
      and-of
      (and-of (and-of (and-of coarse-rows coarse-depths) refl) (all_pass (no_box d) (leaf ∷ []) (coarse-box, tt)))
      (all_pass at_root (leaf ∷ []) (eq-eqb 0 0 refl, tt))

-- two lists taken together, with what holds of each
all-zipped : {A B C : Type 0} (Q : A → Type 0) (R : B → Type 0) (P : C → Type 0) (f : A → B → C) → ((x : A) (y : B) → Q x → R y → P (f x y))
    → (xs : List A) (ys : List B) → All Q xs → All R ys → All P (zip_with f xs ys)
unfolding All zip_with
all-zipped Q R P f each [] ys h g = tt
all-zipped Q R P f each (x ∷ xs) [] h g = tt
all-zipped Q R P f each (x ∷ xs) (y ∷ ys) h g = (each x y h.0 g.0, all-zipped Q R P f each xs ys h.1 g.1)

-- ---- a fine level
module _ (s : Settings) (cs : List Float) (c k built : ℕ) (active : List ℕ) (pos : 0 < s.dimension) (lp : 1 ≤ s.leaf) (cp : 1 ≤ c)
    (good : Good s.dimension cs active) (few : length active ≤ most_points) (ascends : Ascends active) (many : c < length active) where
  abbrev d : ℕ
  d = s.dimension

  abbrev qs : List Domain
  qs = leaves_of s.dimension cs s.leaf active

  abbrev sent : List (List ℕ)
  sent = sent_from s cs c k built active

  abbrev to_leaf : Domain → List ℕ → Leaf
  to_leaf = fine_leaf s.dimension cs s.neighbours active

  abbrev size : ℕ
  size = size_from c k built active

  -- its leaves
  abbrev fs : List Leaf
  fs = (fine_of s cs (size_from c k built active) active).leaves

  level : OneLevel s cs c k built active
  level = one-level s cs c k built active pos lp cp good many

  -- ---- a leaf that owns these rows
  module _ (own : List ℕ) where
    abbrev borrowed : List ℕ
    borrowed = borrowed_by s.dimension cs s.neighbours active own

    -- what it borrows is listed
    borrows-times : (r : ℕ) → times r borrowed ≤ times r active
    unfolding borrowed_by
    borrows-times r = times-keep-le _ active r

    borrows-listed : (r : ℕ) → 0 < times r borrowed → member r active ≡ true
    borrows-listed r m = member-some r active (omega (arith, m, borrows-times r))

    -- and none of its own
    borrows-foreign : (r : ℕ) → 0 < times r borrowed → times r own ≡ 0
    borrows-foreign r m = elim (dec_lt 0 (times r own)) [
      | yes h ↦ absurd (omega (arith, m, borrows_not_own d cs s.neighbours active own r h))
      | no h ↦ omega arith
    ]

    borrows-ascending : Ascends borrowed
    unfolding borrowed_by
    borrows-ascending = ascends-keep _ active ascends

    borrows-pass : all_of (λ j. member j active && not (member j own)) borrowed ≡ true
    borrows-pass =
        all_pass (λ j. member j active && not (member j own)) borrowed
        (from-times (λ j. member j active && not (member j own) ≡ true) borrowed
        (λ r m. and-of (borrows-listed r m) (rw (member-none r own (borrows-foreign r m)) refl)))

  fine-leaf : (q : Domain) (up : List ℕ) → Ascends q.rows → sound_leaf active (to_leaf q up) ≡ true
  unfolding sound_leaf
  fine-leaf q up h = and-of (and-of (ascends-ascending q.rows h) (ascends-ascending (borrowed q.rows) (borrows-ascending q.rows))) (borrows-pass q.rows)

  own-rows : map (λ (f : Leaf). f.own) fs ≡ map (λ (q : Domain). q.rows) qs
  own-rows = fine-map s cs size active (λ f. f.own) (λ q. q.rows) (λ q up. refl)

  fine-rows : sound_rows (fine_of s cs size active) ≡ true
  unfolding sound_rows partitioned fine_level_lem
  fine-rows =
      and-of
      (and-of (ascends-ascending active ascends) (rw own-rows (times-divided active (rows_of qs) level.once level.internal_once)))
      (all_pass (sound_leaf active) fs
      (fine-each s cs size active (λ q. Ascends q.rows) (λ f. sound_leaf active f ≡ true) fine-leaf (leaves-ascend d cs s.leaf active ascends)))

  -- ---- its boxes and covers: the rows that a leaf sends up are active ones
  sent-finite : All (λ rows. All (Finite d cs) rows) sent
  sent-finite =
      joined-all (Finite d cs) sent
      (from-times (Finite d cs) (joined sent) (λ r m. good.finite-at r (omega (arith, m, level.next_lists_sent r, level.next-once r))))

  -- what is known of a leaf of the cut
  abbrev Boxed : Domain → Type 0
  Boxed q = (length q.box ≡ box_width_lem d) × Good d cs q.rows × All (λ x. is_nan x ≡ false) q.box

  box-passes : (q : Domain) (up : List ℕ) → Boxed q → All (Finite d cs) up → sound_box d (to_leaf q up) ≡ true
  unfolding sound_box All
  box-passes q up b h =
      let f = to_leaf q up in
      let known = all_append (λ x. is_nan x ≡ false) q.box (f.cover ∷ []) b.2 (cover-known d cs q.rows up b.1 h, tt) in
      and-of (eq-eqb (length q.box) (box_width_lem d) b.0) (rw (none_passes is_nan (leaf_floats f) (all-mem (λ x. is_nan x ≡ false) (leaf_floats f) known)) refl)

  leaves-boxed : All Boxed qs
  leaves-boxed =
      let width = leaves-boxes d cs s.leaf active in
      let known = leaves-known d cs pos s.leaf active good in
      all-of Boxed qs
      (λ q m.
      let g = all-mem (λ q. Good d cs q.rows × All (λ x. is_nan x ≡ false) q.box) qs known q m in
      (all-mem (λ q. length q.box ≡ box_width_lem d) qs width q m, g.0, g.1))

  fine-boxes : all_of (sound_box d) fs ≡ true
  unfolding fine_level_lem
  fine-boxes =
      all_pass (sound_box d) fs (all-zipped Boxed (All (Finite d cs)) (λ f. sound_box d f ≡ true) to_leaf box-passes qs sent leaves-boxed sent-finite)

  -- ---- its depths
  fine-depths : sound_depths (fine_of s cs size active) ≡ true
  fine-depths = depths-pass (fine_of s cs size active) (fine-holds s cs pos lp size active good few)

  -- ---- two leaves or more, so that it isn't taken for the coarse level
  fine-count : not (eqb (length fs) 1) ≡ true
  fine-count =
      let two = leaves-two d cs pos s.leaf lp active good (omega arith) in
      let no : length fs ≡ 1 → ⊥ = λ e. omega (arith, two, fine-many s cs size active) in
      rw (ne_eqb (length fs) 1 no) refl

  -- ---- the rows of the level below it
  next-passes : proper_part (next_of s cs c k built active) active ≡ true
  unfolding proper_part
  next-passes =
      let next = next_of s cs c k built active in
      let some = (sized (length active) c (reductions_left k built) cp many (omega arith)).some in
      and-of
      (and-of
      (lt-ltb 0 (length next) (omega (arith, level.next_size, some)))
      (lt-ltb (length next) (length active) (omega (arith, level.next_size, level.size-fewer))))
      (all_pass (λ i. member i active) next (from-times (λ i. member i active ≡ true) next (λ r m. member-some r active (omega (arith, m, level.next-once r)))))

  fine-passes : (ls : List Level) → Starts (next_of s cs c k built active) ls → sound_levels d ls ≡ true → sound_levels d (fine_of s cs size active ∷ ls) ≡ true
  unfolding sound_levels fine_level_lem
  fine-passes ls st h =
      let below = subst (λ (x : List Level). sound_levels d x ≡ true) st.are h in
      rw st.are (and-of (and-of (and-of (and-of (and-of fine-rows fine-depths) fine-count) fine-boxes) (rw st.lists next-passes)) below)

-- ---- the levels over active rows
module _ (s : Settings) (cs : List Float) (c k : ℕ) where
  -- the first one lists these rows
  pub levels-start : (fuel built : ℕ) (active : List ℕ) → Starts active (levels_from s cs c k fuel built active)
  unfolding coarse_level_lem fine_level_lem
  levels-start zero built active =
      record { first = coarse_level_lem s.dimension active; rest = []; are = levels-last s cs c k built active; lists = refl }
  levels-start (suc fuel) built active =
      ⊎_elim
      (λ (few : length active ≤ c).
      record { first = coarse_level_lem s.dimension active; rest = []; are = levels-end s cs c k fuel built active few; lists = refl })
      (λ (many : c < length active).
      record {
        first = fine_of s cs (size_from c k built active) active;
        rest = levels_from s cs c k fuel (suc built) (next_of s cs c k built active);
        are = levels-more s cs c k fuel built active many;
        lists = refl;
      })
      (le-or-lt (length active) c)

  -- THE LAW: all of them pass, down to the coarse one
  pub levels-pass : 0 < s.dimension → 1 ≤ s.leaf → 1 ≤ c → (fuel built : ℕ) (active : List ℕ) → Good s.dimension cs active → length active ≤ most_points
      → Ascends active → sound_levels s.dimension (levels_from s cs c k fuel built active) ≡ true
  levels-pass pos lp cp zero built active g few h = rw (levels-last s cs c k built active) (coarse-passes s.dimension active h)
  levels-pass pos lp cp (suc fuel) built active g few h =
      ⊎_elim
      (λ (end : length active ≤ c). rw (levels-end s cs c k fuel built active end) (coarse-passes s.dimension active h))
      (λ (many : c < length active).
      let sent = sent_from s cs c k built active in
      let next = next_of s cs c k built active in
      rw (levels-more s cs c k fuel built active many)
      (fine-passes s cs c k built active pos lp cp g few h many (levels_from s cs c k fuel (suc built) next) (levels-start fuel (suc built) next)
      (levels-pass pos lp cp fuel (suc built) next (next-good active sent s.dimension cs g) (omega (arith, next-short active sent)) (next-ascends active sent h))))
      (le-or-lt (length active) c)
