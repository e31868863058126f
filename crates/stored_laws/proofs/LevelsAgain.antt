-- Where a domain, a level, or the levels of a tree stand whole, their bytes are those of what is read from them, if no bound and no cover
-- is a NaN. Assumes nothing.
-- Holds: whole_long, counts-again, Clean, domain-again, after-bytes, level-again, levels-again
use mathlib.Core.Path.{◌≡◌, refl, sym, ap, ap₂, subst, ◌∙◌}
use Prim.Native.Nat.{ℕ, zero, suc, ◌+◌, ◌*◌, ◌≤◌}
use native.Mathlib.Omega.{arith}
use mathlib.Core.Bool.{Bool, true, false, not, ◌&&◌, cond}
use mathlib.Core.List.{List, [], ◌∷◌, ◌++◌, append_assoc}
use lib.ListN.{length, drop}
use lib.Dec.{leb, eqb}
use lib.Ieee.{is_nan}
use borrow.Author.Tests.{leb-true, eqb-true, not-true}
use Rattle.lists.specs.Lists.{any_of, joined}
use Rattle.lists.specs.Ascends.{All}
use Rattle.lists.proofs.Tests.{clash, and-fst, and-snd}
use Rattle.lists.proofs.All.{all-of, all_left, all_right, all_drop}
use Rattle.lists.proofs.Members.{none_any}
use Rattle.definition.specs.Points.{box_width_lem}
use Rattle.definition.specs.Tree.{Leaf, Level}
use Rattle.definition.specs.Packed.{leaf_floats}
use Rattle.formats.specs.Bytes.{Mark, mark_size, mark_bytes, marked_by, whole, number_size, number_bytes, numbers_at, numbers_bytes, float_bytes, floats_bytes}
use Rattle.stored.specs.File.{level_mark, domain_mark, level_bytes, domain_bytes, tree_records}
use Rattle.stored.specs.Sound.{same, sound_box, no_box, sound_levels}
use Rattle.stored.specs.Stored.{counts_size, first_count_lem, second_count, borrowed_place, bounds_place, cover_place, depth_place, leaf_in, leaf_size, leaves_at_lem, after_leaves, one_domain, domains_place, level_in, after_level, levels_at}
use Rattle.tree_tests.specs.Whole.{leaves_whole, level_whole, levels_whole}
use Rattle.tree_tests.proofs.SoundLevels.{coarse-level, fine-level}
use Rattle.tree_tests.proofs.Lengths.{length-leaves-at}
use Rattle.stored_laws.specs.Writable.{IsByte}
use Rattle.stored_laws.proofs.Domains.{bounds_of, floats_of, domain-parts}
use Rattle.stored_laws.proofs.Levels.{domains_bytes, level-parts, records-last, records-more}
use Rattle.stored_laws.proofs.FieldsAgain.{field-again, NoNan, numbers-again, float-again, floats-again, mark-again}
use Rattle.bytes_in.proofs.Fields.{length-numbers-at}

-- ---- a record with two counts: a domain or a level
module _ (m : Mark) (size : ℕ) (bs : List ℕ) (bytes : All IsByte bs) (h : whole m size bs ≡ true) (least : counts_size ≤ size) where
  pub whole_long : size ≤ length bs
  whole_long = leb-true size (length bs) (and-fst (leb size (length bs)) (marked_by m bs) h)

  -- its mark and counts, and what stands after them
  pub counts-again : mark_bytes m ++ (number_bytes (first_count_lem bs) ++ (number_bytes (second_count bs) ++ drop counts_size bs)) ≡ bs
  counts-again =
      ap (λ (l : List ℕ). mark_bytes m ++ (number_bytes (first_count_lem bs) ++ l)) (field-again bs bytes number_size (mark_size + number_size) (omega (arith, whole_long)))
      ∙ ap (λ (l : List ℕ). mark_bytes m ++ l) (field-again bs bytes number_size mark_size (omega (arith, whole_long)))
      ∙ mark-again m bs (omega (arith, whole_long)) (and-snd (leb size (length bs)) (marked_by m bs) h)

-- ---- a domain

-- no float in its record is a NaN
abbrev pub Clean : Bool → Leaf → Type 0
Clean coarse f = All NoNan (floats_of coarse f)

module _ (d : ℕ) (bs : List ℕ) (bytes : All IsByte bs) where
  -- own and borrowed rows, where they end inside the bytes
  rows-again : bounds_place bs ≤ length bs
      → numbers_bytes (numbers_at (first_count_lem bs) counts_size bs) ++ (numbers_bytes (numbers_at (second_count bs) (borrowed_place bs) bs) ++ drop (bounds_place bs) bs) ≡ drop counts_size bs
  rows-again l =
      let z : bounds_place bs ≡ borrowed_place bs + number_size * second_count bs = omega arith in
      ap (λ (k : ℕ). numbers_bytes (numbers_at (first_count_lem bs) counts_size bs) ++ (numbers_bytes (numbers_at (second_count bs) (borrowed_place bs) bs) ++ drop k bs)) z
      ∙ ap (λ (r : List ℕ). numbers_bytes (numbers_at (first_count_lem bs) counts_size bs) ++ r) (numbers-again bs bytes (second_count bs) (borrowed_place bs) (omega (arith, l)))
      ∙ numbers-again bs bytes (first_count_lem bs) counts_size (omega (arith, l))

  bounds-again : (coarse : Bool) → cover_place d coarse bs ≤ length bs → All NoNan (bounds_of coarse (leaf_in d coarse bs))
      → floats_bytes (bounds_of coarse (leaf_in d coarse bs)) ++ drop (cover_place d coarse bs) bs ≡ drop (bounds_place bs) bs
  unfolding leaf_in floats_bytes joined
  bounds-again true l clean = let z : bounds_place bs + 0 ≡ bounds_place bs = omega arith in ap (λ (k : ℕ). drop k bs) z
  bounds-again false l clean = floats-again bs bytes (box_width_lem d) (bounds_place bs) l clean

  -- the bounds, the cover, and the depth
  values-again : (coarse : Bool) → leaf_size d coarse bs ≤ length bs → Clean coarse (leaf_in d coarse bs)
      → floats_bytes (bounds_of coarse (leaf_in d coarse bs)) ++ (float_bytes (leaf_in d coarse bs).cover ++ (number_bytes (leaf_in d coarse bs).depth ++ drop (leaf_size d coarse bs) bs))
      ≡ drop (bounds_place bs) bs
  unfolding leaf_in leaf_size All
  values-again coarse l clean =
      let bounds = bounds_of coarse (leaf_in d coarse bs) in
      let cover = (leaf_in d coarse bs).cover in
      ap (λ (r : List ℕ). floats_bytes bounds ++ (float_bytes cover ++ r)) (field-again bs bytes number_size (depth_place d coarse bs) l)
      ∙ ap (λ (r : List ℕ). floats_bytes bounds ++ r) (float-again bs bytes (cover_place d coarse bs) (omega (arith, l)) (all_right NoNan bounds (cover ∷ []) clean).0)
      ∙ bounds-again coarse (omega (arith, l)) (all_left NoNan bounds (cover ∷ []) clean)

  size-least : (coarse : Bool) → bounds_place bs ≤ leaf_size d coarse bs
  unfolding leaf_size
  size-least coarse = omega arith

  pub domain-again : (coarse : Bool) → whole domain_mark (leaf_size d coarse bs) bs ≡ true → Clean coarse (leaf_in d coarse bs)
      → bs ≡ domain_bytes (bounds_of coarse (leaf_in d coarse bs)) (leaf_in d coarse bs) ++ drop (leaf_size d coarse bs) bs
  unfolding leaf_in
  domain-again coarse h clean =
      let least : counts_size ≤ leaf_size d coarse bs = omega (arith, size-least coarse) in
      let long = whole_long domain_mark (leaf_size d coarse bs) bs bytes h least in
      let own = numbers_at (first_count_lem bs) counts_size bs in
      let borrowed = numbers_at (second_count bs) (borrowed_place bs) bs in
      let bounds = bounds_of coarse (leaf_in d coarse bs) in
      let rest = float_bytes (leaf_in d coarse bs).cover ++ (number_bytes (leaf_in d coarse bs).depth ++ drop (leaf_size d coarse bs) bs) in
      sym
      (domain-parts bounds (leaf_in d coarse bs) (drop (leaf_size d coarse bs) bs)
      ∙ ap₂ (λ (n m : ℕ). mark_bytes domain_mark ++ (number_bytes n ++ (number_bytes m ++ (numbers_bytes own ++ (numbers_bytes borrowed ++ (floats_bytes bounds ++ rest))))))
      (length-numbers-at (first_count_lem bs) counts_size bs) (length-numbers-at (second_count bs) (borrowed_place bs) bs)
      ∙ ap (λ (r : List ℕ). mark_bytes domain_mark ++ (number_bytes (first_count_lem bs) ++ (number_bytes (second_count bs) ++ r)))
      (ap (λ (r : List ℕ). numbers_bytes own ++ (numbers_bytes borrowed ++ r)) (values-again coarse long clean) ∙ rows-again (omega (arith, long, size-least coarse)))
      ∙ counts-again domain_mark (leaf_size d coarse bs) bs bytes h least)

-- ---- domains one after the other
pub after-bytes : (d : ℕ) (coarse : Bool) (m : ℕ) (bs : List ℕ) → All IsByte bs → All IsByte (after_leaves d coarse m bs)
unfolding after_leaves
after-bytes d coarse zero bs bytes = bytes
after-bytes d coarse (suc m) bs bytes = after-bytes d coarse m (drop (leaf_size d coarse bs) bs) (all_drop IsByte (leaf_size d coarse bs) bs bytes)

leaves-again : (d : ℕ) (coarse : Bool) (m : ℕ) (bs : List ℕ) → All IsByte bs → leaves_whole d coarse m bs ≡ true → All (Clean coarse) (leaves_at_lem d coarse m bs)
    → bs ≡ domains_bytes coarse (leaves_at_lem d coarse m bs) ++ after_leaves d coarse m bs
unfolding leaves_at_lem after_leaves leaves_whole All joined
leaves-again d coarse zero bs bytes h clean = refl
leaves-again d coarse (suc m) bs bytes h clean =
    let size = leaf_size d coarse bs in
    let f = leaf_in d coarse bs in
    let more = drop size bs in
    let here = and-fst (whole domain_mark size bs) (leaves_whole d coarse m more) h in
    let others = and-snd (whole domain_mark size bs) (leaves_whole d coarse m more) h in
    domain-again d bs bytes coarse here clean.0
    ∙ ap (λ (l : List ℕ). domain_bytes (bounds_of coarse f) f ++ l) (leaves-again d coarse m more (all_drop IsByte size bs bytes) others clean.1)
    ∙ sym (append_assoc (domain_bytes (bounds_of coarse f) f) (domains_bytes coarse (leaves_at_lem d coarse m more)) (after_leaves d coarse m more))

-- ---- a level
pub level-again : (d : ℕ) (bs : List ℕ) → All IsByte bs → level_whole d bs ≡ true → All (Clean (one_domain bs)) (level_in d bs).leaves
    → bs ≡ level_bytes (level_in d bs) ++ (domains_bytes (one_domain bs) (level_in d bs).leaves ++ after_level d bs)
unfolding level_whole level_in after_level
level-again d bs bytes h clean =
    let size = domains_place bs in
    let coarse = one_domain bs in
    let m = second_count bs in
    let more = drop size bs in
    let least : counts_size ≤ size = omega arith in
    let here = and-fst (whole level_mark size bs) (leaves_whole d coarse m more) h in
    let others = and-snd (whole level_mark size bs) (leaves_whole d coarse m more) h in
    let rows = numbers_at (first_count_lem bs) counts_size bs in
    let rest = domains_bytes coarse (leaves_at_lem d coarse m more) ++ after_leaves d coarse m more in
    sym
    (level-parts (level_in d bs) rest
    ∙ ap₂ (λ (n k : ℕ). mark_bytes level_mark ++ (number_bytes n ++ (number_bytes k ++ (numbers_bytes rows ++ rest)))) (length-numbers-at (first_count_lem bs) counts_size bs) (length-leaves-at d coarse m more)
    ∙ ap (λ (r : List ℕ). mark_bytes level_mark ++ (number_bytes (first_count_lem bs) ++ (number_bytes m ++ r)))
    (ap (λ (r : List ℕ). numbers_bytes rows ++ r) (sym (leaves-again d coarse m more (all_drop IsByte size bs bytes) others clean))
    ∙ numbers-again bs bytes (first_count_lem bs) counts_size (whole_long level_mark size bs bytes here least))
    ∙ counts-again level_mark size bs bytes here least)

after-level-bytes : (d : ℕ) (bs : List ℕ) → All IsByte bs → All IsByte (after_level d bs)
unfolding after_level
after-level-bytes d bs bytes = after-bytes d (one_domain bs) (second_count bs) (drop (domains_place bs) bs) (all_drop IsByte (domains_place bs) bs bytes)

-- ---- the levels
coarse-clean : (d : ℕ) (f : Leaf) → no_box d f ≡ true → Clean true f
unfolding no_box All
coarse-clean d f h = (not-true (is_nan f.cover) (and-snd (same _ _) (not (is_nan f.cover)) h), tt)

box-clean : (d : ℕ) (f : Leaf) → sound_box d f ≡ true → Clean false f
unfolding sound_box
box-clean d f h =
    let none = not-true (any_of is_nan (leaf_floats f)) (and-snd (eqb (length f.box) (box_width_lem d)) (not (any_of is_nan (leaf_floats f))) h) in
    all-of NoNan (leaf_floats f) (λ x m. none_any is_nan (leaf_floats f) none m)

nothing_left : (l : List ℕ) → eqb (length l) 0 ≡ true → l ≡ []
nothing_left [] h = refl
nothing_left (x ∷ l) h = let z = eqb-true (suc (length l)) 0 h in absurd (omega (arith, z))

module _ (d : ℕ) (bs : List ℕ) (bytes : All IsByte bs) where
  abbrev l : Level
  l = level_in d bs

  abbrev after : List ℕ
  after = after_level d bs

  last-again : one_domain bs ≡ true → level_whole d bs ≡ true → sound_levels d (l ∷ []) ≡ true → eqb (length after) 0 ≡ true → bs ≡ joined (tree_records (l ∷ []))
  last-again one h s none =
      let g = coarse-level d l s in
      level-again d bs bytes h (subst (λ (b : Bool). All (Clean b) l.leaves) (sym one) (all-of (Clean true) l.leaves (λ f u. coarse-clean d f (g.boxes f u))))
      ∙ ap₂ (λ (b : Bool) (r : List ℕ). level_bytes l ++ (domains_bytes b l.leaves ++ r)) one (nothing_left after none)
      ∙ sym (records-last l)

  more-again : (m : Level) (ls : List Level) → one_domain bs ≡ false → level_whole d bs ≡ true → sound_levels d (l ∷ m ∷ ls) ≡ true → after ≡ joined (tree_records (m ∷ ls))
      → bs ≡ joined (tree_records (l ∷ m ∷ ls))
  more-again m ls one h s e =
      let g = fine-level d l m ls s in
      level-again d bs bytes h (subst (λ (b : Bool). All (Clean b) l.leaves) (sym one) (all-of (Clean false) l.leaves (λ f u. box-clean d f (g.boxes f u))))
      ∙ ap₂ (λ (b : Bool) (r : List ℕ). level_bytes l ++ (domains_bytes b l.leaves ++ r)) one e
      ∙ sym (records-more l m ls)

pub levels-again : (d fuel : ℕ) (bs : List ℕ) → All IsByte bs → levels_whole d fuel bs ≡ true → sound_levels d (levels_at d fuel bs) ≡ true → bs ≡ joined (tree_records (levels_at d fuel bs))
unfolding levels_whole levels_at
levels-again d zero bs bytes h s = clash h refl
levels-again d (suc zero) bs bytes h s = go (one_domain bs) refl h s
  where
    go : (b : Bool) → one_domain bs ≡ b → level_whole d bs && cond b (eqb (length (after_level d bs)) 0) false ≡ true
        → sound_levels d (level_in d bs ∷ cond b [] []) ≡ true → bs ≡ joined (tree_records (level_in d bs ∷ cond b [] []))
    go true one h s = last-again d bs bytes one (and-fst (level_whole d bs) (eqb (length (after_level d bs)) 0) h) s (and-snd (level_whole d bs) (eqb (length (after_level d bs)) 0) h)
    go false one h s = clash (and-snd (level_whole d bs) false h) refl
levels-again d (suc (suc fuel)) bs bytes h s = go (one_domain bs) refl h s (levels-again d (suc fuel) (after_level d bs) (after-level-bytes d bs bytes))
  where
    after : List ℕ
    after = after_level d bs

    go : (b : Bool) → one_domain bs ≡ b → level_whole d bs && cond b (eqb (length after) 0) (levels_whole d (suc fuel) after) ≡ true
        → sound_levels d (level_in d bs ∷ cond b [] (levels_at d (suc fuel) after)) ≡ true
        → (levels_whole d (suc fuel) after ≡ true → sound_levels d (levels_at d (suc fuel) after) ≡ true → after ≡ joined (tree_records (levels_at d (suc fuel) after)))
        → bs ≡ joined (tree_records (level_in d bs ∷ cond b [] (levels_at d (suc fuel) after)))
    go true one h s rec = last-again d bs bytes one (and-fst (level_whole d bs) (eqb (length after) 0) h) s (and-snd (level_whole d bs) (eqb (length after) 0) h)
    go false one h s rec =
        let m = level_in d after in
        let ls = cond (one_domain after) [] (levels_at d fuel (after_level d after)) in
        more-again d bs bytes m ls one (and-fst (level_whole d bs) (levels_whole d (suc fuel) after) h) s
        (rec (and-snd (level_whole d bs) (levels_whole d (suc fuel) after) h) (fine-level d (level_in d bs) m ls s).later)
