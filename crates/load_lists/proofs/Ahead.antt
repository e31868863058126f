-- Domains and levels one after another in bytes: how many they are, that each domain has all its floats, the first of them, and what comes
-- after it. Assumes nothing.
-- Holds: one-wide, leaves-wide, leaves-first, whole-first, after_first, level-wide, levels-wide, levels-first, level-first,
--   wholes-next
use mathlib.Core.Path.{◌≡◌, refl, sym, ap, ◌∙◌}
use mathlib.Core.Bool.{Bool, true, false, ◌&&◌, cond}
use mathlib.Core.List.{List, [], ◌∷◌}
use Prim.Native.Nat.{ℕ, zero, suc, ◌-◌, ◌<◌}
use native.Mathlib.Omega.{arith}
use native.Mathlib.Nat.{mul-zero}
use lib.Dec.{eqb}
use lib.ListN.{length, drop, replicate, length-replicate}
use Rattle.lists.specs.Lists.{joined}
use Rattle.lists.proofs.Tests.{and-fst, and-snd}
use Rattle.lists.proofs.Joined.{joined-one}
use Rattle.definition.specs.Number.{plus_zero}
use Rattle.definition.specs.Points.{box_width_lem}
use Rattle.definition.specs.Tree.{Level}
use Rattle.definition.specs.Packed.{row_floats_lem, leaf_floats, leaves_in_lem}
use Rattle.definition_laws.proofs.Fit.{floats-length}
use Rattle.formats.specs.Bytes.{whole, floats_at}
use Rattle.stored.specs.File.{domain_mark}
use Rattle.stored.specs.Stored.{bounds_place, leaf_in, leaf_size, leaves_at_lem, after_leaves, second_count, one_domain, domains_place, level_in, after_level, levels_at}
use Rattle.tree_tests.specs.Whole.{leaves_whole, level_whole, levels_whole}
use Rattle.bytes_in.proofs.Fields.{length-floats-at}
use Rattle.load_lists.proofs.Writing.{Wide, wide-append}

-- ---- domains in bytes
module _ (d : ℕ) (coarse : Bool) where
  box-wide : (bs : List ℕ) → length (leaf_in d coarse bs).box ≡ box_width_lem d
  unfolding leaf_in
  box-wide bs = go coarse
    where
      go : (b : Bool) → length (cond b (replicate (box_width_lem d) plus_zero) (floats_at (box_width_lem d) (bounds_place bs) bs)) ≡ box_width_lem d
      go true = length-replicate (box_width_lem d) plus_zero
      go false = length-floats-at (box_width_lem d) (bounds_place bs) bs

  pub one-wide : (bs : List ℕ) → Wide d (leaf_in d coarse bs ∷ [])
  one-wide bs = ap length (joined-one (leaf_floats (leaf_in d coarse bs))) ∙ floats-length d (leaf_in d coarse bs) (box-wide bs) ∙ omega arith

  pub leaves-wide : (m : ℕ) (bs : List ℕ) → Wide d (leaves_at_lem d coarse m bs)
  unfolding leaves_at_lem joined
  leaves-wide zero bs = sym (mul-zero (row_floats_lem d))
  leaves-wide (suc m) bs =
      let rest = drop (leaf_size d coarse bs) bs in
      wide-append d (leaf_in d coarse bs ∷ []) (leaves_at_lem d coarse m rest) (one-wide bs) (leaves-wide m rest)

  -- the first of them, and what comes after it
  pub leaves-first : (m : ℕ) (bs : List ℕ) → 0 < m → leaves_at_lem d coarse m bs ≡ leaf_in d coarse bs ∷ leaves_at_lem d coarse (m - 1) (drop (leaf_size d coarse bs) bs)
  unfolding leaves_at_lem
  leaves-first zero bs h = absurd (omega arith)
  leaves-first (suc m) bs h = let e : suc m - 1 ≡ m = omega arith in rw e

  pub whole-first : (m : ℕ) (bs : List ℕ) → 0 < m → leaves_whole d coarse m bs ≡ (whole domain_mark (leaf_size d coarse bs) bs && leaves_whole d coarse (m - 1) (drop (leaf_size d coarse bs) bs))
  unfolding leaves_whole
  whole-first zero bs h = absurd (omega arith)
  whole-first (suc m) bs h = let e : suc m - 1 ≡ m = omega arith in rw e

  pub after_first : (m : ℕ) (bs : List ℕ) → 0 < m → after_leaves d coarse m bs ≡ after_leaves d coarse (m - 1) (drop (leaf_size d coarse bs) bs)
  unfolding after_leaves
  after_first zero bs h = absurd (omega arith)
  after_first (suc m) bs h = let e : suc m - 1 ≡ m = omega arith in rw e

-- ---- levels in bytes
module _ (d : ℕ) where
  pub level-wide : (bs : List ℕ) → Wide d (level_in d bs).leaves
  unfolding level_in
  level-wide bs = leaves-wide d (one_domain bs) (second_count bs) (drop (domains_place bs) bs)

  none-wide : Wide d (leaves_in_lem [])
  unfolding leaves_in_lem joined
  none-wide = sym (mul-zero (row_floats_lem d))

  wide-more : (l : Level) (ls : List Level) → Wide d l.leaves → Wide d (leaves_in_lem ls) → Wide d (leaves_in_lem (l ∷ ls))
  unfolding leaves_in_lem joined
  wide-more l ls h g = wide-append d l.leaves (leaves_in_lem ls) h g

  pub levels-wide : (fuel : ℕ) (bs : List ℕ) → Wide d (leaves_in_lem (levels_at d fuel bs))
  unfolding levels_at
  levels-wide zero bs = none-wide
  levels-wide (suc fuel) bs = wide-more (level_in d bs) (cond (one_domain bs) [] (levels_at d fuel (after_level d bs))) (level-wide bs) (go (one_domain bs) (levels-wide fuel (after_level d bs)))
    where
      go : (b : Bool) → Wide d (leaves_in_lem (levels_at d fuel (after_level d bs))) → Wide d (leaves_in_lem (cond b [] (levels_at d fuel (after_level d bs))))
      go true h = none-wide
      go false h = h

  -- the first of them, and how many more there can be
  pub levels-first : (left : ℕ) (bs : List ℕ) → 0 < left → levels_at d left bs ≡ level_in d bs ∷ levels_at d (cond (one_domain bs) 0 (left - 1)) (after_level d bs)
  unfolding levels_at
  levels-first zero bs h = absurd (omega arith)
  levels-first (suc left) bs h = ap (λ (ls : List Level). level_in d bs ∷ ls) (go (one_domain bs))
    where
      go : (b : Bool) → cond b [] (levels_at d left (after_level d bs)) ≡ levels_at d (cond b 0 (suc left - 1)) (after_level d bs)
      go true = refl
      go false = let e : suc left - 1 ≡ left = omega arith in rw e

  pub level-first : (left : ℕ) (bs : List ℕ) → 0 < left → levels_whole d left bs ≡ true → level_whole d bs ≡ true
  unfolding levels_whole
  level-first zero bs h g = absurd (omega arith)
  level-first (suc left) bs h g = and-fst (level_whole d bs) _ g

  pub wholes-next : (left : ℕ) (bs : List ℕ) → levels_whole d left bs ≡ true → 0 < cond (one_domain bs) 0 (left - 1) → levels_whole d (cond (one_domain bs) 0 (left - 1)) (after_level d bs) ≡ true
  unfolding levels_whole
  wholes-next zero bs g some = absurd (none (one_domain bs) some)
    where
      none : (b : Bool) → 0 < cond b 0 (0 - 1) → ⊥
      none true h = omega arith
      none false h = omega arith
  wholes-next (suc left) bs g some = go (one_domain bs) (and-snd (level_whole d bs) _ g) some
    where
      go : (b : Bool) → cond b (eqb (length (after_level d bs)) 0) (levels_whole d left (after_level d bs)) ≡ true → 0 < cond b 0 (suc left - 1)
          → levels_whole d (cond b 0 (suc left - 1)) (after_level d bs) ≡ true
      go true t h = absurd (omega arith)
      go false t h = let e : suc left - 1 ≡ left = omega arith in rw e t
