-- The tests of a domain row's floats come to those of the leaf's box and cover. Assumes nothing.
use mathlib.Core.Path.{◌≡◌, refl, sym, ap, ◌∙◌}
use mathlib.Core.Bool.{Bool, true, false, not, ◌&&◌, ◌||◌}
use mathlib.Core.List.{List, [], ◌∷◌, ◌++◌, map}
use Prim.Native.Nat.{ℕ}
use borrow.Author.Tests.{eq-eqb}
use lib.ListN.{length, replicate}
use lib.Ieee.{Float, binary64, to_bits, of_bits, is_nan}
use Rattle.lists.specs.Lists.{any_of}
use Rattle.lists.proofs.Tests.{or-false}
use Rattle.lists.proofs.Members.{any_append}
use Rattle.definition.specs.Number.{plus_zero}
use Rattle.definition.specs.Points.{box_width_lem}
use Rattle.definition.specs.Tree.{Leaf}
use Rattle.stored.specs.Sound.{all_of, same, sound_box, no_box}
use Rattle.tree_tests.specs.InTurn.{boxed}
use Rattle.tree_tests.proofs.AllPass.{all-pass-nil, all-pass-cons}
use Rattle.list_domains.specs.Boxes.{bound_fits_lem, floats_fit_lem}

-- ---- all bounds of a box
neither : (a b : Bool) → not a && not b ≡ not (a || b)
neither true b = refl
neither false b = refl

zero_bits : to_bits binary64 plus_zero ≡ 0
unfolding to_bits of_bits
zero_bits = refl

all-zero : (xs : List Float) → all_of (bound_fits_lem true) xs ≡ same (map (to_bits binary64) xs) (map (to_bits binary64) (replicate (length xs) plus_zero))
unfolding same bound_fits_lem
all-zero [] = all-pass-nil (bound_fits_lem true)
all-zero (x ∷ xs) = all-pass-cons (bound_fits_lem true) x xs ∙ rw (zero_bits, all-zero xs)

no_nan : (xs : List Float) → all_of (bound_fits_lem false) xs ≡ not (any_of is_nan xs)
unfolding any_of bound_fits_lem
no_nan [] = refl
no_nan (x ∷ xs) = all-pass-cons (bound_fits_lem false) x xs ∙ ap (λ (b : Bool). not (is_nan x) && b) (no_nan xs) ∙ neither (is_nan x) (any_of is_nan xs)

-- and of the cover behind them
no-nan-behind : (xs : List Float) (x : Float) → floats_fit_lem false xs x ≡ not (any_of is_nan (xs ++ x ∷ []))
unfolding any_of bound_fits_lem
no-nan-behind xs x =
    ap (λ (b : Bool). b && not (is_nan x)) (no_nan xs) ∙ neither (any_of is_nan xs) (is_nan x)
    ∙ ap not (sym (any_append is_nan xs (x ∷ []) ∙ ap (λ (b : Bool). any_of is_nan xs || b) (or-false (is_nan x))))

-- THE FLOATS: of a leaf with two bounds on each axis
pub box-tests : (d : ℕ) (coarse : Bool) (f : Leaf) → length f.box ≡ box_width_lem d → floats_fit_lem coarse f.box f.cover ≡ boxed d coarse f
unfolding no_box sound_box bound_fits_lem
box-tests d true f e = rw (← e) (ap (λ (b : Bool). b && not (is_nan f.cover)) (all-zero f.box))
box-tests d false f e = no-nan-behind f.box f.cover ∙ rw (eq-eqb (length f.box) (box_width_lem d) e)
