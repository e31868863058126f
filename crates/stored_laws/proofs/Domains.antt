-- A domain's record read back, its size, and what stands after it. Assumes nothing.
-- Holds: Stowed, bounds_of, floats_of, BoxIs, Boxed, domain-parts, leaf-back, leaf-size, leaf-after
use mathlib.Core.Path.{◌≡◌, refl, sym, ap, ap₂, ◌∙◌}
use Prim.Native.Nat.{ℕ, ◌+◌, ◌*◌}
use native.Mathlib.Omega.{arith}
use mathlib.Core.Bool.{Bool, true, false, cond}
use mathlib.Core.List.{List, [], ◌∷◌, ◌++◌, append_assoc}
use lib.ListN.{length, drop, replicate}
use lib.Seq.{drop_at}
use lib.Ieee.{Float, binary64, to_bits}
use Rattle.lists.specs.Ascends.{All}
use Rattle.lists.proofs.All.{all_left, all_right}
use Rattle.definition.specs.Number.{plus_zero}
use Rattle.definition.specs.Points.{box_width_lem}
use Rattle.definition.specs.Tree.{Leaf}
use Rattle.formats.specs.Bytes.{mark_size, mark_bytes, number_size, number_at, number_bytes, numbers_at, numbers_bytes, float_size, float_at, floats_at, float_bytes, floats_bytes}
use Rattle.bytes_out.proofs.Bytes.{length-bytes}
use Rattle.tree_tests.proofs.Lengths.{length-numbers, length-floats, length-domain}
use Rattle.stored.specs.File.{domain_mark, domain_bytes}
use Rattle.stored.specs.Stored.{counts_size, first_count_lem, second_count, borrowed_place, bounds_place, cover_place, depth_place, leaf_in, leaf_size}
use Rattle.stored_laws.specs.Writable.{NumberFits, FloatFits}
use Rattle.stored_laws.proofs.Fields.{field_back, drop-on, numbers-back, float_back, floats-back, floats-parts}

-- ---- a leaf that its record holds
pub record Stowed (f : Leaf) : Type 0 where
  pub own-few : NumberFits (length f.own)
  pub borrowed_few : NumberFits (length f.borrowed)
  pub own-small : All NumberFits f.own
  pub borrowed-small : All NumberFits f.borrowed
  pub depth_small : NumberFits f.depth

-- the bounds that stand in the record, and its floats: these and the cover
abbrev pub bounds_of : Bool → Leaf → List Float
bounds_of true f = []
bounds_of false f = f.box

abbrev pub floats_of : Bool → Leaf → List Float
floats_of coarse f = bounds_of coarse f ++ f.cover ∷ []

-- the box that goes with them, and floats of the format
abbrev pub BoxIs : ℕ → Bool → Leaf → Type 0
BoxIs d true f = f.box ≡ replicate (box_width_lem d) plus_zero
BoxIs d false f = length f.box ≡ box_width_lem d

abbrev pub Boxed : ℕ → Bool → Leaf → Type 0
Boxed d coarse f = BoxIs d coarse f × All FloatFits (floats_of coarse f)

-- ---- the record
-- its fields, one after the other
pub domain-parts : (bounds : List Float) (f : Leaf) (rest : List ℕ)
    → domain_bytes bounds f ++ rest
    ≡ mark_bytes domain_mark ++ (number_bytes (length f.own) ++ (number_bytes (length f.borrowed) ++ (numbers_bytes f.own ++ (numbers_bytes f.borrowed ++ (floats_bytes bounds ++ (float_bytes f.cover ++ (number_bytes f.depth ++ rest)))))))
unfolding domain_bytes
domain-parts bounds f rest = simp append_assoc (rw (floats-parts bounds f.cover (number_bytes f.depth ++ rest)) refl)

module _ (f : Leaf) (bounds : List Float) (bs rest : List ℕ) (k : Stowed f) (e : bs ≡ domain_bytes bounds f ++ rest) where
  abbrev o : ℕ
  o = length f.own

  abbrev b : ℕ
  b = length f.borrowed

  abbrev r6 : List ℕ
  r6 = number_bytes f.depth ++ rest

  abbrev r5 : List ℕ
  r5 = float_bytes f.cover ++ r6

  abbrev r4 : List ℕ
  r4 = floats_bytes bounds ++ r5

  abbrev r3 : List ℕ
  r3 = numbers_bytes f.borrowed ++ r4

  abbrev r2 : List ℕ
  r2 = numbers_bytes f.own ++ r3

  abbrev r1 : List ℕ
  r1 = number_bytes b ++ r2

  at_first : drop mark_size bs ≡ number_bytes o ++ r1
  at_first = ap (drop mark_size) (e ∙ domain-parts bounds f rest)

  at_second : drop (mark_size + number_size) bs ≡ r1
  at_second = drop-on mark_size number_size bs (number_bytes o) r1 (length-bytes number_size o) at_first

  at_own : drop counts_size bs ≡ r2
  at_own = drop-on (mark_size + number_size) number_size bs (number_bytes b) r2 (length-bytes number_size b) at_second

  at-borrowed : drop (counts_size + number_size * o) bs ≡ r3
  at-borrowed = drop-on counts_size (number_size * o) bs (numbers_bytes f.own) r3 (length-numbers f.own) at_own

  at_bounds : drop (counts_size + number_size * (o + b)) bs ≡ r4
  at_bounds =
      let z : counts_size + number_size * (o + b) ≡ counts_size + number_size * o + number_size * b = omega arith in
      ap (λ (i : ℕ). drop i bs) z
      ∙ drop-on (counts_size + number_size * o) (number_size * b) bs (numbers_bytes f.borrowed) r4 (length-numbers f.borrowed) at-borrowed

  own_count : first_count_lem bs ≡ o
  own_count = field_back number_size o mark_size bs r1 k.own-few at_first

  borrowed_count : second_count bs ≡ b
  borrowed_count = field_back number_size b (mark_size + number_size) bs r2 k.borrowed_few at_second

  own_back : numbers_at (first_count_lem bs) counts_size bs ≡ f.own
  own_back = ap (λ (n : ℕ). numbers_at n counts_size bs) own_count ∙ numbers-back f.own counts_size bs r3 k.own-small at_own

  borrowed-back : numbers_at (second_count bs) (borrowed_place bs) bs ≡ f.borrowed
  borrowed-back =
      ap₂ (λ (n m : ℕ). numbers_at n (counts_size + number_size * m) bs) borrowed_count own_count
      ∙ numbers-back f.borrowed (counts_size + number_size * o) bs r4 k.borrowed-small at-borrowed

  -- the cover, and the depth behind it
  abbrev bounds_begin : ℕ
  bounds_begin = counts_size + number_size * (o + b)

  at-cover : drop (bounds_begin + float_size * length bounds) bs ≡ r5
  at-cover = drop-on bounds_begin (float_size * length bounds) bs (floats_bytes bounds) r5 (length-floats bounds) at_bounds

  depth-back : number_at (bounds_place bs + float_size * length bounds + float_size) bs ≡ f.depth
  depth-back =
      let at = bounds_begin + float_size * length bounds in
      ap₂ (λ (n m : ℕ). number_at (counts_size + number_size * (n + m) + float_size * length bounds + float_size) bs) own_count borrowed_count
      ∙ field_back number_size f.depth (at + float_size) bs rest k.depth_small
      (drop-on at float_size bs (float_bytes f.cover) r6 (length-bytes float_size (to_bits binary64 f.cover)) at-cover)

  module _ (h : All FloatFits (bounds ++ f.cover ∷ [])) where
    bounds-back : floats_at (length bounds) (bounds_place bs) bs ≡ bounds
    bounds-back =
        ap₂ (λ (n m : ℕ). floats_at (length bounds) (counts_size + number_size * (n + m)) bs) own_count borrowed_count
        ∙ floats-back bounds bounds_begin bs r5 (all_left FloatFits bounds (f.cover ∷ []) h) at_bounds

    cover-back : float_at (bounds_place bs + float_size * length bounds) bs ≡ f.cover
    unfolding All
    cover-back =
        ap₂ (λ (n m : ℕ). float_at (counts_size + number_size * (n + m) + float_size * length bounds) bs) own_count borrowed_count
        ∙ float_back f.cover (bounds_begin + float_size * length bounds) bs r6 (all_right FloatFits bounds (f.cover ∷ []) h).0 at-cover

  domain-size : bounds_place bs + float_size * length bounds + float_size + number_size ≡ length (domain_bytes bounds f)
  domain-size =
      ap₂ (λ (n m : ℕ). counts_size + number_size * (n + m) + float_size * length bounds + float_size + number_size) own_count borrowed_count
      ∙ omega (arith, length-domain bounds f)

-- ---- the leaf
abbrev leaf : List ℕ → List ℕ → List Float → Float → ℕ → Leaf
leaf own borrowed box cover depth = record { own = own; borrowed = borrowed; box = box; cover = cover; depth = depth }

module _ (d : ℕ) where
  bounds-wide : (coarse : Bool) (f : Leaf) → BoxIs d coarse f → float_size * length (bounds_of coarse f) ≡ cond coarse 0 (float_size * box_width_lem d)
  bounds-wide true f x = refl
  bounds-wide false f x = omega (arith, x)

  box-back : (coarse : Bool) (f : Leaf) (bs rest : List ℕ) → Stowed f → Boxed d coarse f → bs ≡ domain_bytes (bounds_of coarse f) f ++ rest
      → cond coarse (replicate (box_width_lem d) plus_zero) (floats_at (box_width_lem d) (bounds_place bs) bs) ≡ f.box
  box-back true f bs rest k x e = sym x.0
  box-back false f bs rest k x e = ap (λ (n : ℕ). floats_at n (bounds_place bs) bs) (sym x.0) ∙ bounds-back f f.box bs rest k e x.1

  pub leaf-back : (coarse : Bool) (f : Leaf) (bs rest : List ℕ) → Stowed f → Boxed d coarse f → bs ≡ domain_bytes (bounds_of coarse f) f ++ rest → leaf_in d coarse bs ≡ f
  unfolding leaf_in
  leaf-back coarse f bs rest k x e =
      let bounds = bounds_of coarse f in
      let box = cond coarse (replicate (box_width_lem d) plus_zero) (floats_at (box_width_lem d) (bounds_place bs) bs) in
      let depth = number_at (depth_place d coarse bs) bs in
      let wide = sym (bounds-wide coarse f x.0) in
      ap₂ (λ (own borrowed : List ℕ). leaf own borrowed box (float_at (cover_place d coarse bs) bs) depth) (own_back f bounds bs rest k e) (borrowed-back f bounds bs rest k e)
      ∙ ap₂ (λ (box : List Float) (cover : Float). leaf f.own f.borrowed box cover depth) (box-back coarse f bs rest k x e)
      (ap (λ (n : ℕ). float_at (bounds_place bs + n) bs) wide ∙ cover-back f bounds bs rest k e x.1)
      ∙ ap (leaf f.own f.borrowed f.box f.cover) (ap (λ (n : ℕ). number_at (bounds_place bs + n + float_size) bs) wide ∙ depth-back f bounds bs rest k e)

  pub leaf-size : (coarse : Bool) (f : Leaf) (bs rest : List ℕ) → Stowed f → Boxed d coarse f → bs ≡ domain_bytes (bounds_of coarse f) f ++ rest
      → leaf_size d coarse bs ≡ length (domain_bytes (bounds_of coarse f) f)
  unfolding leaf_size
  leaf-size coarse f bs rest k x e =
      ap (λ (n : ℕ). bounds_place bs + n + float_size + number_size) (sym (bounds-wide coarse f x.0)) ∙ domain-size f (bounds_of coarse f) bs rest k e

  pub leaf-after : (coarse : Bool) (f : Leaf) (bs rest : List ℕ) → Stowed f → Boxed d coarse f → bs ≡ domain_bytes (bounds_of coarse f) f ++ rest → drop (leaf_size d coarse bs) bs ≡ rest
  leaf-after coarse f bs rest k x e =
      ap₂ drop (leaf-size coarse f bs rest k x e) e ∙ drop_at (domain_bytes (bounds_of coarse f) f) rest (length (domain_bytes (bounds_of coarse f) f)) refl
