-- The extents of rows with finite coordinates are finite, and hold each of the rows. Assumes nothing.
use mathlib.Core.Path.{◌≡◌, refl, sym, ap, ◌∙◌}
use mathlib.Core.Logic.{⊎_elim}
use mathlib.Core.Bool.{Bool, true, false, cond}
use mathlib.Core.List.{List, [], ◌∷◌, ◌++◌, map, Memᴰ}
use Prim.Native.Nat.{ℕ, ◌+◌, ◌-◌, ◌≤◌, ◌<◌}
use native.Mathlib.Omega.{arith}
use lib.ListN.{length, get_or, get_or-append, length-append, length-map}
use lib.Seq.{get_or-append-add}
use lib.Ieee.{Float, nan, lt}
use lib.Ieee.Scale.{finite}
use Rattle.lists.specs.Lists.{best, from}
use Rattle.lists.specs.Ascends.{All}
use Rattle.lists.proofs.Tests.{le-or-lt}
use Rattle.lists.proofs.All.{all-mem, all-of, all_map}
use Rattle.lists.proofs.Best.{best-in}
use Rattle.lists.proofs.From.{get_d-map-below, length-map-from}
use Rattle.lists.proofs.Members.{mem-map}
use Rattle.definition.specs.Points.{coordinate, column, least_of, greatest_of, lower_bound_lem, upper_bound_lem, box_width_lem, extents}
use Rattle.definition.specs.Gap.{lower_at, upper_at}
use Rattle.definition.proofs.Cuts.{finite-known}
use Rattle.rows.specs.Rows.{FiniteAt, FiniteRow}
use Rattle.gap_laws.specs.Boxed.{InBox, Holds}
use Rattle.gap_laws.proofs.Weak.{lt-self, lt-back, le-on}

-- ---- no element is better than the best, where `better` is a weak order on the elements
module _ {A : Type 0} (better : A → A → Bool) (P : A → Type 0)
    (irr : (a : A) → better a a ≡ false)
    (asym : (a b : A) → better a b ≡ true → better b a ≡ false)
    (weak : (a b c : A) → P a → P b → P c → better b a ≡ false → better c b ≡ false → better c a ≡ false) where
  none-better : (x : A) (ys : List A) → P x → All P ys → All (λ z. better z (best better x ys) ≡ false) (x ∷ ys)
  unfolding best All
  none-better x [] h k = (irr x, tt)
  none-better x (y ∷ ys) h k = go (better y x) refl (none-better y ys k.0 k.1) (none-better x ys h k.1)
    where
      go : (t : Bool) → better y x ≡ t → All (λ z. better z (best better y ys) ≡ false) (y ∷ ys) → All (λ z. better z (best better x ys) ≡ false) (x ∷ ys)
          → All (λ z. better z (best better (cond t y x) ys) ≡ false) (x ∷ y ∷ ys)
      go true e r s = (weak (best better y ys) y x (best-in better P y ys k.0 k.1) k.0 h r.0 (asym y x e), r)
      go false e r s = (s.0, (weak (best better x ys) x y (best-in better P x ys h k.1) h k.0 s.0 e, s.1))

-- ---- the least and the greatest of some finite values
abbrev Finite : Float → Type 0
Finite x = finite x ≡ true

least-finite : (xs : List Float) → All Finite xs → 0 < length xs → finite (least_of xs) ≡ true
unfolding least_of All
least-finite [] f h = absurd (omega arith)
least-finite (x ∷ xs) f h = best-in lt Finite x xs f.0 f.1

greatest-finite : (xs : List Float) → All Finite xs → 0 < length xs → finite (greatest_of xs) ≡ true
unfolding greatest_of All
greatest-finite [] f h = absurd (omega arith)
greatest-finite (x ∷ xs) f h = best-in (λ y z. lt z y) Finite x xs f.0 f.1

-- none of them is below the least, nor above the greatest
least-least : (xs : List Float) → All Finite xs → All (λ z. lt z (least_of xs) ≡ false) xs
unfolding least_of All
least-least [] f = tt
least-least (x ∷ xs) f =
    none-better lt Finite lt-self lt-back (λ a b c h g k. le-on a b c (finite-known a h) (finite-known b g) (finite-known c k)) x xs f.0 f.1

greatest-greatest : (xs : List Float) → All Finite xs → All (λ z. lt (greatest_of xs) z ≡ false) xs
unfolding greatest_of All
greatest-greatest [] f = tt
greatest-greatest (x ∷ xs) f =
    none-better (λ y z. lt z y) Finite lt-self (λ a b. lt-back b a) (λ a b c h g k e t. le-on c b a (finite-known c k) (finite-known b g) (finite-known a h) t e) x xs f.0 f.1

-- ---- the extents
module _ (d : ℕ) (cs : List Float) (rows : List ℕ) where
  lower-is : (a : ℕ) → a < d → lower_at (extents d cs rows) a ≡ lower_bound_lem d cs rows a
  unfolding extents
  lower-is a h =
      get_or-append (map (lower_bound_lem d cs rows) (from 0 d)) (map (upper_bound_lem d cs rows) (from 0 d)) nan a
      (omega (arith, length-map-from (lower_bound_lem d cs rows) 0 d))
      ∙ get_d-map-below (lower_bound_lem d cs rows) d a nan h

  upper-is : (a : ℕ) → a < d → upper_at d (extents d cs rows) a ≡ upper_bound_lem d cs rows a
  unfolding extents
  upper-is a h =
      let l = map (lower_bound_lem d cs rows) (from 0 d) in
      let u = map (upper_bound_lem d cs rows) (from 0 d) in
      ap (λ (n : ℕ). get_or (l ++ u) (n + a) nan) (sym (length-map-from (lower_bound_lem d cs rows) 0 d))
      ∙ get_or-append-add l u a nan ∙ get_d-map-below (upper_bound_lem d cs rows) d a nan h

  extents-width : length (extents d cs rows) ≡ box_width_lem d
  unfolding extents
  extents-width =
      length-append (map (lower_bound_lem d cs rows) (from 0 d)) (map (upper_bound_lem d cs rows) (from 0 d))
      ∙ omega (arith, length-map-from (lower_bound_lem d cs rows) 0 d, length-map-from (upper_bound_lem d cs rows) 0 d)

  module _ (some : 1 ≤ length rows) (f : (i : ℕ) → Memᴰ i rows → FiniteRow d cs i) where
    column-finite : (a : ℕ) → a < d → All Finite (column d cs rows a)
    column-finite a h = all_map Finite (λ i. coordinate d cs i a) rows (all-of (FiniteAt d cs a) rows (λ i m. f i m a h))

    column-some : (a : ℕ) → 0 < length (column d cs rows a)
    column-some a = omega (arith, length-map rows (λ i. coordinate d cs i a))

    bound-finite : (b : ℕ) → b < box_width_lem d → finite (get_or (extents d cs rows) b nan) ≡ true
    bound-finite b h =
        ⊎_elim
        (λ (up : d ≤ b).
        let e : d + (b - d) ≡ b = omega arith in
        ap finite (ap (λ (k : ℕ). get_or (extents d cs rows) k nan) (sym e) ∙ upper-is (b - d) (omega arith))
        ∙ greatest-finite (column d cs rows (b - d)) (column-finite (b - d) (omega arith)) (column-some (b - d)))
        (λ (low : b < d). ap finite (lower-is b low) ∙ least-finite (column d cs rows b) (column-finite b low) (column-some b))
        (le-or-lt d b)

    row-inside : (i : ℕ) → Memᴰ i rows → InBox d cs (extents d cs rows) i
    row-inside i m a h =
        let n = mem-map (λ i. coordinate d cs i a) rows m in
        let c = column d cs rows a in
        let x = coordinate d cs i a in (
          ap (lt x) (lower-is a h) ∙ all-mem (λ z. lt z (least_of c) ≡ false) c (least-least c (column-finite a h)) x n,
          ap (λ (y : Float). lt y x) (upper-is a h) ∙ all-mem (λ z. lt (greatest_of c) z ≡ false) c (greatest-greatest c (column-finite a h)) x n,
        )

    -- the extents of rows hold the rows
    pub extents-hold : Holds d cs (extents d cs rows) rows
    extents-hold = record { width = extents-width; bounds = bound-finite; inside = all-of (InBox d cs (extents d cs rows)) rows row-inside }
