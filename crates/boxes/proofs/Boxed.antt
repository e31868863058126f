-- Boxes by value as lists. Assumes nothing.
-- Holds: box_with, lower-changed, upper-changed, box_read, both-back, box-written, Filled, filled_none, filled_more, filled-all
use mathlib.Core.Path.{◌≡◌, refl, ap, ap₂, subst, ◌∙◌}
use mathlib.Core.List.{List, ◌++◌, map, append-nil}
use Prim.Native.Nat.{ℕ, ◌+◌, ◌-◌, ◌≤◌, ◌<◌}
use native.Mathlib.Omega.{arith}
use lib.ListN.{length, set, take, drop, length-set, length-append, length-drop, take-append-drop, drop_of_length-le}
use lib.Seq.{length-take-le, take_all, take_at, drop_at}
use lib.Ieee.{Float}
use borrow.Rule.Slice.PartMut.{put_mid}
use Rattle.lists.specs.Lists.{from}
use Rattle.lists.proofs.Take.{set_front, set-second}
use Rattle.lists.proofs.From.{fill_more}
use Rattle.definition.specs.Points.{box_width_lem, lower_bound_lem, upper_bound_lem, extents}
use Rattle.boxes.specs.Boxes.{floats_of}
use Rattle.boxes.specs.declared.Extents.{Extents}

-- a box of these bounds
abbrev pub box_with : List Float → List Float → ℕ → Extents
box_with l u d = record { lower = l; upper = u; dimensions = d }

-- a bound changed
module _ (l u : List Float) (d axis : ℕ) (v : Float) (e : length l ≡ 3) (h : axis < d) (k : d ≤ 3) where
  pub lower-changed : floats_of (box_with (set l axis v) u d) ≡ set (floats_of (box_with l u d)) axis v
  unfolding floats_of
  lower-changed = set_front l (take d u) d axis v (omega arith) h

  pub upper-changed : floats_of (box_with l (set u axis v) d) ≡ set (floats_of (box_with l u d)) (d + axis) v
  unfolding floats_of
  upper-changed = set-second l u d axis v (omega arith) h

-- a box read: p and q came to the front of its bounds l and u, which were whatever they were
pub box_read : (s p q l u : List Float) (d : ℕ) → length s ≡ box_width_lem d → p ≡ take d s → q ≡ take (length s - d) (drop d s) → floats_of (box_with (p ++ l) (q ++ u) d) ≡ s
unfolding floats_of
box_read s p q l u d e ep eq =
    let rest : q ≡ drop d s = eq ∙ take_all (length s - d) (drop d s) (simp length-drop (omega arith)) in
    rw (
      take_at p l d (ap length ep ∙ length-take-le d s (omega arith)),
      take_at q u d (ap length rest ∙ length-drop d s ∙ omega arith),
      ep,
      rest,
    )
    (take-append-drop d s)

-- a list that was lent in two parts, of which the first came back as f and the second as g
pub both-back : (s f g : List Float) (n : ℕ) → length f ≡ n → length s ≡ n + length g → put_mid n (length (f ++ drop n s) - n) (f ++ drop n s) g ≡ f ++ g
both-back s f g n e h =
    rw (take_at f (drop n s) n e, drop_at f (drop n s) n e, drop_of_length-le (drop n s) {i = length (f ++ drop n s) - n} (simp (length-append, length-drop) (omega (arith, e))), append-nil g)

-- a box written: its lower bounds and then its upper ones
pub box-written : (s f g : List Float) (b : Extents) → length b.lower ≡ 3 → length b.upper ≡ 3 → b.dimensions ≤ 3 → length s ≡ box_width_lem b.dimensions
    → f ≡ take b.dimensions b.lower → g ≡ take b.dimensions b.upper
    → put_mid b.dimensions (length (f ++ drop b.dimensions s) - b.dimensions) (f ++ drop b.dimensions s) g ≡ floats_of b
unfolding floats_of
box-written s f g b l u h e ef eg =
    let d = b.dimensions in
    let nf : length f ≡ d = ap length ef ∙ length-take-le d b.lower (omega arith) in
    let ng : length g ≡ d = ap length eg ∙ length-take-le d b.upper (omega arith) in
    both-back s f g d nf (omega arith) ∙ ap₂ (λ (x y : List Float). x ++ y) ef eg

-- ---- the extents, filled axis by axis: the loop's invariant, with its turn and its end
pub record Filled (cs : List Float) (d : ℕ) (rows : List ℕ) (l u : List Float) (a : ℕ) : Type 0 where
  pub most : a ≤ d
  pub lower-length : length l ≡ 3
  pub upper-length : length u ≡ 3
  pub lower-is : take a l ≡ map (lower_bound_lem d cs rows) (from 0 a)
  pub upper_is : take a u ≡ map (upper_bound_lem d cs rows) (from 0 a)

pub filled_none : (cs : List Float) (d : ℕ) (rows : List ℕ) (l u : List Float) → length l ≡ 3 → length u ≡ 3 → Filled cs d rows l u 0
unfolding from
filled_none cs d rows l u e f =
    record { most = omega arith; lower-length = e; upper-length = f; lower-is = refl; upper_is = refl }

module _ {cs : List Float} {d : ℕ} {rows : List ℕ} {l u : List Float} {a : ℕ} (f : Filled cs d rows l u a) where
  pub filled_more : (v w : Float) → a < d → d ≤ 3 → v ≡ lower_bound_lem d cs rows a → w ≡ upper_bound_lem d cs rows a → Filled cs d rows (set l a v) (set u a w) (a + 1)
  filled_more v w h k p q =
      record {
        most = omega arith;
        lower-length = length-set l a v ∙ f.lower-length;
        upper-length = length-set u a w ∙ f.upper-length;
        lower-is = fill_more (lower_bound_lem d cs rows) l a v (omega (arith, f.lower-length)) p f.lower-is;
        upper_is = fill_more (upper_bound_lem d cs rows) u a w (omega (arith, f.upper-length)) q f.upper_is;
      }

  pub filled-all : d ≤ a → floats_of (box_with l u d) ≡ extents d cs rows
  unfolding floats_of extents
  filled-all h =
      let e : a ≡ d = omega (arith, f.most) in
      let p : take d l ≡ map (lower_bound_lem d cs rows) (from 0 d) = subst (λ (k : ℕ). take k l ≡ map (lower_bound_lem d cs rows) (from 0 k)) e f.lower-is in
      let q : take d u ≡ map (upper_bound_lem d cs rows) (from 0 d) = subst (λ (k : ℕ). take k u ≡ map (upper_bound_lem d cs rows) (from 0 k)) e f.upper_is in
      ap₂ (λ (x y : List Float). x ++ y) p q
