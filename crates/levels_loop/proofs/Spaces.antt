-- The room for the levels that are left: a level fits in it, and what is left of it is enough for the others. Assumes nothing.
-- Holds: part-less, coarse-fits, fine-fits, fine-level-points, fine-room, space-next
use mathlib.Core.Path.{◌≡◌}
use mathlib.Core.List.{List}
use Prim.Native.Nat.{ℕ, suc, ◌+◌, ◌*◌, ◌≤◌}
use native.Mathlib.Omega.{arith}
use native.Mathlib.Nat.{mul-le-mul, mul-le-mul_left, suc-mul}
use lib.ListN.{length}
use lib.Ieee.{Float}
use Rattle.definition.specs.Packed.{row_numbers, row_floats_lem}
use Rattle.fine_level.specs.Fine.{Fits, Room}
use Rattle.levels_loop.specs.After.{Space}

-- t parts of at most w each, after one of them of which y was taken
pub part-less : (x y w v t : ℕ) → y ≤ w → v ≤ w → x + y + t * v ≤ x + suc t * w
part-less x y w v t h g = omega (arith, suc-mul t w, mul-le-mul_left t g)

module _ {d q a t : ℕ} {P I D : List ℕ} {B : List Float} {L : List ℕ} {F : List Float} {W : List ℕ} {at first bat : ℕ} where
  -- the coarse level
  pub coarse-fits : Space d q a t P I D B L F W at first bat
      → (at + a ≤ length P) × (at + a ≤ length I) × (row_numbers * (first + 1) ≤ length D) × (row_floats_lem d * (first + 1) ≤ length B)
  coarse-fits s =
      let one : first + 1 ≤ first + t * (2 * a) + 1 = omega arith in
      (omega (arith, s.level_points, suc-mul t a), omega (arith, s.internals, suc-mul t a), omega (arith, s.domains), omega (arith, s.boxes, mul-le-mul_left (row_floats_lem d) one))

  -- a fine level
  pub fine-fits : Space d q a (suc t) P I D B L F W at first bat → Fits d q a I D B L at first bat
  fine-fits s =
      let rows : first + 2 * a ≤ first + suc t * (2 * a) + 1 = omega (arith, suc-mul t (2 * a)) in
      record {
        internals = omega (arith, s.internals, suc-mul (suc t) a);
        domains = omega (arith, s.domains, suc-mul t (2 * a));
        boxes = omega (arith, s.boxes, mul-le-mul_left (row_floats_lem d) rows);
        borrowed = omega (arith, s.borrowed, suc-mul t (2 * a * (q + 1)));
      }

  pub fine-level-points : Space d q a (suc t) P I D B L F W at first bat → at + 2 * a ≤ length P
  fine-level-points s = omega (arith, s.level_points, suc-mul (suc t) a, suc-mul t a)

  pub fine-room : Space d q a t P I D B L F W at first bat → Room q a F W
  fine-room s = record { floats = s.floats; wholes = s.wholes }

  -- what is left after a fine level with m leaves that borrow z rows, for b rows
  pub space-next : Space d q a (suc t) P I D B L F W at first bat → (b m z : ℕ) → b ≤ a → m ≤ 2 * a → z ≤ 2 * a * (q + 1)
      → (P₁ I₁ D₁ : List ℕ) (B₁ : List Float) (L₁ : List ℕ) (F₁ : List Float) (W₁ : List ℕ) → length P₁ ≡ length P → length I₁ ≡ length I → length D₁ ≡ length D
      → length B₁ ≡ length B → length L₁ ≡ length L → length F₁ ≡ length F → length W₁ ≡ length W
      → Space d q b t P₁ I₁ D₁ B₁ L₁ F₁ W₁ (at + a) (first + m) (bat + z)
  space-next s b m z hb hm hz P₁ I₁ D₁ B₁ L₁ F₁ W₁ eP eI eD eB eL eF eW =
      let rows : first + m + t * (2 * b) ≤ first + suc t * (2 * a) = part-less first m (2 * a) (2 * b) t hm (omega arith) in
      let rows1 : first + m + t * (2 * b) + 1 ≤ first + suc t * (2 * a) + 1 = omega arith in
      let each : 2 * b * (q + 1) ≤ 2 * a * (q + 1) = mul-le-mul (omega arith) (omega arith) in
      let each8 : 8 * b * (q + 1) ≤ 8 * a * (q + 1) = mul-le-mul (omega arith) (omega arith) in
      record {
        level_points = omega (arith, s.level_points, part-less at a a b (suc t) (omega arith) hb, eP);
        internals = omega (arith, s.internals, part-less at a a b (suc t) (omega arith) hb, eI);
        domains = omega (arith, s.domains, rows1, eD);
        boxes = omega (arith, s.boxes, mul-le-mul_left (row_floats_lem d) rows1, eB);
        borrowed = omega (arith, s.borrowed, part-less bat z (2 * a * (q + 1)) (2 * b * (q + 1)) t hz each, eL);
        floats = omega (arith, s.floats, eF);
        wholes = omega (arith, s.wholes, each8, eW);
      }
