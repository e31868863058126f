-- A part of a list that was lent, `&mut l[at..at + n]` or `&mut l[at..e]`, and comes back with one value throughout. Assumes nothing.
use mathlib.Core.Path.{◌≡◌, ap, ◌∙◌}
use Prim.Native.Nat.{ℕ, ◌+◌, ◌-◌, ◌≤◌}
use mathlib.Core.List.{List}
use native.Mathlib.Omega.{arith}
use lib.ListN.{length, take, drop, replicate, length-replicate}
use borrow.Rule.Slice.PartMut.{put_mid}
use Rattle.lists.specs.Lists.{put}
use Rattle.lists.proofs.Put.{part-lent, part-back, length_part}

module _ {A : Type 0} (l : List A) (at n : ℕ) where
  pub fill-back : (x : A) {ys : List A} → at + n ≤ length l → ys ≡ replicate (length (take (at + n - at) (drop at l))) x
      → put_mid at (at + n - at) l ys ≡ put l at (replicate n x)
  fill-back x {ys} h e =
      let m : length (take (at + n - at) (drop at l)) ≡ n = ap length (part-lent l at n) ∙ length_part l at n h in
      let f : ys ≡ replicate n x = e ∙ ap (λ (k : ℕ). replicate k x) m in
      part-back l at n ys (ap length f ∙ length-replicate n x) ∙ ap (put l at) f

-- the same, with its end in place of its length
pub fill_to : {A : Type 0} (l : List A) (at e : ℕ) (x : A) {ys : List A} → at ≤ e → e ≤ length l → ys ≡ replicate (length (take (e - at) (drop at l))) x
    → put_mid at (e - at) l ys ≡ put l at (replicate (e - at) x)
fill_to {A} l at e x {ys} h g p =
    let k : at + (e - at) - at ≡ e - at = omega arith in
    let back : put_mid at (at + (e - at) - at) l ys ≡ put l at (replicate (e - at) x) = fill-back l at (e - at) x (omega arith) (rw k p) in
    rw k at back
