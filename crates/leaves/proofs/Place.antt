-- The boxes of a list are lent from some place on, or as a part, and come back with a stretch written. Assumes nothing.
-- Holds: tail_all, lent-long, lent-back, tail-back
use mathlib.Core.Path.{◌≡◌, sym, ap, ◌∙◌}
use Prim.Native.Nat.{ℕ, ◌+◌, ◌-◌, ◌≤◌}
use native.Mathlib.Omega.{arith}
use mathlib.Core.List.{List, ◌++◌, append-nil}
use lib.ListN.{length, take, drop, length-drop, drop_of_length-le}
use lib.Seq.{take_all}
use borrow.Rule.Slice.PartMut.{put_mid}
use Rattle.lists.specs.Lists.{put}
use Rattle.lists.proofs.Put.{put-def, put-tail, mid_back, part-lent, part-back, length_part}

module _ {A : Type 0} where
  pub tail_all : (l : List A) (at : ℕ) → take (length l - at) (drop at l) ≡ drop at l
  tail_all l at = take_all (length l - at) (drop at l) (simp length-drop (omega arith))

  pub lent-long : (l : List A) (at n : ℕ) → at + n ≤ length l → length (take (at + n - at) (drop at l)) ≡ n
  lent-long l at n h = ap length (part-lent l at n) ∙ length_part l at n h

  -- the part begins at j, which is known by another name
  pub lent-back : (l xs ys : List A) (at j n : ℕ) → at ≡ j → at + n ≤ length l → length ys ≡ length (take (at + n - at) (drop at l)) → ys ≡ xs
      → put_mid at (at + n - at) l ys ≡ put l j xs
  lent-back l xs ys at j n is h m e = part-back l at n ys (m ∙ lent-long l at n h) ∙ ap (put l at) e ∙ ap (λ (i : ℕ). put l i xs) is

  pub tail-back : (l : List A) (at i : ℕ) (xs ys : List A) → at ≤ length l → length ys ≡ length (take (length l - at) (drop at l))
      → ys ≡ put (take (length l - at) (drop at l)) i xs → put_mid at (length l - at) l ys ≡ put l (at + i) xs
  tail-back l at i xs ys h m e =
      let n : length ys ≡ length l - at = m ∙ ap length (tail_all l at) ∙ length-drop at l in
      mid_back l at (length l - at) ys n ∙ put-def l at ys
      ∙ rw (drop_of_length-le l {i = at + length ys} (omega (arith, n)), append-nil)
      (ap (λ (z : List A). take at l ++ z) (e ∙ ap (λ (z : List A). put z i xs) (tail_all l at)) ∙ sym (put-tail l at i xs h))
