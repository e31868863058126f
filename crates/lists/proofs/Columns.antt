-- Columns of w entries each, one after the other in a list. Assumes nothing.
-- Holds: columns-append, columns-next, columns-put, columns-join
use mathlib.Core.Path.{◌≡◌, refl, sym, ap, ap₂, ◌∙◌}
use Prim.Native.Nat.{ℕ, zero, suc, ◌+◌, ◌-◌, ◌*◌, ◌≤◌, ◌<◌}
use native.Mathlib.Nat.{add-zero, add-suc, suc-add, zero-add, mul-suc, mul-le-mul_left}
use native.Mathlib.Numerals.{add-one}
use native.Mathlib.Omega.{arith}
use mathlib.Core.List.{List, [], ◌∷◌, ◌++◌}
use lib.ListN.{length, length-append}
use Rattle.lists.specs.Lists.{put, part}
use Rattle.lists.specs.Columns.{columns}
use Rattle.lists.proofs.Put.{part-put-in, part-put-before, part-first, part-second}

pub columns-append : {A : Type 0} (w : ℕ) (l : List A) (h n m : ℕ) → columns w l h (n + m) ≡ columns w l h n ++ columns w l (h + n) m
unfolding columns
columns-append w l h zero m = rw (zero-add m, add-zero h)
columns-append w l h (suc n) m = rw (suc-add n m, columns-append w l (suc h) n m, suc-add h n, add-suc h n)

module _ {A : Type 0} (w : ℕ) (l : List A) where
  pub columns-next : (h t : ℕ) → h < t → columns w l h (t - h) ≡ part l (w * h) w ∷ columns w l (h + 1) (t - (h + 1))
  unfolding columns
  columns-next h t g =
      let e : t - h ≡ suc (t - (h + 1)) = omega arith in
      rw (e, add-one h)

  -- what is written past the columns leaves them alone
  pub columns-put : (k : ℕ) (xs : List A) (h n : ℕ) → k ≤ length l → w * (h + n) ≤ k → columns w (put l k xs) h n ≡ columns w l h n
  unfolding columns
  columns-put k xs h zero f g = refl
  columns-put k xs h (suc n) f g =
      let a : w * suc h ≤ w * (h + suc n) = mul-le-mul_left w (omega arith) in
      let z : suc h + n ≡ h + suc n = omega arith in
      let b : w * (suc h + n) ≤ k = rw z g in
      rw (part-put-before l k xs (w * h) w f (omega (arith, mul-suc w h)), columns-put k xs (suc h) n f b)

  -- two columns that are written at the end join them
  columns-two : (t : ℕ) (a b : List A) → length a ≡ w → length b ≡ w → w * t ≤ length l → columns w (put l (w * t) (a ++ b)) t 2 ≡ a ∷ b ∷ []
  unfolding columns
  columns-two t a b ea eb f =
      let n : length (a ++ b) ≡ w + w = length-append a b ∙ omega arith in
      let p : part (put l (w * t) (a ++ b)) (w * t) w ≡ a =
      ap (λ (z : ℕ). part (put l (w * t) (a ++ b)) z w) (sym (add-zero (w * t)))
      ∙ part-put-in l (w * t) (a ++ b) 0 w f (omega arith) ∙ part-first a b w ea in
      let q : part (put l (w * t) (a ++ b)) (w * suc t) w ≡ b =
      ap (λ (z : ℕ). part (put l (w * t) (a ++ b)) z w) (mul-suc w t)
      ∙ part-put-in l (w * t) (a ++ b) w w f (omega arith) ∙ part-second a b w w ea eb in
      rw (p, q)

  pub columns-join : (h t : ℕ) (a b : List A) → length a ≡ w → length b ≡ w → h ≤ t → w * t ≤ length l
      → columns w (put l (w * t) (a ++ b)) h (t + 2 - h) ≡ columns w l h (t - h) ++ a ∷ b ∷ []
  columns-join h t a b ea eb g f =
      let m = t - h in
      let e : t + 2 - h ≡ m + 2 = omega arith in
      let d : h + m ≡ t = omega arith in
      ap (columns w (put l (w * t) (a ++ b)) h) e
      ∙ columns-append w (put l (w * t) (a ++ b)) h m 2
      ∙ ap₂ (λ (x y : List (List A)). x ++ y) (columns-put (w * t) (a ++ b) h m f (rw d (omega arith))) (rw d (columns-two t a b ea eb f))
