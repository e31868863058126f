-- The level points in two parts: the active rows end the first, and the rows that are sent begin the second. Assumes nothing.
use mathlib.Core.Path.{◌≡◌, ap, ◌∙◌}
use mathlib.Core.List.{List, ◌++◌}
use Prim.Native.Nat.{ℕ, ◌+◌, ◌-◌}
use native.Mathlib.Omega.{arith}
use lib.ListN.{length, take, drop}
use Rattle.lists.specs.Lists.{part, put}
use Rattle.lists.proofs.Put.{part-lent, part-take, mid_back}

pub front-part : (l front : List ℕ) (from a : ℕ) → front ≡ take (from + a) l → length front ≡ from + a → take (length front - from) (drop from front) ≡ part l from a
front-part l front from a f n =
    ap (λ (k : ℕ). take (k - from) (drop from front)) n ∙ part-lent front from a ∙ ap (λ (z : List ℕ). part z from a) f ∙ part-take l (from + a) from a (omega arith)

pub sent-back : (l front sent back : List ℕ) (start size : ℕ) → front ≡ take start l → back ≡ drop start l → length sent ≡ size
    → front ++ (sent ++ drop size back) ≡ put l start sent
sent-back l front sent back start size f b e = rw (f, b) (mid_back l start size sent e)
