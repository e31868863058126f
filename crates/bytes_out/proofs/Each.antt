-- What is appended of a list's elements, one after the other. Assumes nothing.
use mathlib.Core.Path.{◌≡◌, refl}
use Prim.Native.Nat.{ℕ, ◌+◌, ◌≤◌, ◌<◌}
use mathlib.Core.List.{List, [], ◌++◌, map, map-append}
use lib.ListN.{length, get_or, take, drop, take-append-drop}
use lib.Seq.{take_all}
use Rattle.lists.specs.Lists.{joined}
use Rattle.lists.proofs.Joined.{joined-append, joined-map-more}
use Rattle.bytes_out.specs.declared.writer.Writer.{Writer}
use Rattle.bytes_out.specs.Writing.{Takes}
use Rattle.bytes_out.proofs.Writing.{takes_as, takes_first}

module _ {A : Type 0} (f : A → List ℕ) where
  pub each_none : (xs : List A) → joined (map f (take 0 xs)) ≡ []
  unfolding joined
  each_none xs = refl

  pub each_all : (xs : List A) (i : ℕ) → length xs ≤ i → joined (map f (take i xs)) ≡ joined (map f xs)
  each_all xs i h = rw (take_all i xs h)

  halves : (xs : List A) (i : ℕ) → joined (map f xs) ≡ joined (map f (take i xs)) ++ joined (map f (drop i xs))
  halves xs i = rw (← joined-append (map f (take i xs)) (map f (drop i xs)), ← map-append f (take i xs) (drop i xs), take-append-drop i xs)

  -- where there is room for all, there is room for the first i + 1
  pub each_room : {w : Writer} (xs : List A) (i : ℕ) (d : A) → i < length xs → Takes w (joined (map f xs)) → Takes w (joined (map f (take i xs)) ++ f (get_or xs i d))
  each_room xs i d h t = takes_as (joined-map-more f xs i d h) (takes_first _ _ (takes_as (halves xs (i + 1)) t))
