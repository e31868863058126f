-- The counts per level that a build reports: each level's own count, and 0 beyond the last. Assumes nothing.
-- Holds: no_level, counts-length, counts-before, counts-put, level-count
use mathlib.Core.Path.{◌≡◌, refl, sym, ap, ◌∙◌}
use mathlib.Core.Logic.{⊎_elim}
use mathlib.Core.List.{List, [], ◌∷◌, ◌++◌, map}
use Prim.Native.Nat.{ℕ, zero, suc, ◌+◌, ◌-◌, ◌≤◌, ◌<◌}
use native.Mathlib.Omega.{arith}
use lib.ListN.{length, get_or, take, drop, replicate, length-map, length-append, length-take, get_or-append, get_or-eq_default}
use lib.Seq.{get_or-append-add, get_or-take, take-take, take-append-le, length-take-le}
use Rattle.lists.specs.Lists.{put}
use Rattle.lists.proofs.Tests.{le-or-lt}
use Rattle.lists.proofs.Map.{take-map, get_d-map-in}
use Rattle.lists.proofs.Put.{put-zero}
use Rattle.lists.proofs.Take.{take-replicate}
use Rattle.definition.specs.Tree.{Level, most_fine}
use Rattle.definition.specs.Packed.{per_level}

-- what stands past the levels
abbrev pub no_level : Level
no_level = record { points = []; leaves = [] }

-- the zeros past the levels
zero-at : (n i : ℕ) → ◌≡◌ {A = ℕ} (get_or (replicate n 0) i 0) 0
zero-at zero i = refl
zero-at (suc n) zero = refl
zero-at (suc n) (suc i) = zero-at n i

-- numbers at the front of n zeros
front : (n m : ℕ) (xs : List ℕ) → length xs ≤ n → n ≤ m → xs ++ drop (length xs) (replicate n 0) ≡ take n (xs ++ replicate m 0)
front n m [] h g = sym (take-replicate n m 0 g)
front zero m (x ∷ xs) h g = absurd (omega arith)
front (suc n) m (x ∷ xs) h g = ap (λ (l : List ℕ). x ∷ l) (front n m xs (omega arith) (omega arith))

abbrev most : ℕ
most = suc most_fine

module _ (f : Level → ℕ) (ls : List Level) where
  abbrev padded : List ℕ
  padded = map f ls ++ replicate most 0

  pub counts-length : length (per_level f ls) ≡ suc most_fine
  unfolding per_level
  counts-length = length-take-le most padded (omega (arith, length-append (map f ls) (replicate most 0)))

  module _ (few : length ls ≤ suc most_fine) where
    pub counts-before : (l : ℕ) → l ≤ length ls → take l (per_level f ls) ≡ map f (take l ls)
    unfolding per_level
    counts-before l h =
        let m = length-map ls f in
        take-take l most padded (omega arith) ∙ take-append-le l (map f ls) (replicate most 0) (omega arith) ∙ take-map f l ls

    -- the counts put to the front of as many zeros, as code leaves them that counts level by level
    pub counts-put : put (replicate (suc most_fine) 0) 0 (map f ls) ≡ per_level f ls
    unfolding per_level
    counts-put = put-zero (replicate most 0) (map f ls) ∙ front most most (map f ls) (omega (arith, length-map ls f)) (omega arith)

    -- the entry of a level, and 0 beyond the last
    module _ (none : f no_level ≡ 0) where
      past : (l : ℕ) → length ls ≤ l → f (get_or ls l no_level) ≡ 0
      past l h = ap f (get_or-eq_default ls no_level h) ∙ none

      pub level-count : (l : ℕ) → get_or (per_level f ls) l 0 ≡ f (get_or ls l no_level)
      unfolding per_level
      level-count l =
          let m = length-map ls f in
          ⊎_elim
          (λ (h : length ls ≤ l).
          ⊎_elim
          (λ (g : most ≤ l). get_or-eq_default (take most padded) 0 (omega (arith, length-take most padded)) ∙ sym (past l h))
          (λ (g : l < most).
          let e : l ≡ length (map f ls) + (l - length (map f ls)) = omega arith in
          get_or-take most padded l 0 g ∙ ap (λ (i : ℕ). get_or padded i 0) e ∙ get_or-append-add (map f ls) (replicate most 0) (l - length (map f ls)) 0
          ∙ zero-at most (l - length (map f ls)) ∙ sym (past l h))
          (le-or-lt most l))
          (λ (h : l < length ls).
          get_or-take most padded l 0 (omega arith) ∙ get_or-append (map f ls) (replicate most 0) 0 l (omega arith) ∙ get_d-map-in f ls l no_level 0 h)
          (le-or-lt (length ls) l)
