-- Leaves that share out the active rows hold each of them, and no row is in two. Assumes nothing.
use mathlib.Core.Path.{◌≡◌, sym, subst}
use mathlib.Core.List.{List, [], Memᴰ}
use Prim.Native.Nat.{ℕ, ◌≤◌, ◌<◌}
use native.Mathlib.Omega.{arith}
use native.Mathlib.Decide.{dec_lt}
use lib.Dec.{eqb}
use lib.ListN.{length, get_or}
use Rattle.lists.specs.Lists.{joined}
use Rattle.lists.specs.Ascends.{Ascends}
use Rattle.lists.proofs.Members.{mem-at, mem_index, joined-mem, mem-joined}
use Rattle.lists.specs.Times.{times}
use Rattle.lists.proofs.Ascends.{ascends-once}
use Rattle.lists.proofs.Joined.{two-lists}
use Rattle.lists.proofs.Same.{same_mem}
use Rattle.overlap_owners.specs.Own.{SharedOut}

module _ (active : List ℕ) (own : List (List ℕ)) (s : SharedOut active own) where
  pub shared-active : (l : ℕ) → l < length own → (row : ℕ) → Memᴰ row (get_or own l []) → Memᴰ row active
  shared-active l h row i = same_mem (joined own) active s row (mem-joined own (mem-at own l [] h) i)

  pub shared-held : (row : ℕ) → Memᴰ row active → (l : ℕ) × (l < length own) × Memᴰ row (get_or own l [])
  shared-held row i =
      let r = joined-mem own (same_mem active (joined own) (λ p. sym (s p)) row i) in
      let u = mem_index own [] r.1 in
      (u.0, u.1, subst (λ (z : List ℕ). Memᴰ row z) (sym u.2) r.2)

  pub shared-apart : Ascends active → (l k row : ℕ) → l < length own → k < length own → Memᴰ row (get_or own l []) → Memᴰ row (get_or own k []) → l ≡ k
  shared-apart up l k row h g a b = go (dec_lt l k) (dec_lt k l)
    where
      once : times row (joined own) ≤ 1
      once = omega (arith, ascends-once active up row, s (λ x. eqb x row))

      go : Dec (l < k) → Dec (k < l) → l ≡ k
      go (yes y) e = absurd (omega (arith, once, two-lists row own l k y g a b))
      go (no n) (yes y) = absurd (omega (arith, once, two-lists row own k l y h b a))
      go (no n) (no o) = omega arith
