-- What a leaf borrows: none of its own rows, and no row twice. Assumes nothing.
use mathlib.Core.Path.{◌≡◌}
use mathlib.Core.Bool.{not}
use mathlib.Core.List.{List, Memᴰ}
use Prim.Native.Nat.{ℕ, ◌<◌}
use native.Mathlib.Omega.{arith}
use native.Mathlib.Decide.{dec_lt}
use borrow.Author.Tests.{not-true}
use Rattle.lists.specs.Lists.{member, any_of}
use Rattle.lists.proofs.Tests.{clash, and-fst}
use Rattle.lists.proofs.Members.{keep-mem, mem-member}
use Rattle.lists.specs.Times.{times, Once}
use Rattle.lists.proofs.Times.{once-keep, times-mem}
use lib.Ieee.{Float}
use Rattle.definition.specs.Overlaps.{paired, borrowed_by}

module _ (d : ℕ) (cs : List Float) (neighbours : ℕ) (active own : List ℕ) where
  abbrev borrowed : List ℕ
  borrowed = borrowed_by d cs neighbours active own

  -- a borrowed row is not one of the leaf's own
  borrowed-foreign : (j : ℕ) → Memᴰ j borrowed → Memᴰ j own → ⊥
  unfolding borrowed_by
  borrowed-foreign j m i =
      clash (mem-member own j i) (not-true (member j own) (and-fst (not (member j own)) (any_of (λ i. paired d cs neighbours active i j) own) (keep-mem _ _ m).1))

  -- THE LAWS, by counts: a leaf borrows none of its own rows
  pub borrows_not_own : (r : ℕ) → 0 < times r own → times r (borrowed_by d cs neighbours active own) ≡ 0
  borrows_not_own r m = elim (dec_lt 0 (times r borrowed)) [
    | yes k ↦ absurd (borrowed-foreign r (times-mem borrowed r k) (times-mem own r m))
    | no k ↦ omega arith
  ]

  -- and no row twice
  pub borrows_once : Once active → Once (borrowed_by d cs neighbours active own)
  unfolding borrowed_by
  borrows_once o = once-keep _ active o
