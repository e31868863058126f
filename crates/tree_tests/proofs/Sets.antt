-- Sets of rows without the rows of a list: one row after the other taken out, and the rows put back. Assumes nothing.
-- Holds: without-nil, without_other, without-mem, without_in, put_back, without_more, without_all
use mathlib.Core.Path.{◌≡◌, refl, sym, ◌∙◌}
use Prim.Native.Nat.{ℕ, ◌+◌, ◌≤◌, ◌<◌}
use mathlib.Core.Bool.{Bool, true, false, not, ◌&&◌, ◌||◌, and-true, and-false, or-false, or-true}
use mathlib.Core.List.{List, [], Memᴰ}
use lib.ListN.{length, get_or, take}
use lib.Seq.{take_all}
use lib.Dec.{eqb}
use Rattle.lists.specs.Lists.{member}
use Rattle.lists.proofs.Tests.{and-fst}
use Rattle.lists.proofs.Members.{member-mem, mem-member, member-nil, member-more}
use Rattle.tree_tests.specs.InTurn.{without}

-- ---- a set without rows
pub without-nil : (p : ℕ → Bool) (j : ℕ) → without [] p j ≡ p j
without-nil p j = rw (member-nil j) (and-true (p j))

-- a row that is no member stays as it was
pub without_other : (rows : List ℕ) (p : ℕ → Bool) (j : ℕ) → member j rows ≡ false → without rows p j ≡ p j
without_other rows p j h = rw h (and-true (p j))

-- none of the rows is left
pub without-mem : (rows : List ℕ) (p : ℕ → Bool) (j : ℕ) → Memᴰ j rows → without rows p j ≡ false
without-mem rows p j m = rw (mem-member rows j m) (and-false (p j))

-- what is left was in the set
pub without_in : (rows : List ℕ) (p : ℕ → Bool) (j : ℕ) → without rows p j ≡ true → p j ≡ true
without_in rows p j e = and-fst (p j) (not (member j rows)) e

-- the rows that were taken out are put back
pub put_back : (rows : List ℕ) (p : ℕ → Bool) → ((j : ℕ) → Memᴰ j rows → p j ≡ true) → (j : ℕ) → without rows p j || member j rows ≡ p j
put_back rows p h j = go (member j rows) refl
  where
    go : (b : Bool) → member j rows ≡ b → p j && not b || b ≡ p j
    go true e = or-true (p j && false) ∙ sym (h j (member-mem rows j e))
    go false e = or-false (p j && true) ∙ and-true (p j)

-- ---- the rows of a list up to one of them
module _ (rows : List ℕ) (i x : ℕ) (h : i < length rows) (e : x ≡ get_or rows i 0) where
  -- one row more is taken out of the set
  pub without_more : (p : ℕ → Bool) (j : ℕ) → without (take i rows) p j && not (eqb j x) ≡ without (take (i + 1) rows) p j
  without_more p j = rw (member-more rows i x h e j) (go (p j) (member j (take i rows)) (eqb j x))
    where
      go : (a b c : Bool) → a && not b && not c ≡ a && not (b || c)
      go false b c = refl
      go true true c = refl
      go true false c = refl

-- all of them are
pub without_all : (rows : List ℕ) (i : ℕ) → length rows ≤ i → (p : ℕ → Bool) (j : ℕ) → without (take i rows) p j ≡ without rows p j
without_all rows i h p j = rw (take_all i rows h)
