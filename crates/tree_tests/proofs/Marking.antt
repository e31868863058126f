-- The loop that puts rows into a set: the rows ascend and none of them is in it. Assumes nothing.
-- Holds: Fresh, mark-fresh, mark-start, mark-step, mark-end
use mathlib.Core.Path.{◌≡◌, sym, subst}
use Prim.Native.Nat.{ℕ, ◌+◌, ◌≤◌, ◌<◌}
use native.Mathlib.Omega.{arith}
use mathlib.Core.Bool.{Bool, false, ◌||◌, or-false, or_assoc}
use mathlib.Core.List.{List, [], Memᴰ}
use lib.ListN.{length, get_or, take}
use lib.Seq.{take_all}
use lib.Dec.{eqb}
use Rattle.lists.specs.Lists.{member}
use Rattle.lists.specs.Ascends.{Ascends}
use Rattle.lists.proofs.Ascends.{ascends-at}
use Rattle.lists.proofs.Members.{mem-at, not-member, each-before, member-nil, member-more}

-- what the rows have to be
pub record Fresh (p : ℕ → Bool) (rows : List ℕ) : Type 0 where
  pub ascends : Ascends rows
  pub none : (x : ℕ) → Memᴰ x rows → p x ≡ false

-- the row at i is not in the set after i rows
pub mark-fresh : {p : ℕ → Bool} {rows : List ℕ} → Fresh p rows → (i x : ℕ) → i < length rows → x ≡ get_or rows i 0 → p x || member x (take i rows) ≡ false
mark-fresh {p} {rows} f i x h e =
    let a : p x ≡ false = f.none x (subst (λ (y : ℕ). Memᴰ y rows) (sym e) (mem-at rows i 0 h)) in
    rw a (not-member (take i rows) x (λ m. omega (arith, each-before rows i 0 h (λ y. y < x) (λ j k. omega (arith, e, ascends-at rows j i f.ascends k h)) x m)))

-- ---- the set after i rows: none, one row more, and all of them
pub mark-start : (p : ℕ → Bool) (j : ℕ) → p j || member j [] ≡ p j
mark-start p j = rw (member-nil j) (or-false (p j))

pub mark-step : (rows : List ℕ) (i x : ℕ) → i < length rows → x ≡ get_or rows i 0 → (p : ℕ → Bool) (j : ℕ)
    → p j || member j (take i rows) || eqb j x ≡ p j || member j (take (i + 1) rows)
mark-step rows i x h e p j = rw (member-more rows i x h e j) (or_assoc (p j) (member j (take i rows)) (eqb j x))

pub mark-end : (rows : List ℕ) (i : ℕ) → length rows ≤ i → (p : ℕ → Bool) (j : ℕ) → p j || member j (take i rows) ≡ p j || member j rows
mark-end rows i h p j = rw (take_all i rows h)
