-- The live slots listed one by one: what is written after i of the slots, at the start, at each turn and at the end. Assumes nothing.
-- Holds: fewer-below, Listing, starts, turn-fits, turn-live, turn-retired, ends
use mathlib.Core.Path.{◌≡◌, refl, sym, ap, ◌∙◌}
use mathlib.Core.Bool.{Bool}
use mathlib.Core.List.{List, [], ◌∷◌, ◌++◌}
use Prim.Native.Nat.{ℕ, ◌+◌, ◌-◌, ◌≤◌, ◌<◌}
use native.Mathlib.Omega.{arith}
use borrow.Author.Tests.{eq-eqb, ne_eqb}
use lib.ListN.{length, get_or, set, length-append}
use Rattle.lists.specs.Lists.{put, keep, from}
use Rattle.lists.proofs.Count.{keep_append, keep-in, keep_out}
use Rattle.lists.proofs.From.{below_suc, from-append}
use Rattle.lists.proofs.Put.{put-nil, put-snoc, length-put}
use Rattle.definition.specs.Table.{flagged}

-- of fewer numbers no more are kept
pub fewer-below : (p : ℕ → Bool) (i n : ℕ) → i ≤ n → length (keep p (from 0 i)) ≤ length (keep p (from 0 n))
fewer-below p i n h =
    let m : n ≡ i + (n - i) = omega arith in
    let e : keep p (from 0 n) ≡ keep p (from 0 i) ++ keep p (from (0 + i) (n - i)) =
    ap (λ (k : ℕ). keep p (from 0 k)) m ∙ ap (keep p) (from-append 0 i (n - i)) ∙ keep_append p (from 0 i) (from (0 + i) (n - i)) in
    omega (arith, ap length e, length-append (keep p (from 0 i)) (keep p (from (0 + i) (n - i))))

-- after i slots, n of them live: they stand at the front
pub record Listing (flags before rows : List ℕ) (i n : ℕ) : Type 0 where
  pub written : rows ≡ put before 0 (keep (flagged flags) (from 0 i))
  pub many : n ≡ length (keep (flagged flags) (from 0 i))

pub starts : (flags before : List ℕ) → Listing flags before before 0 0
unfolding keep from
starts flags before = record { written = sym (put-nil before 0); many = refl }

module _ (flags before rows : List ℕ) (slots i n : ℕ) (fits : length (keep (flagged flags) (from 0 slots)) ≤ length before) (below : i < slots) (l : Listing flags before rows i n) where
  module _ (h : get_or flags i 0 ≡ 0 → ⊥) where
    one_more : keep (flagged flags) (from 0 (i + 1)) ≡ keep (flagged flags) (from 0 i) ++ i ∷ []
    one_more = ap (keep (flagged flags)) (below_suc i) ∙ keep-in (flagged flags) (from 0 i) i (simp (ne_eqb (get_or flags i 0) 0 h))

    room : n < length before
    room = omega (arith, fits, l.many, ap length one_more, length-append (keep (flagged flags) (from 0 i)) (i ∷ []), fewer-below (flagged flags) (i + 1) slots (omega arith))

    pub turn-fits : n < length rows
    turn-fits = omega (arith, room, ap length l.written ∙ length-put before 0 (keep (flagged flags) (from 0 i)) (omega (arith, l.many, room)))

    pub turn-live : Listing flags before (set rows n i) (i + 1) (n + 1)
    turn-live = record {
      written = rw l.written (put-snoc before 0 (keep (flagged flags) (from 0 i)) i n (omega (arith, l.many)) room ∙ ap (put before 0) (sym one_more));
      many = omega (arith, l.many, ap length one_more, length-append (keep (flagged flags) (from 0 i)) (i ∷ []));
    }

  pub turn-retired : get_or flags i 0 ≡ 0 → Listing flags before rows (i + 1) n
  turn-retired z =
      let same : keep (flagged flags) (from 0 (i + 1)) ≡ keep (flagged flags) (from 0 i) = ap (keep (flagged flags)) (below_suc i) ∙ keep_out (flagged flags) (from 0 i) i (simp (eq-eqb (get_or flags i 0) 0 z)) in
      record { written = l.written ∙ ap (put before 0) (sym same); many = l.many ∙ ap length (sym same) }

pub ends : (flags before rows : List ℕ) (slots i n : ℕ) → i ≡ slots → Listing flags before rows i n → rows ≡ put before 0 (keep (flagged flags) (from 0 slots))
ends flags before rows slots i n e l = l.written ∙ ap (λ (k : ℕ). put before 0 (keep (flagged flags) (from 0 k))) e
