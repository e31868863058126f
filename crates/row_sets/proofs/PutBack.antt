-- Rows that are taken out of a set can be marked again, and then the set is as it was. Assumes nothing.
-- Holds: markable, taken-markable, passed-markable, put_back
use mathlib.Core.Path.{◌≡◌, refl, sym, ◌∙◌}
use mathlib.Core.Bool.{Bool, true, false, ◌||◌}
use Prim.Native.Nat.{ℕ, ◌*◌, ◌<◌}
use native.Mathlib.Omega.{arith}
use mathlib.Core.List.{List}
use lib.ListN.{length}
use Rattle.lists.specs.Lists.{member}
use Rattle.lists.specs.Ascends.{All, Ascends}
use Rattle.lists.proofs.All.{all-mem, all-of}
use Rattle.tree_tests.specs.InTurn.{without, in_order_lem}
use Rattle.tree_tests.proofs.Rows.{in-order-ascends, in-order-in}
use Rattle.tree_tests.proofs.Sets as sets
use Rattle.tree_tests.proofs.Sets.{without-mem}
use Rattle.marks.specs.Bits.{bit_at, Marked}
use Rattle.marks.proofs.Marks.{marked-same, unmarked-bit, marked-within, held, bits-marked}
use Rattle.row_sets.specs.Markable.{Markable}

module _ (rows : List ℕ) {ws : List ℕ} (ascends : Ascends rows) (within : All (λ x. x < 64 * length ws) rows) where
  -- rows that are not in the set can be marked
  pub markable : {p : ℕ → Bool} → Marked ws p → All (λ x. p x ≡ false) rows → Markable rows ws
  markable {p} m out =
      record {
        ascends = ascends;
        within = within;
        clear = all-of (λ x. bit_at ws x ≡ 0) rows (λ x i. unmarked-bit m x (all-mem (λ y. y < 64 * length ws) rows within x i) (all-mem (λ y. p y ≡ false) rows out x i));
      }

  -- and those that are taken out of it are not
  pub taken-markable : (q : ℕ → Bool) → Marked ws (without rows q) → Markable rows ws
  taken-markable q m = markable m (all-of (λ x. without rows q x ≡ false) rows (without-mem rows q))

-- rows that passed against a set of words can be marked in as many words that mark none
pub passed-markable : (rows ws new : List ℕ) (r : Bool) → length new ≡ length ws → ((p : ℕ → Bool) → Marked ws p → r ≡ in_order_lem 0 p rows) → r ≡ true
    → Marked new (λ x. false) → Markable rows new
passed-markable rows ws new r e asked t m =
    let g : in_order_lem 0 (held ws) rows ≡ true = sym (asked (held ws) (bits-marked ws)) ∙ t in
    markable rows (in-order-ascends 0 (held ws) rows g)
    (all-of (λ i. i < 64 * length new) rows (λ x i. omega (arith, marked-within (bits-marked ws) x (in-order-in 0 (held ws) rows g x i))))
    m (all-of (λ x. ◌≡◌ {A = Bool} false false) rows (λ x i. refl))

-- the set without its rows, and with them again
pub put_back : (rows : List ℕ) (q : ℕ → Bool) {ws : List ℕ} → All (λ x. q x ≡ true) rows → Marked ws (λ x. without rows q x || member x rows) → Marked ws q
put_back rows q all m = marked-same m q (sets.put_back rows q (all-mem (λ y. q y ≡ true) rows all))
