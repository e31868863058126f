-- A domain's own rows taken out of two sets, its borrowed rows asked for, and the own rows put back: one law for each way out. Assumes nothing.
-- Holds: bit_in, inside-sets, sets-inside, own-fail, own-markable, borrowed-fail, rows-good
use mathlib.Core.Path.{◌≡◌, refl, sym, ◌∙◌}
use mathlib.Core.Bool.{Bool, true, false, ◌||◌, and-false}
use Prim.Native.Nat.{ℕ, ◌*◌, ◌<◌}
use native.Mathlib.Omega.{arith}
use mathlib.Core.List.{List}
use lib.ListN.{length}
use borrow.Author.Tests.{eq-eqb}
use Rattle.lists.specs.Lists.{member}
use Rattle.lists.proofs.Tests.{clash, and-of}
use Rattle.lists.proofs.All.{all-of}
use Rattle.tree_tests.specs.InTurn.{without, in_order_lem}
use Rattle.tree_tests.proofs.Rows.{in-order-ascends, in-order-in}
use Rattle.marks.specs.Bits.{bit_at, Marked}
use Rattle.marks.proofs.Marks.{marked-bit, marked-within, held, bits-marked, marked-held}
use Rattle.row_sets.specs.Markable.{Markable}
use Rattle.row_sets.proofs.PutBack.{taken-markable, put_back}
use Rattle.row_sets.specs.Tested.{LeftIsListed, RowsPassed}

-- a row whose bit is 1 is in the set
pub bit_in : {ws : List ℕ} {p : ℕ → Bool} → Marked ws p → (i : ℕ) → bit_at ws i ≡ 1 → p i ≡ true
bit_in {ws} m i e = sym (marked-held m i) ∙ eq-eqb (bit_at ws i) 1 e

-- what is left is listed
pub inside-sets : {left listed : List ℕ} {p q : ℕ → Bool} → LeftIsListed left listed → Marked left p → Marked listed q → (x : ℕ) → p x ≡ true → q x ≡ true
inside-sets s m n x e = bit_in n x (s.among x (marked-bit m x e))

-- and so for the sets that words hold
pub sets-inside : {left listed : List ℕ} {p q : ℕ → Bool} → length left ≡ length listed → Marked left p → Marked listed q → ((x : ℕ) → p x ≡ true → q x ≡ true) → LeftIsListed left listed
sets-inside l m n f = record { same_length = l; among = λ x e. marked-bit n x (f x (bit_in m x e)) }

module _ (own left₀ listed₀ left listed : List ℕ) (r : Bool) (inside : LeftIsListed left₀ listed₀)
    (took : (p q : ℕ → Bool) → Marked left₀ p → Marked listed₀ q → (r ≡ in_order_lem 0 p own) × (r ≡ true → Marked left (without own p) × Marked listed (without own q))) where
  -- the own rows do not pass
  pub own-fail : r ≡ false → (borrowed : List ℕ) (p q : ℕ → Bool) → Marked left₀ p → Marked listed₀ q → RowsPassed own borrowed p q left listed false
  own-fail e borrowed p q m n =
      let f : in_order_lem 0 p own ≡ false = sym (took p q m n).0 ∙ e in
      record { tests = rw f; left_set = λ t. clash t refl; listed_set = λ t. clash t refl }

  module _ (t : r ≡ true) where
    -- they pass, and can be marked again
    own-pass : (p : ℕ → Bool) → Marked left₀ p → in_order_lem 0 p own ≡ true
    own-pass p m = sym (took p (held listed₀) m (bits-marked listed₀)).0 ∙ t

    pub own-markable : length listed ≡ length listed₀ → Markable own listed
    own-markable l =
        let g = own-pass (held left₀) (bits-marked left₀) in
        taken-markable own (in-order-ascends 0 (held left₀) own g)
        (all-of (λ x. x < 64 * length listed) own (λ x i. omega (arith, inside.same_length, marked-within (bits-marked left₀) x (in-order-in 0 (held left₀) own g x i))))
        (held listed₀) ((took (held left₀) (held listed₀) (bits-marked left₀) (bits-marked listed₀)).1 t).1

    module _ (borrowed : List ℕ) (b : Bool) (asked : (q : ℕ → Bool) → Marked listed q → b ≡ in_order_lem 0 q borrowed) where
      borrowed-test : (p q : ℕ → Bool) → Marked left₀ p → Marked listed₀ q → b ≡ in_order_lem 0 (without own q) borrowed
      borrowed-test p q m n = asked (without own q) ((took p q m n).1 t).1

      -- the borrowed rows do not
      pub borrowed-fail : b ≡ false → (p q : ℕ → Bool) → Marked left₀ p → Marked listed₀ q → RowsPassed own borrowed p q left listed false
      borrowed-fail e p q m n =
          let f : in_order_lem 0 (without own q) borrowed ≡ false = sym (borrowed-test p q m n) ∙ e in
          record { tests = rw f (sym (and-false (in_order_lem 0 p own))); left_set = λ t. clash t refl; listed_set = λ t. clash t refl }

      -- both pass, and the own rows are marked again
      pub rows-good : b ≡ true → (new : List ℕ) → ((q : ℕ → Bool) → Marked listed q → Marked new (λ i. q i || member i own))
          → (p q : ℕ → Bool) → Marked left₀ p → Marked listed₀ q → RowsPassed own borrowed p q left new true
      rows-good e new again p q m n =
          record {
            tests = sym (and-of (own-pass p m) (sym (borrowed-test p q m n) ∙ e));
            left_set = λ _. ((took p q m n).1 t).0;
            listed_set = λ _. put_back own q (all-of (λ x. q x ≡ true) own (λ x i. inside-sets inside m n x (in-order-in 0 p own (own-pass p m) x i)))
                (again (without own q) ((took p q m n).1 t).1);
          }
