-- Loops over rows: asked for, marked, and taken out of two sets, one after the other. The sets are words; what becomes of a set is in
-- crate tree_tests. Assumes nothing.
-- Holds: Asking, asking-start, asking-end, asking-low, asking-out, asking-next, Marking, marking-start, marking-next,
--   marking-within, marking-clear, Taking, taking-start, taking-end, taking-low, taking-out, taking-next
use mathlib.Core.Path.{◌≡◌, refl, sym, ap, ◌∙◌}
use mathlib.Core.Bool.{Bool, true, false, not, ◌&&◌, ◌||◌}
use Prim.Native.Nat.{ℕ, ◌+◌, ◌*◌, ◌≤◌, ◌<◌}
use native.Mathlib.Omega.{arith}
use mathlib.Core.List.{List, []}
use lib.Dec.{eqb}
use lib.ListN.{length, get_or, take}
use Rattle.lists.specs.Lists.{member}
use Rattle.lists.proofs.All.{all-at, all-mem}
use Rattle.tree_tests.specs.InTurn.{without, in_order_lem}
use Rattle.tree_tests.proofs.Sets.{without-nil, without_more, without_all}
use Rattle.tree_tests.proofs.Taken.{Taken, take-start, take_step, take-low, take_out, take-end}
use Rattle.tree_tests.proofs.Checked.{Checked, check-start, check-step, check-low, check-out, check-end}
use Rattle.tree_tests.proofs.Marking.{Fresh, mark-fresh, mark-start, mark-step}
use Rattle.marks.specs.Bits.{bit_at, Marked}
use Rattle.marks.proofs.Marks.{marked-same, unmarked-bit, held, bits-marked}
use Rattle.row_sets.specs.Markable.{Markable}

-- ---- a loop that asks for rows: the rows before i passed, and the rest decides
pub record Asking (rows ws : List ℕ) (least i : ℕ) : Type 0 where
  pub bound : i ≤ length rows
  pub checked : (p : ℕ → Bool) → Marked ws p → Checked p rows i least

pub asking-start : (rows ws : List ℕ) → Asking rows ws 0 0
asking-start rows ws = record { bound = omega arith; checked = λ p m. check-start p rows }

module _ {rows ws : List ℕ} {least i : ℕ} (s : Asking rows ws least i) where
  pub asking-end : length rows ≤ i → (p : ℕ → Bool) → Marked ws p → true ≡ in_order_lem 0 p rows
  asking-end h p m = sym (check-end (s.checked p m) h)

  module _ (row : ℕ) (h : i < length rows) (e : row ≡ get_or rows i 0) where
    pub asking-low : row < least → (p : ℕ → Bool) → Marked ws p → false ≡ in_order_lem 0 p rows
    asking-low l p m = sym (check-low (s.checked p m) row h e l)

    module _ (r : Bool) (said : (p : ℕ → Bool) → Marked ws p → r ≡ p row) where
      pub asking-out : r ≡ false → (p : ℕ → Bool) → Marked ws p → false ≡ in_order_lem 0 p rows
      asking-out f p m = sym (check-out (s.checked p m) row h e (sym (said p m) ∙ f))

      pub asking-next : least ≤ row → r ≡ true → Asking rows ws (row + 1) (i + 1)
      asking-next l t = record { bound = omega arith; checked = λ p m. check-step (s.checked p m) row h e l (sym (said p m) ∙ t) }

-- ---- a loop that marks rows: those before i are in the set
pub record Marking (rows old ws : List ℕ) (i : ℕ) : Type 0 where
  pub bound : i ≤ length rows
  pub same_length : length ws ≡ length old
  pub sets : (p : ℕ → Bool) → Marked old p → Marked ws (λ x. p x || member x (take i rows))

pub marking-start : (rows ws : List ℕ) → Marking rows ws ws 0
marking-start rows ws =
    record {
      bound = omega arith;
      same_length = refl;
      sets = λ p m. marked-same m (λ x. p x || member x []) (λ x. sym (mark-start p x));
    }

module _ {rows old ws : List ℕ} {i : ℕ} (s : Marking rows old ws i) where
  module _ (row : ℕ) (h : i < length rows) (e : row ≡ get_or rows i 0) where
    pub marking-next : (new : List ℕ) → length new ≡ length ws → ((p : ℕ → Bool) → Marked ws p → Marked new (λ j. p j || eqb j row)) → Marking rows old new (i + 1)
    marking-next new l said =
        record {
          bound = omega arith;
          same_length = l ∙ s.same_length;
          sets = λ p m. marked-same (said (λ x. p x || member x (take i rows)) (s.sets p m)) (λ x. p x || member x (take (i + 1) rows)) (mark-step rows i row h e p);
        }

    module _ (k : Markable rows old) where
      pub marking-within : row < 64 * length ws
      marking-within = rw (s.same_length, e) (all-at (λ x. x < 64 * length old) rows i 0 k.within h)

      fresh : Fresh (held old) rows
      fresh =
          record {
            ascends = k.ascends;
            none = λ x m. ap (λ (b : ℕ). eqb b 1) (all-mem (λ y. bit_at old y ≡ 0) rows k.clear x m);
          }

      pub marking-clear : bit_at ws row ≡ 0
      marking-clear = unmarked-bit (s.sets (held old) (bits-marked old)) row marking-within (mark-fresh fresh i row h e)

-- ---- a loop that takes rows out of two sets: those before i are out of both, and the rest decides
pub record Taking (rows old-left old-listed left listed : List ℕ) (least i : ℕ) : Type 0 where
  pub bound : i ≤ length rows
  pub taken : (p : ℕ → Bool) → Marked old-left p → Taken p rows i least
  pub left_set : (p : ℕ → Bool) → Marked old-left p → Marked left (without (take i rows) p)
  pub listed_set : (q : ℕ → Bool) → Marked old-listed q → Marked listed (without (take i rows) q)

pub taking-start : (rows left listed : List ℕ) → Taking rows left listed left listed 0 0
taking-start rows left listed =
    record {
      bound = omega arith;
      taken = λ p m. take-start p rows;
      left_set = λ p m. marked-same m (without [] p) (λ x. sym (without-nil p x));
      listed_set = λ q m. marked-same m (without [] q) (λ x. sym (without-nil q x));
    }

module _ {rows old-left old-listed left listed : List ℕ} {least i : ℕ} (s : Taking rows old-left old-listed left listed least i) where
  pub taking-end : length rows ≤ i → (p q : ℕ → Bool) → Marked old-left p → Marked old-listed q
      → (true ≡ in_order_lem 0 p rows) × (true ≡ true → Marked left (without rows p) × Marked listed (without rows q))
  taking-end h p q m n = (
    sym (take-end (s.taken p m) h),
    λ _. (
      marked-same (s.left_set p m) (without rows p) (without_all rows i h p),
      marked-same (s.listed_set q n) (without rows q) (without_all rows i h q),
    ),
  )

  module _ (row : ℕ) (h : i < length rows) (e : row ≡ get_or rows i 0) where
    pub taking-low : row < least → (p : ℕ → Bool) → Marked old-left p → false ≡ in_order_lem 0 p rows
    taking-low l p m = sym (take-low (s.taken p m) row h e l)

    module _ (l : least ≤ row) (r : Bool) (said : (p : ℕ → Bool) → Marked left p → r ≡ p row) where
      told : (p : ℕ → Bool) → Marked old-left p → r ≡ without (take i rows) p row
      told p m = said (without (take i rows) p) (s.left_set p m)

      pub taking-out : r ≡ false → (p : ℕ → Bool) → Marked old-left p → false ≡ in_order_lem 0 p rows
      taking-out f p m = sym (take_out (s.taken p m) row h e l (sym (told p m) ∙ f))

      pub taking-next : r ≡ true
          → (new-left : List ℕ) → ((p : ℕ → Bool) → Marked left p → Marked new-left (λ j. p j && not (eqb j row)))
          → (new-listed : List ℕ) → ((q : ℕ → Bool) → Marked listed q → Marked new-listed (λ j. q j && not (eqb j row)))
          → Taking rows old-left old-listed new-left new-listed (row + 1) (i + 1)
      taking-next t new-left left-out new-listed listed-out =
          record {
            bound = omega arith;
            taken = λ p m. take_step (s.taken p m) row h e l (sym (told p m) ∙ t);
            left_set = λ p m. marked-same (left-out (without (take i rows) p) (s.left_set p m)) (without (take (i + 1) rows) p) (without_more rows i row h e p);
            listed_set = λ q m. marked-same (listed-out (without (take i rows) q) (s.listed_set q m)) (without (take (i + 1) rows) q) (without_more rows i row h e q);
          }
