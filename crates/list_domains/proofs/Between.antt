-- The loop over the domain rows of a level: what holds between two of them, at the start, and at each end. Assumes nothing.
-- Holds: Rest, Between, between_start, between-left, between-end, row-ready, between-out, between_next
use Rattle.std.specs.Prelude.{Some, None}
use mathlib.Core.Path.{◌≡◌, refl, sym, ◌∙◌}
use mathlib.Core.Bool.{Bool, true, false}
use mathlib.Core.List.{List}
use Prim.Native.Nat.{ℕ, suc, ◌+◌, ◌-◌, ◌≤◌, ◌<◌}
use native.Mathlib.Nat.{add-zero, sub-zero, le_trans, mul-le-mul_left}
use native.Mathlib.Omega.{arith}
use borrow.Author.Tests.{eq-eqb, ne_eqb}
use lib.Dec.{eqb}
use lib.ListN.{length}
use Rattle.lists.proofs.Tests.{clash}
use Rattle.definition.specs.Packed.{row_floats_lem}
use Rattle.packed.specs.Reading.{Packed, own_count, borrowed_count, depth_at, read_leaf}
use Rattle.tree_tests.specs.InTurn.{without}
use Rattle.tree_tests.proofs.Sets.{without_in}
use Rattle.marks.specs.Bits.{Marked}
use Rattle.marks.proofs.Marks.{held, bits-marked}
use Rattle.row_sets.specs.Tested.{LeftIsListed}
use Rattle.row_sets.proofs.RowTests.{inside-sets, sets-inside}
use Rattle.list_domains.specs.InLists.{domain_passes, domains_pass, borrowed_end}
use Rattle.list_domains.specs.Passed.{Ready, DomainPassed, DomainsPassed}
use Rattle.list_domains.specs.declared.SoFar.{SoFar}
use Rattle.list_domains.proofs.Held.{RowHeld, row-held}

-- ---- the row number j and those behind it
module _ (coarse : Bool) (l : Packed) (most rows : ℕ) (listed left : ℕ → Bool) (j a b k least m : ℕ) where
  one_passes : domain_passes coarse l most rows listed left j a b k least ≡ true
      → domains_pass coarse l most rows listed left j a b k least (suc m)
      ≡ domains_pass coarse l most rows listed (without (read_leaf l j).own left) (suc j) (a + own_count l.domains j) (b + borrowed_count l.domains j) (k - own_count l.domains j)
      (depth_at l.domains j) m
  unfolding domains_pass
  one_passes h = rw h

  one-fails : domain_passes coarse l most rows listed left j a b k least ≡ false → domains_pass coarse l most rows listed left j a b k least (suc m) ≡ false
  unfolding domains_pass
  one-fails h = rw h

none_left : (coarse : Bool) (l : Packed) (most rows : ℕ) (listed left : ℕ → Bool) (j a b k least : ℕ) → domains_pass coarse l most rows listed left j a b k least 0 ≡ eqb k 0
unfolding domains_pass
none_left coarse l most rows listed left j a b k least = refl

one-ends : (domains : List ℕ) (j b m : ℕ) → borrowed_end domains j b (suc m) ≡ borrowed_end domains (suc j) (b + borrowed_count domains j) m
unfolding borrowed_end
one-ends domains j b m = refl

none-ends : (domains : List ℕ) (j b : ℕ) → borrowed_end domains j b 0 ≡ b
unfolding borrowed_end
none-ends domains j b = refl

-- ---- between two domain rows, with what is left of `left` and what the rest comes to
pub record Rest (coarse : Bool) (l : Packed) (most rows j a b k least m : ℕ) (left listed : List ℕ) (answer : Bool) (q : ℕ → Bool) : Type 0 where
  pub set : ℕ → Bool
  pub marked : Marked left set
  pub as-was : Marked listed q
  pub same : answer ≡ domains_pass coarse l most rows q set j a b k least m

pub record Between (coarse : Bool) (l : Packed) (most j a b k m : ℕ) (left₀ listed₀ left listed : List ℕ) (i a' b' k' least' : ℕ) : Type 0 where
  pub bound : i ≤ m
  pub kept : LeftIsListed left listed
  pub ready : Ready l most (j + i) (m - i) a' b' k'
  pub rest : (p q : ℕ → Bool) → Marked left₀ p → Marked listed₀ q
      → Rest coarse l most k (j + i) a' b' k' least' (m - i) left listed (domains_pass coarse l most k q p j a b k 0 m) q
  pub end : borrowed_end l.domains j b m ≡ borrowed_end l.domains (j + i) b' (m - i)

module _ {coarse : Bool} {l : Packed} {most j a b k m : ℕ} {left₀ listed₀ : List ℕ} where
  pub between_start : Ready l most j m a b k → LeftIsListed left₀ listed₀ → Between coarse l most j a b k m left₀ listed₀ left₀ listed₀ 0 a b k 0
  between_start h kept =
      record {
        bound = omega arith;
        kept = kept;
        ready = rw (add-zero j, sub-zero m) h;
        rest = λ p q n o. rw (add-zero j, sub-zero m) (record { set = p; marked = n; as-was = o; same = refl });
        end = rw (add-zero j, sub-zero m);
      }

  module _ {left listed : List ℕ} {i a' b' k' least' : ℕ} (h : Between coarse l most j a b k m left₀ listed₀ left listed i a' b' k' least') where
    -- ---- all rows passed
    module _ (g : m ≤ i) where
      z : m - i ≡ 0
      z = omega arith

      told : (p q : ℕ → Bool) → Marked left₀ p → Marked listed₀ q → domains_pass coarse l most k q p j a b k 0 m ≡ eqb k' 0
      told p q n o = let t = h.rest p q n o in t.same ∙ rw z (none_left coarse l most k q t.set (j + i) a' b' k' least')

      -- rows are left
      pub between-left : (k' ≡ 0 → ⊥) → DomainsPassed coarse l most j a b k m left₀ listed₀ listed None
      between-left n =
          record { passed = λ p q o u. sym (told p q o u ∙ ne_eqb k' 0 n); end = tt; listed_as_was = λ q o e. clash e refl }

      -- none is
      pub between-end : k' ≡ 0 → DomainsPassed coarse l most j a b k m left₀ listed₀ listed (Some b')
      between-end e =
          record {
            passed = λ p q n o. sym (told p q n o ∙ eq-eqb k' 0 e);
            end = sym (h.end ∙ rw z (none-ends l.domains (j + i) b'));
            listed_as_was = λ q o _. (h.rest (held left₀) q (bits-marked left₀) o).as-was;
          }

    -- ---- the row number j + i
    module _ (lt : i < m) where
      count : m - i ≡ suc (m - (i + 1))
      count = omega arith

      pub row-ready : Ready l most (j + i) 1 a' b' k'
      row-ready =
          let w = row_floats_lem l.dimension in
          record {
            axes = h.ready.axes;
            rows = omega (arith, h.ready.rows);
            boxes = le_trans (mul-le-mul_left w (omega arith)) h.ready.boxes;
            own = h.ready.own;
            end = h.ready.end;
            borrowed = h.ready.borrowed;
          }

      module _ (left' listed' : List ℕ) where
        -- it fails
        pub between-out : DomainPassed coarse l most k (j + i) a' b' k' least' left listed left' listed' None → DomainsPassed coarse l most j a b k m left₀ listed₀ listed' None
        between-out d =
            record {
              passed = λ p q n o. let t = h.rest p q n o in
                  sym (t.same ∙ rw count (one-fails coarse l most k q t.set (j + i) a' b' k' least' (m - (i + 1)) (sym (d.passed t.set q t.marked t.as-was))));
              end = tt;
              listed_as_was = λ q o e. clash e refl;
            }

        -- it passes
        module _ {r : SoFar} (d : DomainPassed coarse l most k (j + i) a' b' k' least' left listed left' listed' (Some r)) where
          row : RowHeld coarse l most k (held listed) (held left) (j + i) a' b' k' least'
          row = row-held coarse l most k (held listed) (held left) (j + i) a' b' k' least' (sym (d.passed (held left) (held listed) (bits-marked left) (bits-marked listed)))

          next : j + (i + 1) ≡ suc (j + i)
          next = omega arith

          pub between_next : length left' ≡ length listed'
              → Between coarse l most j a b k m left₀ listed₀ left' listed' (i + 1) r.own_at r.borrowed_at r.leaves.remaining r.leaves.least
          between_next long =
              record {
                bound = omega arith;
                kept = sets-inside long (d.left_out (held left) (bits-marked left) refl) (d.listed_as_was (held listed) (bits-marked listed) refl)
                    (λ x e. inside-sets h.kept (bits-marked left) (bits-marked listed) x (without_in (read_leaf l (j + i)).own (held left) x e));
                ready =
                    record {
                      axes = h.ready.axes;
                      rows = omega (arith, h.ready.rows);
                      boxes = le_trans (mul-le-mul_left (row_floats_lem l.dimension) (omega arith)) h.ready.boxes;
                      own = omega (arith, d.own, d.remaining, row.own-few, h.ready.own);
                      end = omega (arith, d.borrowed, row.borrowed_few, h.ready.end);
                      borrowed = h.ready.borrowed;
                    };
                rest = λ p q n o. let t = h.rest p q n o in
                    record {
                      set = without (read_leaf l (j + i)).own t.set;
                      marked = d.left_out t.set t.marked refl;
                      as-was = d.listed_as_was q t.as-was refl;
                      same = t.same ∙ rw (count, next, d.own, d.borrowed, d.remaining, d.depth)
                          (one_passes coarse l most k q t.set (j + i) a' b' k' least' (m - (i + 1)) (sym (d.passed t.set q t.marked t.as-was)));
                    };
                end = h.end ∙ rw (count, next, d.borrowed) (one-ends l.domains (j + i) b' (m - (i + 1)));
              }
