-- One domain row: what is known of it once its stretches fit, and what its tests come to at each end of `check_domain`. Assumes nothing.
-- Holds: stretches-off, own-within, borrowed-within, row-fits, own-few, box-off, leaf-off, leaf-tells
use Rattle.std.specs.Prelude.{Option, Some, None, is_some}
use mathlib.Core.Path.{◌≡◌, refl, sym, ap, ◌∙◌}
use mathlib.Core.Bool.{Bool, true, false, ◌&&◌, and-false}
use mathlib.Core.List.{List}
use Prim.Native.Nat.{ℕ, ◌+◌, ◌-◌, ◌*◌, ◌≤◌}
use native.Mathlib.Nat.{mul-add, mul-one}
use native.Mathlib.Omega.{arith}
use borrow.Author.Tests.{leb-true, eqb-true, le-leb}
use lib.Dec.{leb, eqb}
use lib.ListN.{length}
use Rattle.lists.proofs.Tests.{clash, four-pass}
use Rattle.lists.proofs.Put.{length_part}
use Rattle.definition.specs.Points.{box_width_lem}
use Rattle.definition.specs.Packed.{row_floats_lem}
use Rattle.definition.specs.Tree.{Leaf}
use Rattle.packed.specs.Reading.{Packed, own_start, own_count, borrowed_start, borrowed_count, depth_at, row_at, read_leaf, RowFits}
use Rattle.packed.specs.Rows.{plain_row, IsRow}
use Rattle.packed.specs.declared.DomainRow.{DomainRow}
use Rattle.tree_tests.specs.InTurn.{without, in_order_lem, boxed, depth_passes_lem, leaf_passes}
use Rattle.list_domains.specs.Boxes.{floats_fit_lem}
use Rattle.list_domains.specs.InLists.{stretches_fit_lem, domain_passes}
use Rattle.marks.specs.Bits.{Marked}
use Rattle.marks.proofs.Marks.{held, bits-marked}
use Rattle.leaf_tests.specs.declared.LeavesPassed.{LeavesPassed}
use Rattle.leaf_tests.specs.Passed.{LeafPassed}
use Rattle.list_domains.specs.Passed.{Ready, DomainPassed}
use Rattle.list_domains.specs.declared.SoFar.{SoFar}
use Rattle.list_domains.proofs.Boxes.{box-tests}

-- the row that is read is the row of the list
row_read : (r : DomainRow) (domains : List ℕ) (j : ℕ) → IsRow r domains j → plain_row r ≡ row_at domains j
row_read r domains j h = rw (h.own_start, h.own_count, h.borrowed_start, h.borrowed_count, h.depth)

-- what is said where the row does not pass: nothing of the sets
no-domain : {coarse : Bool} {l : Packed} {most rows j a b k least : ℕ} {left₀ listed₀ : List ℕ} (left listed : List ℕ)
    → ((p q : ℕ → Bool) → Marked left₀ p → Marked listed₀ q → domain_passes coarse l most rows q p j a b k least ≡ false)
    → DomainPassed coarse l most rows j a b k least left₀ listed₀ left listed None
no-domain left listed h =
    record {
      passed = λ p q m n. sym (h p q m n);
      own = tt;
      borrowed = tt;
      remaining = tt;
      depth = tt;
      left_out = λ p m f. clash f refl;
      listed_as_was = λ q n f. clash f refl;
    }

module _ {l : Packed} {most j a b k : ℕ} (ready : Ready l most j 1 a b k) {row : DomainRow} (is : IsRow row l.domains j) {t : Bool}
    (tells : t ≡ stretches_fit_lem (plain_row row) most a b k) where
  fits : t ≡ stretches_fit_lem (row_at l.domains j) most a b k
  fits = tells ∙ ap (λ r. stretches_fit_lem r most a b k) (row_read row l.domains j is)

  -- ---- the stretches do not fit
  pub stretches-off : t ≡ false → {coarse : Bool} {rows least : ℕ} {left₀ listed₀ : List ℕ} (left listed : List ℕ)
      → DomainPassed coarse l most rows j a b k least left₀ listed₀ left listed None
  unfolding domain_passes
  stretches-off f left listed = no-domain left listed (λ p q m n. rw (← fits, f))

  -- ---- they do
  module _ (good : t ≡ true) where
    tests : (own_start l.domains j ≡ a) × (borrowed_start l.domains j ≡ b) × (own_count l.domains j ≤ k) × (borrowed_count l.domains j ≤ most - b)
    unfolding stretches_fit_lem
    tests =
        let f = four-pass (eqb (own_start l.domains j) a) (eqb (borrowed_start l.domains j) b) (leb (own_count l.domains j) k) (leb (borrowed_count l.domains j) (most - b)) (sym fits ∙ good) in
        (eqb-true (own_start l.domains j) a f.0, eqb-true (borrowed_start l.domains j) b f.1, leb-true (own_count l.domains j) k f.2, leb-true (borrowed_count l.domains j) (most - b) f.3)

    -- the stretches lie inside their lists
    pub own-within : a + row.internal_count ≤ length l.internals
    own-within = omega (arith, is.own_count, tests.2, ready.own)

    pub borrowed-within : b + row.borrowed_count ≤ length l.borrowed
    borrowed-within = omega (arith, is.borrowed_count, tests.3, ready.end, ready.borrowed)

    pub row-fits : RowFits l j
    row-fits =
        record {
          axes = ready.axes;
          row = ready.rows;
          own = omega (arith, tests.0, tests.2, ready.own);
          borrowed = omega (arith, tests.1, tests.3, ready.end, ready.borrowed);
          floats = ready.boxes;
        }

    -- ---- its leaf
    module _ (leaf : Leaf) (read : leaf ≡ read_leaf l j) where
      own-length : length leaf.own ≡ own_count l.domains j
      unfolding read_leaf
      own-length = ap (λ (f : Leaf). length f.own) read ∙ length_part l.internals (own_start l.domains j) (own_count l.domains j) row-fits.own

      -- as many rows are left as are its own
      pub own-few : length leaf.own ≤ k
      own-few = omega (arith, own-length, tests.2)

      depth-read : leaf.depth ≡ depth_at l.domains j
      unfolding read_leaf
      depth-read = ap (λ (f : Leaf). f.depth) read

      box-long : length leaf.box ≡ box_width_lem l.dimension
      unfolding read_leaf
      box-long =
          let w = box_width_lem l.dimension in
          let long : row_floats_lem l.dimension * j + w ≤ length l.boxes =
          omega (arith, ready.boxes, mul-add (row_floats_lem l.dimension) j 1, mul-one (row_floats_lem l.dimension)) in
          ap (λ (f : Leaf). length f.box) read ∙ length_part l.boxes (row_floats_lem l.dimension * j) w long

      module _ (coarse : Bool) (rows least : ℕ) (left₀ listed₀ : List ℕ) where
        abbrev Is : (left listed : List ℕ) (r : Option SoFar) → Type 0
        Is left listed r = DomainPassed coarse l most rows j a b k least left₀ listed₀ left listed r

        abbrev leaf-rows : (p q : ℕ → Bool) → Bool
        leaf-rows p q = in_order_lem 0 p leaf.own && in_order_lem 0 (without leaf.own q) leaf.borrowed

        abbrev deep : Bool
        deep = depth_passes_lem coarse rows least (length leaf.own) leaf.depth

        now-leaf : (p q : ℕ → Bool) → domain_passes coarse l most rows q p j a b k least ≡ leaf-rows p q && (boxed l.dimension coarse leaf && deep)
        unfolding domain_passes leaf_passes
        now-leaf p q = rw (← read, ← fits, good, le-leb (length leaf.own) k own-few)

        -- ---- the box and the cover
        module _ {x : Bool} (floats : x ≡ floats_fit_lem coarse leaf.box leaf.cover) where
          box-is : x ≡ boxed l.dimension coarse leaf
          box-is = floats ∙ box-tests l.dimension coarse leaf box-long

          pub box-off : x ≡ false → (left listed : List ℕ) → Is left listed None
          box-off f left listed = no-domain left listed (λ p q m n.
              now-leaf p q ∙ ap (λ (y : Bool). leaf-rows p q && (y && deep)) (sym box-is ∙ f) ∙ and-false (leaf-rows p q))

          -- ---- the depth and the rows
          module _ (fits-box : x ≡ true) {left listed : List ℕ} {o : Option LeavesPassed}
              (said : (p q : ℕ → Bool) → Marked left₀ p → Marked listed₀ q
              → LeafPassed coarse rows leaf.own leaf.borrowed leaf.depth (record { remaining = k; least = least }) p q left listed o) where
            now-rows : (p q : ℕ → Bool) → Marked left₀ p → Marked listed₀ q → domain_passes coarse l most rows q p j a b k least ≡ is_some o
            now-rows p q m n = now-leaf p q ∙ ap (λ (y : Bool). leaf-rows p q && (y && deep)) (sym box-is ∙ fits-box) ∙ sym (said p q m n).tests

            pub leaf-off : o ≡ None → Is left listed None
            leaf-off e = no-domain left listed (λ p q m n. now-rows p q m n ∙ ap is_some e)

            pub leaf-tells : (leaves : LeavesPassed) → o ≡ Some leaves → Is left listed
                (Some (record { own_at = a + row.internal_count; borrowed_at = b + row.borrowed_count; leaves = leaves }))
            leaf-tells leaves e =
                let told : (p q : ℕ → Bool) → Marked left₀ p → Marked listed₀ q
                → LeafPassed coarse rows leaf.own leaf.borrowed leaf.depth (record { remaining = k; least = least }) p q left listed (Some leaves) =
                λ p q m n. rw e at (said p q m n) in
                let any = told (held left₀) (held listed₀) (bits-marked left₀) (bits-marked listed₀) in
                let own-read : leaf.own ≡ (read_leaf l j).own = ap (λ (f : Leaf). f.own) read in
                record {
                  passed = λ p q m n. sym (now-rows p q m n ∙ ap is_some e);
                  own = ap (λ (x : ℕ). a + x) is.own_count;
                  borrowed = ap (λ (x : ℕ). b + x) is.borrowed_count;
                  remaining = any.remaining ∙ ap (λ (x : ℕ). k - x) own-length;
                  depth = any.depth_last ∙ depth-read;
                  left_out = λ p m t. rw (← own-read) ((told p (held listed₀) m (bits-marked listed₀)).left_set refl);
                  listed_as_was = λ q n t. (told (held left₀) q (bits-marked left₀) n).listed_set refl;
                }
