-- One domain record tested: one law for each way out. Assumes nothing.
-- Holds: no_record, too_many, bad-leaf, bad-box, domain-good, domain-room
use Rattle.std.specs.Prelude.{Option, Some, None, is_some}
use mathlib.Core.Path.{◌≡◌, refl, sym, ap, ◌∙◌}
use mathlib.Core.Bool.{Bool, true, false, not, ◌&&◌, and-true, and-false, and_assoc}
use Prim.Native.Nat.{ℕ, ◌+◌, ◌*◌, ◌≤◌, ◌<◌}
use native.Mathlib.Omega.{arith}
use mathlib.Core.List.{List, map}
use lib.Dec.{leb}
use lib.ListN.{length, drop, replicate}
use lib.Ieee.{Float, is_nan, binary64, to_bits}
use borrow.Author.Tests.{le-leb, lt-leb, eq-eqb}
use Rattle.lists.specs.Lists.{any_of, from}
use Rattle.lists.proofs.Tests.{and-of, or-false}
use Rattle.definition.specs.Number.{plus_zero}
use Rattle.definition.specs.Points.{box_width_lem}
use Rattle.definition.specs.Tree.{Leaf}
use Rattle.definition.specs.Packed.{leaf_floats}
use Rattle.formats.specs.Bytes.{number_size, number_at, numbers_at, float_size, float_at, floats_at, whole}
use Rattle.stored.specs.File.{domain_mark}
use Rattle.stored.specs.Sound.{sound_box, no_box}
use Rattle.stored.specs.Stored.{counts_size, first_count_lem, second_count, borrowed_place, bounds_place, depth_place, leaf_in, leaf_size}
use Rattle.tree_tests.specs.InTurn.{without, in_order_lem, boxed, depth_passes_lem, fitted, leaf_passes}
use Rattle.tree_tests.proofs.AllRows.{same_self}
use Rattle.file_rows.proofs.InBytes.{length_rows}
use Rattle.file_reader.specs.declared.Fetched.{Fetched}
use Rattle.file_reader.specs.Fetch.{record_floats_lem, Parts, IsFetched}
use Rattle.file_reader.proofs.Fetches.{number-here, parts_within}
use Rattle.file_reader.proofs.LastFloats.{depth-place, leaf-size, fine-floats}
use Rattle.file_domains.specs.declared.Passed.{Passed}
use Rattle.leaf_tests.specs.declared.LeavesPassed.{LeavesPassed}
use Rattle.leaf_tests.specs.Passed.{LeafPassed}
use Rattle.file_domains.specs.Domains.{DomainPassed, DomainHere}
use Rattle.bytes_in.proofs.Fields.{length-floats-at, numbers-here, floats-here}

-- ---- the tests of a leaf: the count of its own rows, its rows, its box and depth
leaf-tests : (box : Leaf → Bool) (q p : ℕ → Bool) (k : ℕ) (f : Leaf)
    → leaf_passes box q p k f ≡ leb (length f.own) k && (in_order_lem 0 p f.own && in_order_lem 0 (without f.own q) f.borrowed) && box f
unfolding leaf_passes
leaf-tests box q p k f =
    ap (λ (b : Bool). b && box f) (and_assoc (leb (length f.own) k) (in_order_lem 0 p f.own) (in_order_lem 0 (without f.own q) f.borrowed))

box-last : (rows box depth : Bool) → rows && (box && depth) ≡ (rows && depth) && box
box-last false box depth = refl
box-last true true depth = sym (and-true depth)
box-last true false depth = sym (and-false depth)

-- the box that stands in bytes has two bounds on each axis, and the coarse one's are +0, so that only the record's floats are to be tested
box-tests : (d : ℕ) (coarse : Bool) (bs : List ℕ)
    → boxed d coarse (leaf_in d coarse bs) ≡ not (any_of is_nan (floats_at (record_floats_lem d coarse) (bounds_place bs) bs))
unfolding leaf_in no_box sound_box floats_at any_of from
box-tests d true bs =
    let x = float_at (bounds_place bs + 0) bs in
    ap (λ (b : Bool). b && not (is_nan x)) (same_self (map (to_bits binary64) (replicate (box_width_lem d) plus_zero))) ∙ ap not (sym (or-false (is_nan x)))
box-tests d false bs =
    ap (λ (b : Bool). b && not (any_of is_nan (leaf_floats (leaf_in d false bs))))
    (eq-eqb (length (floats_at (box_width_lem d) (bounds_place bs) bs)) (box_width_lem d) (length-floats-at (box_width_lem d) (bounds_place bs) bs))
    ∙ ap (λ (xs : List Float). not (any_of is_nan xs)) (fine-floats d bs)

-- ---- the record that is fetched at a place
module _ (file : List ℕ) (at d : ℕ) (coarse : Bool) (floats : ℕ) (e : floats ≡ record_floats_lem d coarse) where
  abbrev here : List ℕ
  here = drop at file

  abbrev leaf : Leaf
  leaf = leaf_in d coarse here

  abbrev stands : Bool
  stands = whole domain_mark (leaf_size d coarse here) here

  size_is : bounds_place here + float_size * floats + number_size ≡ leaf_size d coarse here
  size_is = ap (λ (n : ℕ). bounds_place here + float_size * n + number_size) e ∙ sym (leaf-size d coarse here)

  stands-is : (r : Option Fetched) → IsFetched here at (float_size * floats) r → is_some r ≡ stands
  stands-is r fetched = fetched.stands ∙ ap (λ (k : ℕ). whole domain_mark k here) size_is

  module _ (a : ℕ) (before : LeavesPassed) (p q : ℕ → Bool) (left listed : List ℕ) where
    abbrev Is : Option Passed → Type 0
    Is r = DomainPassed file at d coarse a before.least before.remaining p q left listed r

    abbrev fit : Leaf → Bool
    fit = fitted d coarse a before.least

    abbrev passes : Bool
    passes = leaf_passes fit q p before.remaining leaf

    refused : stands && passes ≡ false → Is None
    refused g = record { tests = sym g; passed = tt }

    -- no whole record stands there
    pub no_record : IsFetched here at (float_size * floats) None → Is None
    no_record w = let g : stands ≡ false = sym (stands-is None w) in refused (rw g)

    module _ (f : Fetched) (fetched : IsFetched here at (float_size * floats) (Some f)) where
      abbrev parts : Parts here at (float_size * floats) f
      parts = fetched.parts

      own-length : length leaf.own ≡ f.own
      unfolding leaf_in
      own-length = length_rows (first_count_lem here) counts_size here ∙ sym parts.own

      borrowed-length : length leaf.borrowed ≡ f.borrowed
      unfolding leaf_in
      borrowed-length = length_rows (second_count here) (borrowed_place here) here ∙ sym parts.borrowed

      failed : passes ≡ false → Is None
      failed g = refused (rw g (and-false stands))

      -- fewer rows are left than it has
      pub too_many : before.remaining < f.own → Is None
      too_many h =
          let g : leb (length leaf.own) before.remaining ≡ false = lt-leb (length leaf.own) before.remaining (omega (arith, own-length)) in
          failed (leaf-tests fit q p before.remaining leaf ∙ rw g)

      depth-here : number_at f.depth_at file ≡ leaf.depth
      unfolding leaf_in
      depth-here =
          let place : f.depth_at ≡ at + depth_place d coarse here = omega (arith, parts.depth_at, e, depth-place d coarse here) in
          ap (λ (k : ℕ). number_at k file) place ∙ number-here at file (depth_place d coarse here)

      own-here : numbers_at f.own f.own_at file ≡ leaf.own
      unfolding leaf_in
      own-here = rw (parts.own, parts.own_at) (numbers-here at file (first_count_lem here) counts_size)

      borrowed-here : numbers_at f.borrowed f.borrowed_at file ≡ leaf.borrowed
      unfolding leaf_in
      borrowed-here = rw (parts.borrowed, parts.borrowed_at) (numbers-here at file (second_count here) (borrowed_place here))

      module _ (enough : f.own ≤ before.remaining) (depth : ℕ) (read : depth ≡ number_at f.depth_at file) (o : Option LeavesPassed)
          (told : LeafPassed coarse a (numbers_at f.own f.own_at file) (numbers_at f.borrowed f.borrowed_at file) depth before p q left listed o) where
        abbrev deep : Bool
        deep = depth_passes_lem coarse a before.least (length leaf.own) leaf.depth

        abbrev rows : Bool
        rows = in_order_lem 0 p leaf.own && in_order_lem 0 (without leaf.own q) leaf.borrowed

        leaf-told : LeafPassed coarse a leaf.own leaf.borrowed leaf.depth before p q left listed o
        leaf-told = rw (own-here, borrowed-here, read ∙ depth-here) at told

        leaf-is : passes ≡ is_some o && boxed d coarse leaf
        leaf-is =
            let enough-is : leb (length leaf.own) before.remaining ≡ true = le-leb (length leaf.own) before.remaining (omega (arith, own-length)) in
            leaf-tests fit q p before.remaining leaf ∙ rw enough-is (box-last rows (boxed d coarse leaf) deep)
            ∙ ap (λ (b : Bool). b && boxed d coarse leaf) (sym leaf-told.tests)

        -- its rows or its depth do not pass
        pub bad-leaf : o ≡ None → Is None
        bad-leaf b = failed (leaf-is ∙ ap (λ (b : Bool). b && boxed d coarse leaf) (ap is_some b))

        module _ (leaves : LeavesPassed) (good : o ≡ Some leaves) (bp : Bool) (asked : bp ≡ not (any_of is_nan (floats_at floats f.bounds_at file))) where
          box-is : bp ≡ boxed d coarse leaf
          box-is =
              asked
              ∙ ap (λ (xs : List Float). not (any_of is_nan xs))
              (rw (e, parts.bounds_at) (floats-here at file (record_floats_lem d coarse) (bounds_place here)))
              ∙ sym (box-tests d coarse here)

          -- its box or its cover does not
          pub bad-box : bp ≡ false → Is None
          bad-box b = failed (leaf-is ∙ ap (λ (x : Bool). is_some o && x) (sym box-is ∙ b) ∙ and-false (is_some o))

          -- it passes
          pub domain-good : bp ≡ true → Is (Some (record { next = f.next; borrowed = f.borrowed; leaves = leaves }))
          domain-good b =
              let k = parts_within file at (float_size * floats) f fetched in
              let t = rw good at leaf-told in
              record {
                tests = sym (and-of (sym (stands-is (Some f) fetched)) (leaf-is ∙ and-of (ap is_some good) (sym box-is ∙ b)));
                passed =
                    record {
                      next = omega (arith, parts.next, size_is);
                      within = omega arith;
                      borrowed = sym borrowed-length;
                      own = omega (arith, t.remaining, own-length);
                      depth = t.depth_last;
                      left_set = t.left_set refl;
                      listed_set = t.listed_set refl;
                    };
              }

-- ---- a domain that passes takes the bytes of its counts and of its rows
pub domain-room : (file : List ℕ) (at d : ℕ) (coarse : Bool) (remaining : ℕ) (p q : ℕ → Bool) (left listed : List ℕ) (r : Passed)
    → DomainHere file at d coarse remaining p q left listed r → at + counts_size + number_size * r.borrowed ≤ r.next
unfolding leaf_size leaf_in
domain-room file at d coarse remaining p q left listed r h =
    let here = drop at file in
    omega (arith, h.next, h.borrowed, length_rows (second_count here) (borrowed_place here) here)
