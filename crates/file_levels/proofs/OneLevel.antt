-- One level tested with its domains: one law for each way out. Assumes nothing.
-- Holds: no-level-record, too_few, too_many_rows, bad-level-rows, bad-domains, level-good
use Rattle.std.specs.Prelude.{Option, Some, None, is_some}
use mathlib.Core.Path.{◌≡◌, refl, sym, ap, ◌∙◌}
use mathlib.Core.Bool.{Bool, true, false, ◌&&◌, and-false}
use Prim.Native.Nat.{ℕ, ◌≤◌, ◌<◌}
use native.Mathlib.Omega.{arith}
use mathlib.Core.List.{List}
use lib.Dec.{leb, ltb, eqb}
use lib.ListN.{length, drop}
use lib.Seq.{drop-drop}
use borrow.Author.Tests.{le-leb, lt-leb, lt-ltb, le-ltb}
use Rattle.lists.proofs.Tests.{and-of}
use Rattle.definition.specs.Tree.{Level}
use Rattle.formats.specs.Bytes.{numbers_at, whole}
use Rattle.stored.specs.File.{level_mark}
use Rattle.stored.specs.Stored.{counts_size, first_count_lem, second_count, one_domain, domains_place, level_in, after_level}
use Rattle.tree_tests.specs.InTurn.{among, in_order_lem, fitted, leaves_pass, level_passes}
use Rattle.tree_tests.specs.Whole.{leaves_whole, level_whole}
use Rattle.tree_tests.proofs.Lengths.{length-leaves-in}
use Rattle.file_rows.proofs.InBytes.{length_rows}
use Rattle.file_domains.specs.declared.Passed.{Passed}
use Rattle.file_domains.specs.Domains.{DomainsPassed}
use Rattle.bytes_in.proofs.Fields.{numbers-here}
use Rattle.file_levels.specs.declared.LevelHead.{LevelHead}
use Rattle.file_levels.specs.declared.LevelPassed.{LevelPassed}
use Rattle.file_levels.specs.Levels.{HeadHere, IsHead, between, LevelPassedIs}
use Rattle.file_levels.proofs.LevelHeads.{head-within}

module _ (file : List ℕ) (at d : ℕ) where
  abbrev here : List ℕ
  here = drop at file

  abbrev level : Level
  level = level_in d here

  abbrev stands : Bool
  stands = whole level_mark (domains_place here) here

  -- its domains' tests
  abbrev domains_whole : Bool
  domains_whole = leaves_whole d (one_domain here) (second_count here) (drop (domains_place here) here)

  abbrev domains_pass : Bool
  domains_pass = leaves_pass (fitted d (one_domain here) (length level.points)) (among level.points) (among level.points) (length level.points) 0 level.leaves

  module _ (least below : ℕ) (p : ℕ → Bool) (listed : List ℕ) where
    abbrev Is : Option LevelPassed → Type 0
    Is r = LevelPassedIs file at d least below p listed r

    abbrev passes : Bool
    passes = level_passes d (one_domain here) (between least below) p level

    tests-are : level_whole d here && passes ≡ (stands && domains_whole) && (between least below (length level.points) && in_order_lem 0 p level.points && domains_pass)
    unfolding level_whole level_passes
    tests-are = refl

    refused : (stands && domains_whole) && (between least below (length level.points) && in_order_lem 0 p level.points && domains_pass) ≡ false → Is None
    refused g = record { tests = sym (tests-are ∙ g); passed = tt }

    -- no whole record stands there
    pub no-level-record : IsHead here at None → Is None
    no-level-record is = let g : stands ≡ false = sym is.stands in refused (rw g)

    module _ (h : LevelHead) (is : IsHead here at (Some h)) where
      abbrev parts : HeadHere here at h
      parts = is.parts

      points-length : length level.points ≡ h.rows
      unfolding level_in
      points-length = length_rows (first_count_lem here) counts_size here ∙ sym parts.rows

      leaves-length : length level.leaves ≡ h.domains
      unfolding level_in
      leaves-length = length-leaves-in d here ∙ sym parts.domains

      rows-here : numbers_at h.rows h.rows_at file ≡ level.points
      unfolding level_in
      rows-here = rw (parts.rows, parts.rows_at) (numbers-here at file (first_count_lem here) counts_size)

      domains-here : drop h.next file ≡ drop (domains_place here) here
      domains-here = ap (λ (k : ℕ). drop k file) parts.next ∙ sym (drop-drop (domains_place here) at file)

      count-fails : between least below (length level.points) ≡ false → Is None
      count-fails g = refused (ap (λ (b : Bool). (stands && domains_whole) && (b && in_order_lem 0 p level.points && domains_pass)) g ∙ and-false (stands && domains_whole))

      -- it has too few rows, or too many
      pub too_few : h.rows < least → Is None
      too_few l = count-fails (ap (λ (b : Bool). b && ltb (length level.points) below) (lt-leb least (length level.points) (omega (arith, points-length))))

      pub too_many_rows : below ≤ h.rows → Is None
      too_many_rows l =
          count-fails (ap (λ (b : Bool). leb least (length level.points) && b) (le-ltb (length level.points) below (omega (arith, points-length))) ∙ and-false (leb least (length level.points)))

      module _ (enough : least ≤ h.rows) (few : h.rows < below) (rp : Bool) (asked : rp ≡ in_order_lem 0 p (numbers_at h.rows h.rows_at file)) where
        counted : between least below (length level.points) ≡ true
        counted = and-of (le-leb least (length level.points) (omega (arith, points-length))) (lt-ltb (length level.points) below (omega (arith, points-length)))

        rows-test : rp ≡ in_order_lem 0 p level.points
        rows-test = asked ∙ ap (in_order_lem 0 p) (rows-here)

        -- its rows are not among those above
        pub bad-level-rows : rp ≡ false → Is None
        bad-level-rows b =
            refused
            (ap (λ (x : Bool). (stands && domains_whole) && (between least below (length level.points) && x && domains_pass)) (sym rows-test ∙ b)
            ∙ ap (λ (x : Bool). (stands && domains_whole) && (x && domains_pass)) (and-false (between least below (length level.points)))
            ∙ and-false (stands && domains_whole))

        module _ (good-rows : rp ≡ true) (o : Option Passed)
            (told : DomainsPassed file h.next h.domains d (eqb h.domains 1) h.rows (among (numbers_at h.rows h.rows_at file)) (among (numbers_at h.rows h.rows_at file)) listed o) where
          domains-test : is_some o ≡ domains_whole && domains_pass
          unfolding level_in
          domains-test = rw (domains-here, rows-here, parts.domains, sym (points-length)) at told.tests

          all-tests : level_whole d here && passes ≡ domains_whole && domains_pass
          all-tests =
              let s : stands ≡ true = sym is.stands in
              let g : in_order_lem 0 p level.points ≡ true = sym rows-test ∙ good-rows in
              tests-are ∙ rw (s, counted, g)

          -- its domains do not pass
          pub bad-domains : o ≡ None → Is None
          bad-domains b = refused (sym tests-are ∙ all-tests ∙ sym domains-test ∙ ap is_some b)

          -- it passes
          pub level-good : (dr : Passed) → o ≡ Some dr → Is (Some (record { next = dr.next; rows = h.rows; domains = h.domains; borrowed = dr.borrowed }))
          unfolding after_level level_in
          level-good dr b =
              let k = (rw b at told).passed in
              let e = head-within file at h is in
              record {
                tests = sym (all-tests ∙ sym domains-test ∙ ap is_some b);
                passed =
                    record {
                      after = rw (domains-here, parts.domains) at k.after;
                      within = k.within;
                      past = omega (arith, k.past, parts.next);
                      rows = sym points-length;
                      domains = sym leaves-length;
                      borrowed = rw (domains-here, parts.domains) at k.borrowed;
                      listed_set = rw rows-here at k.listed_set;
                    };
              }
