-- Levels tested one after the other: those before i passed, none of them with one domain, and the rest decides. Assumes nothing.
-- Holds: LevelsTested, levels-start, levels-none, level-bad, level-fits, levels-trail, levels-end, levels-next
use Rattle.std.specs.Prelude.{Option, Some, None, is_some}
use mathlib.Core.Path.{◌≡◌, refl, sym, ap, ◌∙◌}
use mathlib.Core.Bool.{Bool, true, false, not, ◌&&◌, cond, and-false}
use Prim.Native.Nat.{ℕ, zero, suc, ◌+◌, ◌-◌, ◌*◌, ◌≤◌, ◌<◌}
use native.Mathlib.Omega.{arith}
use mathlib.Core.List.{List, [], ◌∷◌, map}
use lib.Dec.{leb, ltb, eqb}
use lib.ListN.{length, drop, length-append, length-drop}
use borrow.Author.Tests.{leb-true, le-leb, ltb-true, lt-ltb, eqb-true, eq-eqb, ne_eqb}
use Rattle.lists.specs.Lists.{joined}
use Rattle.lists.proofs.Tests.{and-of, and-fst, and-snd, same_test, cond-true, cond-false}
use Rattle.lists.proofs.Joined.{joined-cons, joined-map-append}
use Rattle.definition.specs.Tree.{Leaf, Level}
use Rattle.definition.specs.Packed.{most_levels, leaves_in_lem, packed_borrowed}
use Rattle.formats.specs.Bytes.{number_size}
use Rattle.stored.specs.Stored.{counts_size, one_domain, level_in, after_level, levels_at}
use Rattle.tree_tests.specs.InTurn.{among, level_passes, fewer, levels_pass}
use Rattle.tree_tests.specs.Whole.{level_whole, levels_whole}
use Rattle.tree_tests.proofs.Levels.{levels-pass-same}
use Rattle.tree_tests.proofs.Lengths.{length-leaves-in}
use Rattle.marks.specs.Bits.{Marked}
use Rattle.marks.proofs.Marks.{held, bits-marked, marked-held}
use Rattle.file_domains.specs.Domains.{borrowed_rows}
use Rattle.file_domains.proofs.DomainsInTurn.{and-apart}
use Rattle.file_levels.specs.declared.LevelPassed.{LevelPassed}
use Rattle.file_levels.specs.Levels.{between, LevelHere, LevelPassedIs, TreePassedIs}

-- ---- the tests of the levels at the front of bytes, at most f of them
abbrev answer : ℕ → (ℕ → Bool) → (ℕ → Bool) → ℕ → List ℕ → Bool
answer d counts above f bs = levels_whole d f bs && levels_pass d counts above (levels_at d f bs)

-- row counts that are tested alike
counts_same : (d : ℕ) (counts counts' above : ℕ → Bool) (ls : List Level) → ((k : ℕ) → counts k ≡ counts' k) → levels_pass d counts above ls ≡ levels_pass d counts' above ls
unfolding levels_pass level_passes
counts_same d counts counts' above [] h = refl
counts_same d counts counts' above (l ∷ []) h = rw (h (length l.points))
counts_same d counts counts' above (l ∷ m ∷ ls) h = rw (h (length l.points))

answer-same : (d : ℕ) (counts counts' above above' : ℕ → Bool) (f : ℕ) (bs : List ℕ) → ((k : ℕ) → counts k ≡ counts' k) → ((i : ℕ) → above i ≡ above' i)
    → answer d counts above f bs ≡ answer d counts' above' f bs
answer-same d counts counts' above above' f bs h g =
    ap (λ (b : Bool). levels_whole d f bs && b) (counts_same d counts counts' above (levels_at d f bs) h ∙ levels-pass-same d counts' above above' (levels_at d f bs) g)

-- the first level, and what is asked of those behind it
last_apart : (w e p : Bool) → (w && e) && p ≡ (w && p) && e
last_apart false e p = refl
last_apart true false p = sym (and-false p)
last_apart true true false = refl
last_apart true true true = refl

module _ (d : ℕ) (counts above : ℕ → Bool) (w : Bool) (l : Level) (after : List ℕ) where
  abbrev behind : ℕ → Bool
  behind f = answer d (fewer (length l.points)) (among l.points) f after

  split : (o : Bool) → eqb (length l.leaves) 1 ≡ o → (f : ℕ)
      → (w && cond o (eqb (length after) 0) (levels_whole d f after)) && levels_pass d counts above (l ∷ cond o [] (levels_at d f after))
      ≡ (w && level_passes d o counts above l) && cond o (eqb (length after) 0) (behind f)
  unfolding levels_pass levels_whole levels_at
  split true e f = ap (λ (b : Bool). (w && eqb (length after) 0) && (b && level_passes d true counts above l)) e ∙ last_apart w (eqb (length after) 0) (level_passes d true counts above l)
  split false e zero = ap (λ (b : Bool). b && levels_pass d counts above (l ∷ [])) (and-false w) ∙ sym (and-false (w && level_passes d false counts above l))
  split false e (suc f) =
      ap (λ (b : Bool). (w && levels_whole d (suc f) after) && (not b && level_passes d false counts above l && levels_pass d (fewer (length l.points)) (among l.points) (levels_at d (suc f) after))) e
      ∙ and-apart w (levels_whole d (suc f) after) (level_passes d false counts above l) (levels_pass d (fewer (length l.points)) (among l.points) (levels_at d (suc f) after))

first-and-rest : (d : ℕ) (counts above : ℕ → Bool) (f : ℕ) (bs : List ℕ)
    → answer d counts above (suc f) bs
    ≡ (level_whole d bs && level_passes d (one_domain bs) counts above (level_in d bs))
    && cond (one_domain bs) (eqb (length (after_level d bs)) 0) (answer d (fewer (length (level_in d bs).points)) (among (level_in d bs).points) f (after_level d bs))
unfolding levels_whole levels_at
first-and-rest d counts above f bs =
    split d counts above (level_whole d bs) (level_in d bs) (after_level d bs) (one_domain bs) (ap (λ (k : ℕ). eqb k 1) (length-leaves-in d bs)) f

-- ---- the counts of the first level and of those behind it
leaves-more : (l : Level) (ls : List Level) → length (leaves_in_lem (l ∷ ls)) ≡ length l.leaves + length (leaves_in_lem ls)
unfolding leaves_in_lem
leaves-more l ls = ap length (joined-cons l.leaves (map (λ m. m.leaves) ls)) ∙ length-append l.leaves (joined (map (λ m. m.leaves) ls))

borrowed-more : (l : Level) (ls : List Level) → length (packed_borrowed (l ∷ ls)) ≡ length (borrowed_rows l.leaves) + length (packed_borrowed ls)
unfolding packed_borrowed leaves_in_lem
borrowed-more l ls =
    ap (λ (fs : List Leaf). length (borrowed_rows fs)) (joined-cons l.leaves (map (λ m. m.leaves) ls))
    ∙ ap length (joined-map-append (λ (f : Leaf). f.borrowed) l.leaves (joined (map (λ m. m.leaves) ls)))
    ∙ length-append (borrowed_rows l.leaves) (borrowed_rows (joined (map (λ m. m.leaves) ls)))

leaves_none : length (leaves_in_lem []) ≡ 0
unfolding leaves_in_lem joined
leaves_none = refl

borrowed-none : length (packed_borrowed []) ≡ 0
unfolding packed_borrowed leaves_in_lem joined
borrowed-none = refl

-- how many of something levels have, level by level
record Counting (size : List Level → ℕ) (own : Level → ℕ) : Type 0 where
  more : (l : Level) (ls : List Level) → size (l ∷ ls) ≡ own l + size ls
  none : size [] ≡ 0

leaves-counted : Counting (λ ls. length (leaves_in_lem ls)) (λ l. length l.leaves)
leaves-counted = record { more = leaves-more; none = leaves_none }

borrowed-counted : Counting (λ ls. length (packed_borrowed ls)) (λ l. length (borrowed_rows l.leaves))
borrowed-counted = record { more = borrowed-more; none = borrowed-none }

module _ {size : List Level → ℕ} {own : Level → ℕ} (k : Counting size own) (d f : ℕ) (bs : List ℕ) where
  counted-last : one_domain bs ≡ true → size (levels_at d (suc f) bs) ≡ own (level_in d bs)
  unfolding levels_at
  counted-last o = k.more (level_in d bs) _ ∙ omega (arith, ap size (cond-true (one_domain bs) [] (levels_at d f (after_level d bs)) o), k.none)

  counted-more : one_domain bs ≡ false → size (levels_at d (suc f) bs) ≡ own (level_in d bs) + size (levels_at d f (after_level d bs))
  unfolding levels_at
  counted-more o = k.more (level_in d bs) _ ∙ omega (arith, ap size (cond-false (one_domain bs) [] (levels_at d f (after_level d bs)) o))

-- ---- the loop
pub record LevelsTested (file : List ℕ) (at d n : ℕ) (listed : List ℕ) (place least below domains borrowed i : ℕ) : Type 0 where
  pub within : place ≤ length file
  pub room : at + counts_size * domains + number_size * borrowed ≤ place
  pub domains-all : domains + length (leaves_in_lem (levels_at d (most_levels - i) (drop place file))) ≡ length (leaves_in_lem (levels_at d most_levels (drop at file)))
  pub borrowed-all : borrowed + length (packed_borrowed (levels_at d (most_levels - i) (drop place file))) ≡ length (packed_borrowed (levels_at d most_levels (drop at file)))
  pub rest : answer d (between least below) (held listed) (most_levels - i) (drop place file) ≡ answer d (λ k. eqb k n) (λ j. ltb j n) most_levels (drop at file)

only-n : (n k : ℕ) → between n (n + 1) k ≡ eqb k n
only-n n k =
    same_test (between n (n + 1) k) (eqb k n)
    (λ h. eq-eqb k n (omega (arith, leb-true n k (and-fst (leb n k) (ltb k (n + 1)) h), ltb-true k (n + 1) (and-snd (leb n k) (ltb k (n + 1)) h))))
    (λ h. let e = eqb-true k n h in and-of (le-leb n k (omega arith)) (lt-ltb k (n + 1) (omega arith)))

pub levels-start : (file : List ℕ) (at d n : ℕ) (listed : List ℕ) → at ≤ length file → Marked listed (λ j. ltb j n) → LevelsTested file at d n listed at n (n + 1) 0 0 0
levels-start file at d n listed h m =
    record {
      within = h;
      room = omega arith;
      domains-all = omega arith;
      borrowed-all = omega arith;
      rest = answer-same d (between n (n + 1)) (λ k. eqb k n) (held listed) (λ j. ltb j n) most_levels (drop at file) (only-n n) (λ j. marked-held m j);
    }

module _ (file : List ℕ) (at d n : ℕ) (listed : List ℕ) (place least below domains borrowed i : ℕ)
    (s : LevelsTested file at d n listed place least below domains borrowed i) where
  abbrev here : List ℕ
  here = drop place file

  refused : answer d (between least below) (held listed) (most_levels - i) here ≡ false → TreePassedIs file at d n None
  refused g = record { tests = sym g ∙ s.rest; passed = tt }

  -- no level with one domain stood among those that may be read
  pub levels-none : most_levels ≤ i → TreePassedIs file at d n None
  unfolding levels_whole levels_at
  levels-none h = let z : most_levels - i ≡ 0 = omega arith in refused (ap (λ (f : ℕ). answer d (between least below) (held listed) f here) z)

  -- ---- level i
  module _ (h : i < most_levels) (new-listed : List ℕ) (o : Option LevelPassed)
      (said : (p : ℕ → Bool) → Marked listed p → LevelPassedIs file place d least below p new-listed o) where
    one_less : most_levels - i ≡ suc (most_levels - (i + 1))
    one_less = omega arith

    told : LevelPassedIs file place d least below (held listed) new-listed o
    told = said (held listed) (bits-marked listed)

    abbrev later : Bool
    later = answer d (fewer (length (level_in d here).points)) (among (level_in d here).points) (most_levels - (i + 1)) (after_level d here)

    now-first : answer d (between least below) (held listed) (most_levels - i) here ≡ is_some o && cond (one_domain here) (eqb (length (after_level d here)) 0) later
    now-first =
        ap (λ (f : ℕ). answer d (between least below) (held listed) f here) one_less ∙ first-and-rest d (between least below) (held listed) (most_levels - (i + 1)) here
        ∙ ap (λ (b : Bool). b && cond (one_domain here) (eqb (length (after_level d here)) 0) later) (sym told.tests)

    -- it does not pass
    pub level-bad : o ≡ None → TreePassedIs file at d n None
    level-bad g = refused (now-first ∙ ap (λ (b : Bool). b && cond (one_domain here) (eqb (length (after_level d here)) 0) later) (ap is_some g))

    -- it does
    module _ (l : LevelPassed) (g : o ≡ Some l) where
      abbrev it : LevelHere file place d new-listed l
      it = (rw g at told).passed

      now-rest : answer d (between least below) (held listed) (most_levels - i) here ≡ cond (one_domain here) (eqb (length (after_level d here)) 0) later
      now-rest = now-first ∙ ap (λ (b : Bool). b && cond (one_domain here) (eqb (length (after_level d here)) 0) later) (ap is_some g)

      -- its domains and borrowed rows lie in the file with those before
      pub level-fits : (domains + l.domains ≤ length file) × (borrowed + l.borrowed ≤ length file)
      level-fits = (omega (arith, s.room, it.past, it.within), omega (arith, s.room, it.past, it.within))

      one-is : one_domain here ≡ eqb l.domains 1
      one-is = ap (λ (k : ℕ). eqb k 1) (sym (it.domains ∙ length-leaves-in d here))

      count-now : {size : List Level → ℕ} {own : Level → ℕ} → Counting size own → size (levels_at d (most_levels - i) here) ≡ size (levels_at d (suc (most_levels - (i + 1))) here)
      count-now {size} k = ap (λ (f : ℕ). size (levels_at d f here)) one_less

      -- it is the last one
      module _ (one : l.domains ≡ 1) where
        is_one : one_domain here ≡ true
        is_one = one-is ∙ eq-eqb l.domains 1 one

        now-end : answer d (between least below) (held listed) (most_levels - i) here ≡ eqb (length (drop l.next file)) 0
        now-end = now-rest ∙ cond-true (one_domain here) (eqb (length (after_level d here)) 0) later is_one ∙ ap (λ (bs : List ℕ). eqb (length bs) 0) (sym it.after)

        -- bytes stand after it
        pub levels-trail : (l.next ≡ length file → ⊥) → TreePassedIs file at d n None
        levels-trail k = refused (now-end ∙ ne_eqb (length (drop l.next file)) 0 (λ z. k (omega (arith, length-drop l.next file, it.within))))

        -- none do
        pub levels-end : l.next ≡ length file → TreePassedIs file at d n (Some (record { domains = domains + l.domains; borrowed = borrowed + l.borrowed }))
        levels-end z =
            record {
              tests = sym (now-end ∙ eq-eqb (length (drop l.next file)) 0 (omega (arith, length-drop l.next file))) ∙ s.rest;
              passed =
                  record {
                    domains = omega (arith, s.domains-all, count-now leaves-counted, counted-last leaves-counted d (most_levels - (i + 1)) here is_one, it.domains);
                    borrowed = omega (arith, s.borrowed-all, count-now borrowed-counted, counted-last borrowed-counted d (most_levels - (i + 1)) here is_one, it.borrowed);
                  };
            }

      -- another one follows
      module _ (more : l.domains ≡ 1 → ⊥) where
        not-one : one_domain here ≡ false
        not-one = one-is ∙ ne_eqb l.domains 1 more

        fewer-rows : (k : ℕ) → fewer (length (level_in d here).points) k ≡ between 1 l.rows k
        fewer-rows k = ap (λ (a : ℕ). ltb 0 k && ltb k a) (sym it.rows)

        now-later : later ≡ answer d (between 1 l.rows) (held new-listed) (most_levels - (i + 1)) (drop l.next file)
        now-later =
            answer-same d (fewer (length (level_in d here).points)) (between 1 l.rows) (among (level_in d here).points) (held new-listed) (most_levels - (i + 1)) (after_level d here)
            fewer-rows (λ j. sym (marked-held it.listed_set j))
            ∙ ap (λ (bs : List ℕ). answer d (between 1 l.rows) (held new-listed) (most_levels - (i + 1)) bs) (sym it.after)

        count-later : {size : List Level → ℕ} {own : Level → ℕ} → Counting size own → size (levels_at d (most_levels - (i + 1)) (after_level d here)) ≡ size (levels_at d (most_levels - (i + 1)) (drop l.next file))
        count-later {size} k = ap (λ (bs : List ℕ). size (levels_at d (most_levels - (i + 1)) bs)) (sym it.after)

        pub levels-next : LevelsTested file at d n new-listed l.next 1 l.rows (domains + l.domains) (borrowed + l.borrowed) (i + 1)
        levels-next =
            record {
              within = it.within;
              room = omega (arith, s.room, it.past);
              domains-all = omega (arith, s.domains-all, count-now leaves-counted, counted-more leaves-counted d (most_levels - (i + 1)) here not-one, count-later leaves-counted, it.domains);
              borrowed-all = omega (arith, s.borrowed-all, count-now borrowed-counted, counted-more borrowed-counted d (most_levels - (i + 1)) here not-one, count-later borrowed-counted, it.borrowed);
              rest = sym now-later ∙ sym (now-rest ∙ cond-false (one_domain here) (eqb (length (after_level d here)) 0) later not-one) ∙ s.rest;
            }
