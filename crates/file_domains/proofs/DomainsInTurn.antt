-- Domain records tested one after the other: those before i passed, and the rest decides. Assumes nothing.
-- Holds: and-apart, Tested, tested-start, tested-bad, tested-fits, tested-next, tested-left, tested-end
use Rattle.std.specs.Prelude.{Option, Some, None, is_some}
use mathlib.Core.Path.{◌≡◌, refl, sym, ap, ap₂, ◌∙◌}
use mathlib.Core.Bool.{Bool, true, false, ◌&&◌, and-false}
use Prim.Native.Nat.{ℕ, suc, ◌+◌, ◌-◌, ◌*◌, ◌≤◌, ◌<◌}
use native.Mathlib.Omega.{arith}
use mathlib.Core.List.{List}
use lib.Dec.{eqb}
use lib.ListN.{length, drop, length-append}
use lib.Seq.{drop-drop}
use borrow.Author.Tests.{eq-eqb, ne_eqb}
use Rattle.lists.specs.Lists.{joined}
use Rattle.lists.proofs.Joined.{joined-cons}
use Rattle.formats.specs.Bytes.{number_size, whole}
use Rattle.stored.specs.File.{domain_mark}
use Rattle.stored.specs.Stored.{counts_size, leaf_in, leaf_size, leaves_at_lem, after_leaves}
use Rattle.tree_tests.specs.InTurn.{without, fitted, leaf_passes, leaves_pass}
use Rattle.tree_tests.specs.Whole.{leaves_whole}
use Rattle.tree_tests.proofs.Leaves.{leaves-pass-same}
use Rattle.tree_tests.proofs.Sets.{without_in}
use Rattle.marks.specs.Bits.{Marked}
use Rattle.marks.proofs.Marks.{held, bits-marked, marked-held}
use Rattle.row_sets.specs.Tested.{LeftIsListed}
use Rattle.row_sets.proofs.RowTests.{inside-sets, sets-inside}
use Rattle.file_domains.specs.declared.Passed.{Passed}
use Rattle.file_domains.specs.Domains.{DomainHere, DomainPassed, DomainsPassed, borrowed_rows, last_depth}
use Rattle.file_domains.proofs.OneDomain.{domain-room}

-- ---- the tests of m records from the front of bytes on
abbrev answer : ℕ → Bool → ℕ → (ℕ → Bool) → (ℕ → Bool) → ℕ → ℕ → ℕ → List ℕ → Bool
answer d coarse a q p k least m bs = leaves_whole d coarse m bs && leaves_pass (fitted d coarse a) q p k least (leaves_at_lem d coarse m bs)

-- the first of them, and those behind it
abbrev first : ℕ → Bool → ℕ → (ℕ → Bool) → (ℕ → Bool) → ℕ → ℕ → List ℕ → Bool
first d coarse a q p k least bs = whole domain_mark (leaf_size d coarse bs) bs && leaf_passes (fitted d coarse a least) q p k (leaf_in d coarse bs)

pub and-apart : (w x l y : Bool) → (w && x) && (l && y) ≡ (w && l) && (x && y)
and-apart false x l y = refl
and-apart true x false y = and-false x
and-apart true x true y = refl

first-and-rest : (d : ℕ) (coarse : Bool) (a : ℕ) (q p : ℕ → Bool) (k least m : ℕ) (bs : List ℕ)
    → answer d coarse a q p k least (suc m) bs
    ≡ first d coarse a q p k least bs
    && answer d coarse a q (without (leaf_in d coarse bs).own p) (k - length (leaf_in d coarse bs).own) (leaf_in d coarse bs).depth m (drop (leaf_size d coarse bs) bs)
unfolding leaves_whole leaves_at_lem leaves_pass
first-and-rest d coarse a q p k least m bs =
    and-apart (whole domain_mark (leaf_size d coarse bs) bs) (leaves_whole d coarse m (drop (leaf_size d coarse bs) bs)) (leaf_passes (fitted d coarse a least) q p k (leaf_in d coarse bs))
    (leaves_pass (fitted d coarse a) q (without (leaf_in d coarse bs).own p) (k - length (leaf_in d coarse bs).own) (leaf_in d coarse bs).depth (leaves_at_lem d coarse m (drop (leaf_size d coarse bs) bs)))

borrowed-first : (d : ℕ) (coarse : Bool) (m : ℕ) (bs : List ℕ)
    → length (borrowed_rows (leaves_at_lem d coarse (suc m) bs)) ≡ length (leaf_in d coarse bs).borrowed + length (borrowed_rows (leaves_at_lem d coarse m (drop (leaf_size d coarse bs) bs)))
unfolding leaves_at_lem
borrowed-first d coarse m bs =
    let l = (leaf_in d coarse bs).borrowed in
    let rest = borrowed_rows (leaves_at_lem d coarse m (drop (leaf_size d coarse bs) bs)) in
    ap length (joined-cons l _) ∙ length-append l rest

borrowed-none : (d : ℕ) (coarse : Bool) (bs : List ℕ) → length (borrowed_rows (leaves_at_lem d coarse 0 bs)) ≡ 0
unfolding leaves_at_lem joined
borrowed-none d coarse bs = refl

depth-first : (e d : ℕ) (coarse : Bool) (m : ℕ) (bs : List ℕ)
    → last_depth e (leaves_at_lem d coarse (suc m) bs) ≡ last_depth (leaf_in d coarse bs).depth (leaves_at_lem d coarse m (drop (leaf_size d coarse bs) bs))
unfolding leaves_at_lem last_depth
depth-first e d coarse m bs = refl

depth-none : (e d : ℕ) (coarse : Bool) (bs : List ℕ) → last_depth e (leaves_at_lem d coarse 0 bs) ≡ e
unfolding leaves_at_lem last_depth
depth-none e d coarse bs = refl

-- ---- the loop
pub record Tested (file : List ℕ) (at m d : ℕ) (coarse : Bool) (rows : ℕ) (old-left old-listed left listed : List ℕ) (next remaining borrowed least i : ℕ) : Type 0 where
  pub within : next ≤ length file
  pub kept : LeftIsListed left listed
  pub room : at + counts_size * i + number_size * borrowed ≤ next
  pub listed_set : (q : ℕ → Bool) → Marked old-listed q → Marked listed q
  pub after : after_leaves d coarse (m - i) (drop next file) ≡ after_leaves d coarse m (drop at file)
  pub borrowed-all : borrowed + length (borrowed_rows (leaves_at_lem d coarse (m - i) (drop next file))) ≡ length (borrowed_rows (leaves_at_lem d coarse m (drop at file)))
  pub depth-last : last_depth least (leaves_at_lem d coarse (m - i) (drop next file)) ≡ last_depth 0 (leaves_at_lem d coarse m (drop at file))
  pub rest : (p q : ℕ → Bool) → Marked old-left p → Marked old-listed q
      → answer d coarse rows q (held left) remaining least (m - i) (drop next file) ≡ answer d coarse rows q p rows 0 m (drop at file)

pub tested-start : (file : List ℕ) (at m d : ℕ) (coarse : Bool) (rows : ℕ) (left listed : List ℕ) → at ≤ length file → LeftIsListed left listed
    → Tested file at m d coarse rows left listed left listed at rows 0 0 0
tested-start file at m d coarse rows left listed h kept =
    let z : m - 0 ≡ m = omega arith in
    record {
      within = h;
      kept = kept;
      room = omega arith;
      listed_set = λ q n. n;
      after = ap (λ (k : ℕ). after_leaves d coarse k (drop at file)) z;
      borrowed-all = omega (arith, ap (λ (k : ℕ). length (borrowed_rows (leaves_at_lem d coarse k (drop at file)))) z);
      depth-last = ap (λ (k : ℕ). last_depth 0 (leaves_at_lem d coarse k (drop at file))) z;
      rest = λ p q a b. ap (λ (k : ℕ). answer d coarse rows q (held left) rows 0 k (drop at file)) z ∙ ap (λ (x : Bool). leaves_whole d coarse m (drop at file) && x)
          (leaves-pass-same (fitted d coarse rows) q q (λ i. refl) (leaves_at_lem d coarse m (drop at file)) (held left) p rows 0 (λ i. marked-held a i));
    }

module _ (file : List ℕ) (at m d : ℕ) (coarse : Bool) (rows : ℕ) (old-left old-listed left listed : List ℕ) (next remaining borrowed least i : ℕ)
    (s : Tested file at m d coarse rows old-left old-listed left listed next remaining borrowed least i) where
  abbrev here : List ℕ
  here = drop next file

  abbrev Whole : (p q : ℕ → Bool) (listed : List ℕ) (r : Option Passed) → Type 0
  Whole p q new r = DomainsPassed file at m d coarse rows p q new r

  refused : (p q : ℕ → Bool) (new : List ℕ) → Marked old-left p → Marked old-listed q
      → answer d coarse rows q (held left) remaining least (m - i) here ≡ false → Whole p q new None
  refused p q new a b g = record { tests = sym g ∙ s.rest p q a b; passed = tt }

  -- ---- record i
  module _ (h : i < m) (new-left new-listed : List ℕ) (o : Option Passed)
      (said : (p q : ℕ → Bool) → Marked left p → Marked listed q → DomainPassed file next d coarse rows least remaining p q new-left new-listed o) where
    one_less : m - i ≡ suc (m - (i + 1))
    one_less = omega arith

    abbrev behind : (ℕ → Bool) → Bool
    behind q = answer d coarse rows q (without (leaf_in d coarse here).own (held left)) (remaining - length (leaf_in d coarse here).own) (leaf_in d coarse here).depth (m - (i + 1)) (drop (leaf_size d coarse here) here)

    split : (q : ℕ → Bool) → answer d coarse rows q (held left) remaining least (m - i) here ≡ first d coarse rows q (held left) remaining least here && behind q
    split q = ap (λ (k : ℕ). answer d coarse rows q (held left) remaining least k here) one_less ∙ first-and-rest d coarse rows q (held left) remaining least (m - (i + 1)) here

    told : (q : ℕ → Bool) → Marked old-listed q → is_some o ≡ first d coarse rows q (held left) remaining least here
    told q b = (said (held left) q (bits-marked left) (s.listed_set q b)).tests

    -- it does not pass
    pub tested-bad : o ≡ None → (p q : ℕ → Bool) → Marked old-left p → Marked old-listed q → Whole p q new-listed None
    tested-bad g p q a b = refused p q new-listed a b (split q ∙ ap (λ (x : Bool). x && behind q) (sym (told q b) ∙ ap is_some g))

    -- it does
    module _ (f : Passed) (g : o ≡ Some f) where
      domain : (q : ℕ → Bool) → Marked listed q → DomainHere file next d coarse remaining (held left) q new-left new-listed f
      domain q b = (rw g at (said (held left) q (bits-marked left) b)).passed

      abbrev one : DomainHere file next d coarse remaining (held left) (held listed) new-left new-listed f
      one = domain (held listed) (bits-marked listed)

      after-it : drop (leaf_size d coarse here) here ≡ drop f.next file
      after-it = drop-drop (leaf_size d coarse here) next file ∙ ap (λ (k : ℕ). drop k file) (sym one.next)

      now-left : (q : ℕ → Bool) → behind q ≡ answer d coarse rows q (held new-left) f.leaves.remaining f.leaves.least (m - (i + 1)) (drop f.next file)
      now-left q =
          let p = without (leaf_in d coarse here).own (held left) in
          let left-over : remaining - length (leaf_in d coarse here).own ≡ f.leaves.remaining = omega (arith, one.own) in
          ap (λ (bs : List ℕ). answer d coarse rows q p (remaining - length (leaf_in d coarse here).own) (leaf_in d coarse here).depth (m - (i + 1)) bs) after-it
          ∙ ap₂ (λ (k e : ℕ). answer d coarse rows q p k e (m - (i + 1)) (drop f.next file)) left-over (sym one.depth)
          ∙ ap (λ (x : Bool). leaves_whole d coarse (m - (i + 1)) (drop f.next file) && x)
          (leaves-pass-same (fitted d coarse rows) q q (λ j. refl) (leaves_at_lem d coarse (m - (i + 1)) (drop f.next file)) p (held new-left) f.leaves.remaining f.leaves.least
          (λ j. sym (marked-held one.left_set j)))

      -- it lies in the file with its borrowed rows and those before
      pub tested-fits : borrowed + f.borrowed ≤ length file
      tested-fits = omega (arith, s.room, one.within, domain-room file next d coarse remaining (held left) (held listed) new-left new-listed f one)

      pub tested-next : length new-left ≡ length new-listed
          → Tested file at m d coarse rows old-left old-listed new-left new-listed f.next f.leaves.remaining (borrowed + f.borrowed) f.leaves.least (i + 1)
      unfolding after_leaves
      tested-next long =
          record {
            within = one.within;
            kept = sets-inside long one.left_set one.listed_set
                (λ x e. inside-sets s.kept (bits-marked left) (bits-marked listed) x (without_in (leaf_in d coarse here).own (held left) x e));
            room = omega (arith, s.room, domain-room file next d coarse remaining (held left) (held listed) new-left new-listed f one);
            listed_set = λ q b. (domain q (s.listed_set q b)).listed_set;
            after = ap (λ (bs : List ℕ). after_leaves d coarse (m - (i + 1)) bs) (sym after-it) ∙ sym (ap (λ (k : ℕ). after_leaves d coarse k here) one_less) ∙ s.after;
            borrowed-all =
                let e = borrowed-first d coarse (m - (i + 1)) here in
                let t = ap (λ (k : ℕ). length (borrowed_rows (leaves_at_lem d coarse k here))) one_less in
                let u = ap (λ (bs : List ℕ). length (borrowed_rows (leaves_at_lem d coarse (m - (i + 1)) bs))) after-it in
                omega (arith, e, t, u, one.borrowed, s.borrowed-all);
            depth-last =
                ap₂ (λ (e : ℕ) (bs : List ℕ). last_depth e (leaves_at_lem d coarse (m - (i + 1)) bs)) one.depth (sym after-it)
                ∙ sym (depth-first least d coarse (m - (i + 1)) here) ∙ sym (ap (λ (k : ℕ). last_depth least (leaves_at_lem d coarse k here)) one_less) ∙ s.depth-last;
            rest = λ p q a b. sym (now-left q) ∙ sym (ap (λ (x : Bool). x && behind q) (sym (told q b) ∙ ap is_some g)) ∙ sym (split q) ∙ s.rest p q a b;
          }

  -- ---- after the last record
  module _ (h : m ≤ i) where
    none_left : m - i ≡ 0
    none_left = omega arith

    all_told : (q : ℕ → Bool) → answer d coarse rows q (held left) remaining least (m - i) here ≡ eqb remaining 0
    unfolding leaves_whole leaves_at_lem leaves_pass
    all_told q = ap (λ (k : ℕ). answer d coarse rows q (held left) remaining least k here) none_left

    -- rows are left
    pub tested-left : (remaining ≡ 0 → ⊥) → (p q : ℕ → Bool) → Marked old-left p → Marked old-listed q → Whole p q listed None
    tested-left k p q a b = refused p q listed a b (all_told q ∙ ne_eqb remaining 0 k)

    -- none is
    pub tested-end : i ≤ m → remaining ≡ 0 → (p q : ℕ → Bool) → Marked old-left p → Marked old-listed q
        → Whole p q listed (Some (record { next = next; borrowed = borrowed; leaves = record { remaining = remaining; least = least } }))
    unfolding after_leaves leaves_at_lem
    tested-end l z p q a b =
        let e : i ≡ m = omega arith in
        record {
          tests = sym (all_told q ∙ eq-eqb remaining 0 z) ∙ s.rest p q a b;
          passed =
              record {
                after = sym (ap (λ (k : ℕ). after_leaves d coarse k here) none_left) ∙ s.after;
                within = s.within;
                past = omega (arith, e, s.room);
                own = z;
                borrowed = omega (arith, s.borrowed-all, ap (λ (k : ℕ). length (borrowed_rows (leaves_at_lem d coarse k here))) none_left ∙ borrowed-none d coarse here);
                depth = sym (ap (λ (k : ℕ). last_depth least (leaves_at_lem d coarse k here)) none_left ∙ depth-none least d coarse here) ∙ s.depth-last;
                listed_set = s.listed_set q b;
              };
        }
