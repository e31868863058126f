-- The first coordinate of the rows that is not finite, found row by row. Assumes nothing.
-- Holds: flag-live, flag-retired, None, none_first, none-same, none_more, judged-none, judged-here
use mathlib.Core.Path.{◌≡◌, refl, sym, ap, ◌∙◌}
use mathlib.Core.Bool.{Bool, true, false, not, ◌||◌, cond}
use mathlib.Core.List.{List, [], ◌∷◌, ◌++◌}
use Prim.Native.Nat.{ℕ, suc, ◌+◌, ◌-◌, ◌*◌, ◌≤◌, ◌<◌}
use native.Mathlib.Omega.{arith}
use native.Mathlib.Nat.{zero-add}
use borrow.Author.Tests.{lt-ltb, le-ltb, eq-eqb, ne_eqb}
use lib.ListN.{length, get_or}
use lib.Dec.{ltb}
use lib.Ieee.{Float, nan}
use lib.Ieee.Scale.{finite}
use Rattle.lists.specs.Lists.{cons_if, keep, any_of, from, joined, part}
use Rattle.lists.proofs.Tests.{clash}
use Rattle.lists.proofs.Count.{keep_append, keep-none, keep-in, keep_out}
use Rattle.lists.proofs.From.{below_suc, from-append}
use Rattle.lists.proofs.Members.{any_append, none_any}
use Rattle.lists.proofs.Joined.{joined-map-append, joined-map-snoc}
use Rattle.lists.proofs.Put.{get_d_part, length_part}
use Rattle.definition.specs.Refusals.{accepted, refused, verdict, first_bad}
use Rattle.definition.specs.Table.{flagged}
use Rattle.definition.specs.Slots.{places_of_rows, bad_at, rows_not_finite}
use Rattle.build_checks.proofs.Laws.{bad-test}
use Rattle.table_laws.proofs.AllLive.{first-place}

-- ---- a flag as the code tests it
pub flag-live : (flags : List ℕ) (i : ℕ) → (get_or flags i 0 ≡ 0 → ⊥) → flagged flags i ≡ true
flag-live flags i h = simp (ne_eqb (get_or flags i 0) 0 h)

pub flag-retired : (flags : List ℕ) (i : ℕ) → get_or flags i 0 ≡ 0 → flagged flags i ≡ false
flag-retired flags i h = simp (eq-eqb (get_or flags i 0) 0 h)

-- ---- one row: its coordinates are a stretch of the list
module _ (d : ℕ) (cs : List Float) (i : ℕ) (inside : i * d + d ≤ length cs) where
  abbrev own : List Float
  own = part cs (i * d) d

  long : length (part cs (i * d) d) ≡ d
  long = length_part cs (i * d) d inside

  read : (any_of (bad_at cs) (from (i * d) d) ≡ any_of (λ x. not (finite x)) (part cs (i * d) d))
      × (any_of (λ x. not (finite x)) (part cs (i * d) d) ≡ true → get_or (keep (bad_at cs) (from (i * d) d)) 0 0 ≡ first_bad (i * d) (part cs (i * d) d))
  read = rw long at (first-place cs (i * d) own (λ j h. sym (get_d_part cs (i * d) d j nan (omega (arith, long)))))

  row_any : any_of (bad_at cs) (from (i * d) d) ≡ ltb (first_bad 0 (part cs (i * d) d)) d
  row_any = read.0 ∙ bad-test 0 own ∙ ap (ltb (first_bad 0 own)) (omega (arith, long))

-- counted from another position on
bad-shift : (k i : ℕ) (xs : List Float) → first_bad (k + i) xs ≡ k + first_bad i xs
unfolding first_bad
bad-shift k i [] = refl
bad-shift k i (x ∷ xs) = go (finite x) (ap (λ (m : ℕ). first_bad m xs) (omega arith) ∙ bad-shift k (suc i) xs)
  where
    go : (b : Bool) → first_bad (suc (k + i)) xs ≡ k + first_bad (suc i) xs → cond b (first_bad (suc (k + i)) xs) (k + i) ≡ k + cond b (first_bad (suc i) xs) i
    go true e = e
    go false e = refl

-- the first that passes, where one does
keep-first : (p : ℕ → Bool) (xs ys : List ℕ) → any_of p xs ≡ true → get_or (keep p (xs ++ ys)) 0 0 ≡ get_or (keep p xs) 0 0
unfolding any_of keep
keep-first p [] ys e = clash e refl
keep-first p (x ∷ xs) ys e = go (p x) (keep-first p xs ys) e
  where
    go : (b : Bool) → (any_of p xs ≡ true → get_or (keep p (xs ++ ys)) 0 0 ≡ get_or (keep p xs) 0 0) → b || any_of p xs ≡ true
        → get_or (cons_if b x (keep p (xs ++ ys))) 0 0 ≡ get_or (cons_if b x (keep p xs)) 0 0
    go true f e = refl
    go false f e = f e

-- ---- the rows that a test keeps, those below i passed
module _ (d : ℕ) (cs : List Float) (p : ℕ → Bool) where
  abbrev pub None : ℕ → Type 0
  None i = any_of (bad_at cs) (places_of_rows d (keep p (from 0 i))) ≡ false

  pub none_first : None 0
  unfolding places_of_rows keep from joined any_of
  none_first = refl

  pub none-same : (i : ℕ) → p i ≡ false → None i → None (i + 1)
  none-same i f e = ap (λ (l : List ℕ). any_of (bad_at cs) (places_of_rows d l)) (ap (keep p) (below_suc i) ∙ keep_out p (from 0 i) i f) ∙ e

  pub none_more : (i : ℕ) → p i ≡ true → i * d + d ≤ length cs → d ≤ first_bad 0 (part cs (i * d) d) → None i → None (i + 1)
  unfolding places_of_rows
  none_more i t inside fine e =
      ap (λ (l : List ℕ). any_of (bad_at cs) (places_of_rows d l)) (ap (keep p) (below_suc i) ∙ keep-in p (from 0 i) i t)
      ∙ ap (any_of (bad_at cs)) (joined-map-snoc (λ i. from (i * d) d) (keep p (from 0 i)) i)
      ∙ any_append (bad_at cs) (places_of_rows d (keep p (from 0 i))) (from (i * d) d)
      ∙ rw (e, row_any d cs i inside) (le-ltb (first_bad 0 (part cs (i * d) d)) d fine)

  -- none is left
  pub judged-none : (i n : ℕ) → i ≤ n → n ≤ i → None i → accepted ≡ verdict (rows_not_finite d cs (keep p (from 0 n)) ∷ [])
  unfolding verdict
  judged-none i n h g e = let same : i ≡ n = omega arith in rw (← same, e)

  -- ---- the first is a coordinate of row i
  module _ (i n : ℕ) (below : i < n) (t : p i ≡ true) (inside : i * d + d ≤ length cs) (none : None i) (bad : first_bad 0 (part cs (i * d) d) < d) where
    rows_split : keep p (from 0 n) ≡ keep p (from 0 i) ++ i ∷ keep p (from (suc i) (n - suc i))
    unfolding from keep
    rows_split =
        let m : n ≡ i + suc (n - suc i) = omega arith in
        ap (λ (k : ℕ). keep p (from 0 k)) m ∙ ap (keep p) (from-append 0 i (suc (n - suc i))) ∙ keep_append p (from 0 i) (from (0 + i) (suc (n - suc i)))
        ∙ ap (λ (k : ℕ). keep p (from 0 i) ++ keep p (from k (suc (n - suc i)))) (zero-add i)
        ∙ rw t

    places-split : places_of_rows d (keep p (from 0 n)) ≡ places_of_rows d (keep p (from 0 i)) ++ (from (i * d) d ++ places_of_rows d (keep p (from (suc i) (n - suc i))))
    unfolding places_of_rows joined
    places-split = ap (places_of_rows d) rows_split ∙ joined-map-append (λ i. from (i * d) d) (keep p (from 0 i)) (i ∷ keep p (from (suc i) (n - suc i)))

    here : any_of (bad_at cs) (from (i * d) d) ≡ true
    here = row_any d cs i inside ∙ lt-ltb (first_bad 0 (part cs (i * d) d)) d bad

    some : any_of (bad_at cs) (places_of_rows d (keep p (from 0 n))) ≡ true
    some =
        ap (any_of (bad_at cs)) places-split ∙ any_append (bad_at cs) (places_of_rows d (keep p (from 0 i))) _
        ∙ rw none (any_append (bad_at cs) (from (i * d) d) (places_of_rows d (keep p (from (suc i) (n - suc i)))) ∙ rw here)

    first : get_or (keep (bad_at cs) (places_of_rows d (keep p (from 0 n)))) 0 0 ≡ i * d + first_bad 0 (part cs (i * d) d)
    first =
        let rest = places_of_rows d (keep p (from (suc i) (n - suc i))) in
        ap (λ (l : List ℕ). get_or (keep (bad_at cs) l) 0 0) places-split
        ∙ ap (λ (l : List ℕ). get_or l 0 0) (keep_append (bad_at cs) (places_of_rows d (keep p (from 0 i))) (from (i * d) d ++ rest))
        ∙ ap (λ (l : List ℕ). get_or (l ++ keep (bad_at cs) (from (i * d) d ++ rest)) 0 0)
        (keep-none (bad_at cs) (places_of_rows d (keep p (from 0 i))) (λ x m. none_any (bad_at cs) (places_of_rows d (keep p (from 0 i))) none m))
        ∙ keep-first (bad_at cs) (from (i * d) d) rest here
        ∙ (read d cs i inside).1 (sym (read d cs i inside).0 ∙ here)
        ∙ ap (λ (k : ℕ). first_bad k (part cs (i * d) d)) (omega arith) ∙ bad-shift (i * d) 0 (part cs (i * d) d)

    pub judged-here : refused (record { number = 10; place = i * d + first_bad 0 (part cs (i * d) d) }) ≡ verdict (rows_not_finite d cs (keep p (from 0 n)) ∷ [])
    unfolding verdict
    judged-here = rw (some, first)
