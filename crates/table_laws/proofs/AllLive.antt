-- Over a table that 27 passes, whose slots are all live and fill its capacity, with the coordinates of exactly that many points, the build
-- over slots is the build: its verdict, its answer, every list and the records. Assumes nothing.
-- Holds: places-below, first-place, judged-same, all_live, same-levels, same-verdicts, same-answers, same_lists, same-records
use mathlib.Core.Path.{◌≡◌, refl, sym, ap, ap₂, ◌∙◌}
use mathlib.Core.Logic.{⊎_elim}
use mathlib.Core.Bool.{Bool, true, false, not, ◌||◌, cond}
use mathlib.Core.List.{List, [], ◌∷◌, ◌++◌, map}
use Prim.Native.Nat.{ℕ, zero, suc, ◌+◌, ◌*◌, ◌/◌, ◌%◌, ◌≤◌, ◌<◌}
use native.Mathlib.Omega.{arith}
use native.Mathlib.Nat.{mul-div_cancel, mul-mod_left, suc-mul, zero-add, zero-mul}
use borrow.Author.Tests.{eq-eqb, le-ltb}
use lib.ListN.{length, get_or}
use lib.Ieee.{Float, nan}
use lib.Ieee.Scale.{finite}
use Rattle.lists.specs.Lists.{keep, any_of, from, joined}
use Rattle.lists.proofs.Tests.{clash, or-false, true-or-false}
use Rattle.lists.proofs.Ascends.{ascends-full}
use Rattle.lists.proofs.From.{below-snoc, from-append}
use Rattle.lists.proofs.Joined.{joined-nil, joined-map-snoc}
use Rattle.definition.specs.Tree.{Settings, Level, levels, levels_over, point_count}
use Rattle.definition.specs.Packed.{BuildSizes, build_stated, counts_of}
use Rattle.definition.specs.Refusals.{Refusal, Test, Verdict, refused, on, verdict, wrong_dimension_lem, coordinates_missing, first_bad, not_finite_lem, settings_tests, points_tests, build_short, build_tests, build_verdict}
use Rattle.definition.specs.Outcome.{RecordLists, TreeLists, answered, value_of, list_after, tree_lists_after, record_lists_after, zero_counts, build_answer, build_lists, build_records}
use Rattle.definition.specs.Table.{Table, capacity, unsound, coordinates_short}
use Rattle.definition.specs.Slots.{places_of_rows, bad_at, rows_not_finite, rows_of, slots_verdict, slot_levels, slots_answer, slots_lists, slots_records}
use Rattle.definition_laws.proofs.Accepted.{decides, pass, right-dimension, build-accepted}
use Rattle.table_laws.proofs.Outcomes.{same_outcome}
use Rattle.table_laws.proofs.Live.{Sound, sound-table, live-mem}
use Rattle.table_laws.proofs.Slots.{live-ascends, own_tests, own-wrong}

-- ---- tests

-- what comes after the same tests
after : (ts us vs : List Test) → verdict us ≡ verdict vs → verdict (ts ++ us) ≡ verdict (ts ++ vs)
unfolding verdict
after [] us vs e = e
after (t ∷ ts) us vs e = ap (cond t.holds (refused t.refusal)) (after ts us vs e)

-- ---- the coordinates of the rows below n are those of the list, in its order
pub places-below : (d n : ℕ) → places_of_rows d (from 0 n) ≡ from 0 (n * d)
unfolding places_of_rows from
places-below d zero = rw zero-mul joined-nil
places-below d (suc n) =
    ap (λ (l : List ℕ). joined (map (λ i. from (i * d) d) l)) (below-snoc n) ∙ joined-map-snoc (λ i. from (i * d) d) (from 0 n) n
    ∙ ap (λ (l : List ℕ). l ++ from (n * d) d) (places-below d n)
    ∙ ap (λ (k : ℕ). from 0 (n * d) ++ from k d) (sym (zero-add (n * d))) ∙ sym (from-append 0 (n * d) d) ∙ ap (from 0) (sym (suc-mul n d))

-- ---- the first one that is not finite, by places and along the list
module _ (cs : List Float) where
  pub first-place : (i : ℕ) (xs : List Float) → ((j : ℕ) → j < length xs → get_or cs (i + j) nan ≡ get_or xs j nan)
      → (any_of (bad_at cs) (from i (length xs)) ≡ any_of (λ x. not (finite x)) xs)
      × (any_of (λ x. not (finite x)) xs ≡ true → get_or (keep (bad_at cs) (from i (length xs))) 0 0 ≡ first_bad i xs)
  unfolding any_of keep from first_bad
  first-place i [] same = (refl, λ e. clash e refl)
  first-place i (x ∷ xs) same =
      let rest = first-place (suc i) xs (λ j h. ap (λ (k : ℕ). get_or cs k nan) (omega arith) ∙ same (suc j) (omega arith)) in
      let here : get_or cs i nan ≡ x = ap (λ (k : ℕ). get_or cs k nan) (omega arith) ∙ same 0 (omega arith) in
      ⊎_elim
      (λ (f : finite x ≡ true). (rw (here, f) rest.0, λ e. rw (here, f) (rest.1 (rw f at e))))
      (λ (f : finite x ≡ false). (rw (here, f), λ e. rw (here, f)))
      (true-or-false (finite x))

-- so the test of the rows below n says what that of the list says
pub judged-same : (d : ℕ) (cs : List Float) (n : ℕ) → length cs ≡ n * d → verdict (rows_not_finite d cs (from 0 n) ∷ []) ≡ verdict (not_finite_lem cs ∷ [])
judged-same d cs n e =
    let places : places_of_rows d (from 0 n) ≡ from 0 (length cs) = places-below d n ∙ ap (from 0) (sym e) in
    let both = first-place cs 0 cs (λ j h. ap (λ (k : ℕ). get_or cs k nan) (zero-add j)) in
    ⊎_elim
    (λ (f : any_of (λ x. not (finite x)) cs ≡ true).
    decides (rows_not_finite d cs (from 0 n)) [] (ap (any_of (bad_at cs)) places ∙ both.0 ∙ f)
    ∙ ap (λ (p : ℕ). refused (record { number = 10; place = p })) (ap (λ (l : List ℕ). get_or (keep (bad_at cs) l) 0 0) places ∙ both.1 f)
    ∙ sym (decides (not_finite_lem cs) [] f))
    (λ (f : any_of (λ x. not (finite x)) cs ≡ false).
    pass (rows_not_finite d cs (from 0 n)) [] (ap (any_of (bad_at cs)) places ∙ both.0 ∙ f) ∙ sym (pass (not_finite_lem cs) [] f))
    (true-or-false (any_of (λ x. not (finite x)) cs))

-- ---- such a table
module _ (s : Settings) (t : Table) (sound : Sound t) (live : t.head.live ≡ t.head.slots) (filled : capacity t.flags ≡ t.head.slots)
    (exact : length t.coordinates ≡ t.head.slots * s.dimension) where
  abbrev d : ℕ
  d = s.dimension

  abbrev cs : List Float
  cs = t.coordinates

  abbrev n : ℕ
  n = t.head.slots

  -- its live slots are all slots
  pub all_live : rows_of t ≡ from 0 t.head.slots
  all_live =
      ascends-full 0 n (rows_of t) (live-ascends t) (λ x m. (omega arith, omega (arith, (live-mem t.head t.flags x m).0)))
      (sym (sound-table t.head t.flags sound).counted ∙ live)

  module _ (some : 1 ≤ s.dimension) where
    count_is : point_count d cs ≡ n
    count_is = ap (λ (k : ℕ). k / d) exact ∙ mul-div_cancel n (omega arith)

    whole : coordinates_missing d cs ≡ false
    whole = ap not (eq-eqb (length cs % d) 0 (ap (λ (k : ℕ). k % d) exact ∙ mul-mod_left n d))

    long : coordinates_short d t ≡ false
    long = le-ltb (length cs) (capacity t.flags * d) (omega (arith, exact, ap (λ (k : ℕ). k * d) filled))

    pub same-levels : slot_levels s t ≡ levels s t.coordinates
    unfolding slot_levels levels
    same-levels = ap (levels_over s cs) (all_live ∙ ap (from 0) (sym count_is))

  -- ---- the verdicts
  abbrev theirs : BuildSizes → List Test
  theirs lent = build_tests s (point_count d cs) (coordinates_missing d cs) (build_short lent (build_stated d (point_count d cs) s.neighbours)) (not_finite_lem cs)

  own_is : (lent : BuildSizes) → 1 ≤ s.dimension → own_tests s t lent ≡ build_tests s n false (build_short lent (build_stated d n s.neighbours)) (rows_not_finite d cs (from 0 n))
  own_is lent some =
      let short : ℕ → Bool = λ m. build_short lent (build_stated d m s.neighbours) in
      ap (λ (m : ℕ). build_tests s m false (build_short lent (build_stated d m s.neighbours) || coordinates_short d t) (rows_not_finite d cs (rows_of t))) live
      ∙ ap (λ (b : Bool). build_tests s n false (short n || b) (rows_not_finite d cs (rows_of t))) (long some)
      ∙ ap₂ (λ (b : Bool) (rows : List ℕ). build_tests s n false b (rows_not_finite d cs rows)) (or-false (short n)) all_live

  theirs-are : (lent : BuildSizes) → 1 ≤ s.dimension → build_tests s n false (build_short lent (build_stated d n s.neighbours)) (not_finite_lem cs) ≡ theirs lent
  theirs-are lent some =
      ap₂ (λ (m : ℕ) (b : Bool). build_tests s m b (build_short lent (build_stated d m s.neighbours)) (not_finite_lem cs)) (sym (count_is some)) (sym (whole some))

  fine-own : (lent : BuildSizes) → 1 ≤ s.dimension → verdict (own_tests s t lent) ≡ verdict (theirs lent)
  unfolding build_tests
  fine-own lent some =
      let stated = build_stated d n s.neighbours in
      ap verdict (own_is lent some)
      ∙ after (settings_tests s ++ points_tests s n false) (on (build_short lent stated) 11 ∷ rows_not_finite d cs (from 0 n) ∷ []) (on (build_short lent stated) 11 ∷ not_finite_lem cs ∷ [])
      (after (on (build_short lent stated) 11 ∷ []) (rows_not_finite d cs (from 0 n) ∷ []) (not_finite_lem cs ∷ []) (judged-same d cs n exact))
      ∙ ap verdict (theirs-are lent some)

  theirs-wrong : (lent : BuildSizes) → wrong_dimension_lem s.dimension ≡ true → verdict (theirs lent) ≡ refused (record { number = 1; place = 0 })
  unfolding build_tests
  theirs-wrong lent w = decides (on (wrong_dimension_lem d) 1) _ w

  pub same-verdicts : (lent : BuildSizes) → slots_verdict s t lent ≡ build_verdict s t.coordinates lent
  unfolding slots_verdict build_verdict
  same-verdicts lent =
      pass (on (unsound t.head t.flags) 27) (own_tests s t lent) sound
      ∙ ⊎_elim
      (λ (w : wrong_dimension_lem d ≡ true). own-wrong s t lent w ∙ sym (theirs-wrong lent w))
      (λ (w : wrong_dimension_lem d ≡ false). fine-own lent (right-dimension d w).0)
      (true-or-false (wrong_dimension_lem d))

  -- ---- the answer, every list, and the records
  same-tree : {A : Type 0} (f : Verdict → List Level → A) → ((r : Refusal) (x y : List Level) → f (refused r) x ≡ f (refused r) y) → (lent : BuildSizes)
      → f (slots_verdict s t lent) (slot_levels s t) ≡ f (build_verdict s t.coordinates lent) (levels s t.coordinates)
  same-tree f refuses lent =
      same_outcome f refuses (build_verdict s cs lent) (slots_verdict s t lent) (levels s cs) (slot_levels s t) (same-verdicts lent) (λ e. same-levels (build-accepted s cs lent e).passes-all.axes)

  module _ (old : TreeLists) (floats : List Float) (wholes : List ℕ) (records : RecordLists) where
    pub same-answers : slots_answer s t old floats wholes records ≡ build_answer s t.coordinates old floats wholes records
    unfolding slots_answer build_answer value_of
    same-answers = same-tree (λ v ls. answered v (counts_of ls) zero_counts) (λ r x y. refl) _

    pub same_lists : slots_lists s t old floats wholes records ≡ build_lists s t.coordinates old floats wholes records
    unfolding slots_lists build_lists tree_lists_after list_after
    same_lists = same-tree (λ v ls. tree_lists_after v ls old) (λ r x y. refl) _

    pub same-records : slots_records s t old floats wholes records ≡ build_records s t.coordinates old floats wholes records
    unfolding slots_records build_records record_lists_after list_after
    same-records = same-tree (λ v ls. record_lists_after v s cs ls records) (λ r x y. refl) _
