-- Two tables with the same wells live, under other slots: the build over slots tries the same tests, answers and packs the same tree
-- with its rows renamed, and writes the same records. Assumes nothing.
-- Holds: places-renamed, judged-renamed, PackedRenamed, packed-renamed, lists-renamed, AnswerRenamed, TablesRenamed,
--   SlotsRenamed, verdict-renamed, slot-levels-renamed, slot-records-renamed, slots-renamed
use mathlib.Core.Path.{◌≡◌, refl, sym, ap, ap₂, subst, ◌∙◌}
use mathlib.Core.Logic.{⊎_elim}
use mathlib.Core.Bool.{Bool, true, false, not, ◌||◌, cond}
use mathlib.Core.List.{List, [], ◌∷◌, ◌++◌, map, map-map, Memᴰ, map-id}
use Prim.Native.Nat.{ℕ, ◌+◌, ◌-◌, ◌*◌, ◌/◌, ◌%◌, ◌<◌}
use native.Mathlib.Omega.{arith}
use native.Mathlib.Nat.{add-zero, mul-add-div_right, div-eq_of_lt, mul-add-mod_self_right, mod-eq_of_lt}
use lib.ListN.{length, get_or, take, drop, replicate, length-map}
use lib.Dec.{eqb}
use lib.Ieee.{Float}
use lib.Ieee.Scale.{finite}
use Rattle.lists.specs.Lists.{keep, any_of, from, joined}
use Rattle.lists.specs.Ascends.{All}
use Rattle.lists.proofs.Tests.{true-or-false}
use Rattle.lists.proofs.Ascends.{ascends-once}
use Rattle.lists.proofs.Count.{length-keep, count-some}
use Rattle.lists.proofs.From.{from-mem, map-from-shift, map-below-same}
use Rattle.lists.proofs.Map.{get_d-map-in, map-joined, map_same}
use Rattle.lists.proofs.Members.{any-mem, joined-mem, map-mem, mem-member}
use Rattle.definition.specs.Tree.{Settings, Leaf, Level, levels_over}
use Rattle.definition.specs.Record.{Node, nodes_in}
use Rattle.definition.specs.Packed.{leaves_in_lem, leaf_floats, packed_level_points, packed_internals, stretches, packed_domains, packed_boxes, packed_borrowed, most_levels, per_level, BuildSizes, build_stated, Counts, counts_of}
use Rattle.definition.specs.Refusals.{Refusal, Test, Verdict, accepted, refused, on, verdict, settings_tests, points_tests, build_short, build_tests}
use Rattle.definition.specs.Outcome.{RecordLists, Answer, answered, number_of, place_of, value_of, written, list_after, TreeLists, tree_lists_after, zero_counts}
use Rattle.definition.specs.Table.{Table, unsound, coordinates_short}
use Rattle.definition.specs.Slots.{places_of_rows, bad_at, rows_not_finite, rows_of, slots_verdict, slot_levels, slots_call, slots_answer, slots_lists, slots_records}
use Rattle.definition_laws.proofs.Accepted.{decides, pass}
use Rattle.renaming_laws.specs.Renaming.{Renames, renamed_leaf, renamed_level, renamed_front, ListsRenamed, renamed_place, renamed_verdict}
use Rattle.renaming_laws.proofs.RenamedLists.{keep-image, any-image}
use Rattle.renaming_laws.proofs.Renaming.{levels-renamed}
use Rattle.renaming_laws.proofs.RenamedRecords.{record-over}
use Rattle.table_laws.proofs.Outcomes.{node_lists, by-nodes, node-lists-refused, written-front, written-rest}
use Rattle.table_laws.proofs.Live.{Sound, sound-table}
use Rattle.table_laws.proofs.Slots.{own_tests, live-ascends}

none : verdict [] ≡ accepted
unfolding verdict
none = refl

-- ---- places: those of the renamed rows are the renamed places
module _ (d : ℕ) (some : 0 < d) (f : ℕ → ℕ) where
  place-of : (i a : ℕ) → a < d → renamed_place d f (i * d + a) ≡ f i * d + a
  place-of i a h =
      let row : (i * d + a) / d ≡ i = mul-add-div_right some i a ∙ ap (λ (k : ℕ). i + k) (div-eq_of_lt h) ∙ add-zero i in
      let axis : (i * d + a) % d ≡ a = mul-add-mod_self_right i d a ∙ mod-eq_of_lt h in
      ap₂ (λ (j b : ℕ). f j * d + b) row axis

  row-places : (i : ℕ) → map (renamed_place d f) (from (i * d) d) ≡ from (f i * d) d
  row-places i =
      ap (λ (k : ℕ). map (renamed_place d f) (from k d)) (sym (add-zero (i * d))) ∙ map-from-shift (renamed_place d f) (i * d) 0 d
      ∙ map-below-same (λ a. renamed_place d f (i * d + a)) (λ a. f i * d + a) d (place-of i)
      ∙ sym (map-from-shift (λ x. x) (f i * d) 0 d) ∙ map-id (from (f i * d + 0) d) ∙ ap (λ (k : ℕ). from k d) (add-zero (f i * d))

  pub places-renamed : (rows : List ℕ) → places_of_rows d (map f rows) ≡ map (renamed_place d f) (places_of_rows d rows)
  unfolding places_of_rows
  places-renamed rows =
      ap joined (map-map (λ i. from (i * d) d) f rows ∙ map_same (λ i. from (f i * d) d) (λ i. map (renamed_place d f) (from (i * d) d)) rows (λ i m. sym (row-places i)) ∙ sym (map-map (map (renamed_place d f)) (λ i. from (i * d) d) rows))
      ∙ sym (map-joined (renamed_place d f) (map (λ i. from (i * d) d) rows))

  -- ---- 10 is judged alike, and names the renamed place
  module _ (cs cs' : List Float) (rows : List ℕ) (renames : Renames d cs cs' rows f) where
    abbrev places : List ℕ
    places = places_of_rows d rows

    bad-same : (p : ℕ) → Memᴰ p (places_of_rows d rows) → bad_at cs' (renamed_place d f p) ≡ bad_at cs p
    unfolding places_of_rows
    bad-same p m =
        let in_row = joined-mem (map (λ i. from (i * d) d) rows) m in
        let row = map-mem (λ i. from (i * d) d) rows in_row.1 in
        let i = row.0 in
        let b = from-mem (i * d) d (subst (λ (l : List ℕ). Memᴰ p l) row.2 in_row.2) in
        let a = p - i * d in
        let e : p ≡ i * d + a = omega (arith, b) in
        ap (λ (q : ℕ). bad_at cs' (renamed_place d f q)) e ∙ ap (bad_at cs') (place-of i a (omega (arith, b)))
        ∙ ap (λ (x : Float). not (finite x)) (renames.points i a (mem-member rows i row.1) (omega (arith, b))) ∙ ap (bad_at cs) (sym e)

    any-bad : any_of (bad_at cs') (places_of_rows d (map f rows)) ≡ any_of (bad_at cs) (places_of_rows d rows)
    any-bad =
        ap (any_of (bad_at cs')) (places-renamed rows) ∙ any-image (renamed_place d f) (bad_at cs) (bad_at cs') places bad-same

    first-bad : any_of (bad_at cs) (places_of_rows d rows) ≡ true
        → get_or (keep (bad_at cs') (places_of_rows d (map f rows))) 0 0 ≡ renamed_place d f (get_or (keep (bad_at cs) (places_of_rows d rows)) 0 0)
    first-bad any =
        let one = any-mem (bad_at cs) places any in
        ap (λ (l : List ℕ). get_or l 0 0)
        (ap (keep (bad_at cs')) (places-renamed rows) ∙ keep-image (renamed_place d f) (bad_at cs) (bad_at cs') places bad-same)
        ∙ get_d-map-in (renamed_place d f) (keep (bad_at cs) places) 0 0 0 (omega (arith, length-keep (bad_at cs) places, count-some (bad_at cs) places one.0 one.1 one.2))

    pub judged-renamed : verdict (rows_not_finite d cs' (map f rows) ∷ []) ≡ renamed_verdict d f (verdict (rows_not_finite d cs rows ∷ []))
    judged-renamed =
        ⊎_elim
        (λ (b : any_of (bad_at cs) places ≡ true).
        decides (rows_not_finite d cs' (map f rows)) [] (any-bad ∙ b)
        ∙ ap (λ (p : ℕ). refused (record { number = 10; place = p })) (first-bad b)
        ∙ ap (renamed_verdict d f) (sym (decides (rows_not_finite d cs rows) [] b)))
        (λ (b : any_of (bad_at cs) places ≡ false).
        pass (rows_not_finite d cs' (map f rows)) [] (any-bad ∙ b) ∙ none ∙ ap (renamed_verdict d f) (sym none ∙ sym (pass (rows_not_finite d cs rows) [] b)))
        (true-or-false (any_of (bad_at cs) places))

-- ---- the tests before it stay
abbrev Stays : Test → Type 0
Stays t = eqb t.refusal.number 10 ≡ false

after-renamed : (d : ℕ) (f : ℕ → ℕ) (ts us vs : List Test) → All Stays ts → verdict us ≡ renamed_verdict d f (verdict vs)
    → verdict (ts ++ us) ≡ renamed_verdict d f (verdict (ts ++ vs))
unfolding verdict All
after-renamed d f [] us vs h e = e
after-renamed d f (t ∷ ts) us vs h e = go t.holds (after-renamed d f ts us vs h.1 e)
  where
    go : (b : Bool) → verdict (ts ++ us) ≡ renamed_verdict d f (verdict (ts ++ vs))
        → cond b (refused t.refusal) (verdict (ts ++ us)) ≡ renamed_verdict d f (cond b (refused t.refusal) (verdict (ts ++ vs)))
    go true rest = rw h.0
    go false rest = rest

-- all tests of a build over these rows
module _ (s : Settings) (some : 0 < s.dimension) (f : ℕ → ℕ) (cs cs' : List Float) (rows : List ℕ) (renames : Renames s.dimension cs cs' rows f) where
  build-renamed : (n : ℕ) (lacking : Bool) → verdict (build_tests s n false lacking (rows_not_finite s.dimension cs' (map f rows)))
      ≡ renamed_verdict s.dimension f (verdict (build_tests s n false lacking (rows_not_finite s.dimension cs rows)))
  unfolding build_tests All
  build-renamed n lacking =
      after-renamed s.dimension f (settings_tests s ++ points_tests s n false ++ on lacking 11 ∷ []) (rows_not_finite s.dimension cs' (map f rows) ∷ [])
      (rows_not_finite s.dimension cs rows ∷ [])
      (refl, (refl, (refl, (refl, (refl, (refl, (refl, (refl, (refl, (refl, tt))))))))))
      (judged-renamed s.dimension some f cs cs' rows renames)

-- ---- packing a tree whose rows are renamed
pub record PackedRenamed (f : ℕ → ℕ) (tree : List Level) : Type 0 where
  pub level_points : packed_level_points (map (renamed_level f) tree) ≡ map f (packed_level_points tree)
  pub internals_are : packed_internals (map (renamed_level f) tree) ≡ map f (packed_internals tree)
  pub borrowed_are : packed_borrowed (map (renamed_level f) tree) ≡ map f (packed_borrowed tree)
  pub domains : packed_domains (map (renamed_level f) tree) ≡ packed_domains tree
  pub boxes : packed_boxes (map (renamed_level f) tree) ≡ packed_boxes tree
  pub counts : counts_of (map (renamed_level f) tree) ≡ counts_of tree

module _ (f : ℕ → ℕ) where
  -- parts of each element, one after the other, where renaming the element renames its part
  parts-renamed : {A B : Type 0} (g : A → A) (h : B → B) (p : A → List B) → ((x : A) → p (g x) ≡ map h (p x)) → (l : List A)
      → joined (map p (map g l)) ≡ map h (joined (map p l))
  parts-renamed g h p e l =
      ap joined (map-map p g l ∙ map_same (λ x. p (g x)) (λ x. map h (p x)) l (λ x m. e x) ∙ sym (map-map (map h) p l)) ∙ sym (map-joined h (map p l))

  leaves-renamed : (tree : List Level) → leaves_in_lem (map (renamed_level f) tree) ≡ map (renamed_leaf f) (leaves_in_lem tree)
  unfolding leaves_in_lem
  leaves-renamed tree = parts-renamed (renamed_level f) (renamed_leaf f) (λ l. l.leaves) (λ l. refl) tree

  stretches-renamed : (a b : ℕ) (fs : List Leaf) → stretches a b (map (renamed_leaf f) fs) ≡ stretches a b fs
  unfolding stretches
  stretches-renamed a b [] = refl
  stretches-renamed a b (l ∷ fs) =
      rw (length-map l.own f, length-map l.borrowed f, stretches-renamed (a + length l.own) (b + length l.borrowed) fs)

  per-renamed : (g : Level → ℕ) → ((l : Level) → g (renamed_level f l) ≡ g l) → (tree : List Level) → per_level g (map (renamed_level f) tree) ≡ per_level g tree
  unfolding per_level
  per-renamed g e tree =
      ap (λ (l : List ℕ). take most_levels (l ++ replicate most_levels 0)) (map-map g (renamed_level f) tree ∙ map_same (λ l. g (renamed_level f l)) g tree (λ l m. e l))

  counts-renamed : (tree : List Level) → counts_of (map (renamed_level f) tree) ≡ counts_of tree
  unfolding counts_of
  counts-renamed tree =
      ap (λ (k : ℕ). record { levels = k; rows = per_level (λ l. length l.points) (map (renamed_level f) tree); domains = per_level (λ l. length l.leaves) (map (renamed_level f) tree) }) (length-map tree (renamed_level f))
      ∙ ap₂ (λ (a b : List ℕ). record { levels = length tree; rows = a; domains = b })
      (per-renamed (λ l. length l.points) (λ l. length-map l.points f) tree)
      (per-renamed (λ l. length l.leaves) (λ l. length-map l.leaves (renamed_leaf f)) tree)

  pub packed-renamed : (tree : List Level) → PackedRenamed f tree
  unfolding packed_level_points packed_internals packed_borrowed packed_domains packed_boxes
  packed-renamed tree =
      let leaves = leaves-renamed tree in
      record {
        level_points = parts-renamed (renamed_level f) f (λ l. l.points) (λ l. refl) tree;
        internals_are = ap (λ (fs : List Leaf). joined (map (λ l. l.own) fs)) leaves ∙ parts-renamed (renamed_leaf f) f (λ l. l.own) (λ l. refl) (leaves_in_lem tree);
        borrowed_are = ap (λ (fs : List Leaf). joined (map (λ l. l.borrowed) fs)) leaves ∙ parts-renamed (renamed_leaf f) f (λ l. l.borrowed) (λ l. refl) (leaves_in_lem tree);
        domains = ap (stretches 0 0) leaves ∙ stretches-renamed 0 0 (leaves_in_lem tree);
        boxes = ap (λ (fs : List Leaf). joined (map leaf_floats fs)) leaves ∙ ap joined (map-map leaf_floats (renamed_leaf f) (leaves_in_lem tree));
        counts = counts-renamed tree;
      }

  written-renamed : (xs old : List ℕ) → written (map f xs) old ≡ renamed_front f (length xs) (written xs old)
  unfolding written
  written-renamed xs old =
      ap₂ (λ (a b : List ℕ). a ++ b) (ap (map f) (sym (written-front xs old))) (ap (λ (k : ℕ). drop k old) (length-map xs f) ∙ sym (written-rest xs old))

  -- the lists of an accepted call
  pub lists-renamed : (tree : List Level) (old : TreeLists)
      → ListsRenamed f (length (packed_level_points tree)) (length (packed_internals tree)) (length (packed_borrowed tree))
      (tree_lists_after accepted tree old) (tree_lists_after accepted (map (renamed_level f) tree) old)
  unfolding tree_lists_after list_after
  lists-renamed tree old =
      let packed = packed-renamed tree in
      record {
        level_points = ap (λ (l : List ℕ). written l old.level_points) packed.level_points ∙ written-renamed (packed_level_points tree) old.level_points;
        internals_are = ap (λ (l : List ℕ). written l old.internals) packed.internals_are ∙ written-renamed (packed_internals tree) old.internals;
        domains = ap (λ (l : List ℕ). written l old.domains) packed.domains;
        boxes = ap (λ (l : List Float). written l old.boxes) packed.boxes;
        borrowed_are = ap (λ (l : List ℕ). written l old.borrowed) packed.borrowed_are ∙ written-renamed (packed_borrowed tree) old.borrowed;
      }

-- ---- the answer: the number and the counts stay, and 10 names the renamed place
pub record AnswerRenamed (d : ℕ) (f : ℕ → ℕ) (before after : Answer Counts) : Type 0 where
  pub number : after.number ≡ before.number
  pub place : after.place ≡ cond (eqb before.number 10) (renamed_place d f before.place) before.place
  pub value : after.value ≡ before.value

answers-renamed : (d : ℕ) (f : ℕ → ℕ) (v : Verdict) (tree : List Level)
    → AnswerRenamed d f (answered v (counts_of tree) zero_counts) (answered (renamed_verdict d f v) (counts_of (map (renamed_level f) tree)) zero_counts)
unfolding number_of place_of value_of
answers-renamed d f accepted tree = record { number = refl; place = refl; value = (packed-renamed f tree).counts }
answers-renamed d f (refused r) tree = record { number = refl; place = refl; value = refl }

-- ---- the records: a node names no row, and a renamed refusal is one
nodes-after : (d : ℕ) (f : ℕ → ℕ) (v : Verdict) (ns : List Node) (old : RecordLists) → node_lists (renamed_verdict d f v) ns old ≡ node_lists v ns old
unfolding list_after
nodes-after d f accepted ns old = refl
nodes-after d f (refused r) ns old = refl

-- ---- two tables that 27 passes: the live slots of the first, renamed, are those of the second, each with its coordinates
pub record TablesRenamed (d : ℕ) (t t' : Table) (f : ℕ → ℕ) : Type 0 where
  pub some : 0 < d
  pub sound : Sound t
  pub sound-too : Sound t'
  pub short : coordinates_short d t' ≡ coordinates_short d t
  pub rows : rows_of t' ≡ map f (rows_of t)
  pub renames : Renames d t.coordinates t'.coordinates (rows_of t) f

-- what the build over the slots of the one is to that over the slots of the other
pub record SlotsRenamed (s : Settings) (t t' : Table) (f : ℕ → ℕ) (old : TreeLists) (floats : List Float) (wholes : List ℕ) (records-old : RecordLists) : Type 0 where
  pub answer : AnswerRenamed s.dimension f (slots_answer s t old floats wholes records-old) (slots_answer s t' old floats wholes records-old)
  pub lists : slots_call s t old floats wholes records-old ≡ accepted
      → ListsRenamed f (length (packed_level_points (slot_levels s t))) (length (packed_internals (slot_levels s t))) (length (packed_borrowed (slot_levels s t)))
      (slots_lists s t old floats wholes records-old) (slots_lists s t' old floats wholes records-old)
  -- both lists of the records are equal, also past the records
  pub records : slots_records s t' old floats wholes records-old ≡ slots_records s t old floats wholes records-old
  pub untouched : (r : Refusal) → slots_call s t old floats wholes records-old ≡ refused r
      → (slots_lists s t old floats wholes records-old ≡ old) × (slots_lists s t' old floats wholes records-old ≡ old)
      × (slots_records s t old floats wholes records-old ≡ records-old) × (slots_records s t' old floats wholes records-old ≡ records-old)

module _ (s : Settings) (t t' : Table) (f : ℕ → ℕ) (r : TablesRenamed s.dimension t t' f) where
  abbrev d : ℕ
  d = s.dimension

  same_live : t'.head.live ≡ t.head.live
  same_live =
      (sound-table t'.head t'.flags r.sound-too).counted ∙ ap length r.rows ∙ length-map (rows_of t) f
      ∙ sym (sound-table t.head t.flags r.sound).counted

  -- the tests of the one, with the rows of the other
  own_is : (lent : BuildSizes) → own_tests s t' lent
      ≡ build_tests s t.head.live false (build_short lent (build_stated s.dimension t.head.live s.neighbours) || coordinates_short s.dimension t)
      (rows_not_finite s.dimension t'.coordinates (map f (rows_of t)))
  own_is lent =
      ap (λ (n : ℕ). build_tests s n false (build_short lent (build_stated d n s.neighbours) || coordinates_short d t') (rows_not_finite d t'.coordinates (rows_of t'))) same_live
      ∙ ap₂ (λ (b : Bool) (rows : List ℕ). build_tests s t.head.live false (build_short lent (build_stated d t.head.live s.neighbours) || b) (rows_not_finite d t'.coordinates rows)) r.short r.rows

  pub verdict-renamed : (lent : BuildSizes) → slots_verdict s t' lent ≡ renamed_verdict s.dimension f (slots_verdict s t lent)
  unfolding slots_verdict
  verdict-renamed lent =
      pass (on (unsound t'.head t'.flags) 27) (own_tests s t' lent) r.sound-too ∙ ap verdict (own_is lent)
      ∙ build-renamed s r.some f t.coordinates t'.coordinates (rows_of t) r.renames t.head.live (build_short lent (build_stated d t.head.live s.neighbours) || coordinates_short d t)
      ∙ ap (renamed_verdict d f) (sym (pass (on (unsound t.head t.flags) 27) (own_tests s t lent) r.sound))

  -- so is the tree, and with it the answer and every list
  pub slot-levels-renamed : slot_levels s t' ≡ map (renamed_level f) (slot_levels s t)
  unfolding slot_levels
  slot-levels-renamed =
      ap (levels_over s t'.coordinates) r.rows
      ∙ levels-renamed s t.coordinates t'.coordinates (rows_of t) f r.some (ascends-once (rows_of t) (live-ascends t)) r.renames

  -- the records of its cuts are the same
  pub slot-records-renamed : nodes_in s t'.coordinates (slot_levels s t') ≡ nodes_in s t.coordinates (slot_levels s t)
  unfolding slot_levels
  slot-records-renamed =
      ap (λ (rows : List ℕ). nodes_in s t'.coordinates (levels_over s t'.coordinates rows)) r.rows
      ∙ record-over s t.coordinates t'.coordinates (rows_of t) f r.some r.renames (ascends-once (rows_of t) (live-ascends t))

  module _ (old : TreeLists) (floats : List Float) (wholes : List ℕ) (records : RecordLists) where
    abbrev call : Verdict
    call = slots_call s t old floats wholes records

    answer-is : slots_answer s t' old floats wholes records ≡ answered (renamed_verdict s.dimension f call) (counts_of (map (renamed_level f) (slot_levels s t))) zero_counts
    unfolding slots_answer
    answer-is = ap₂ (λ (v : Verdict) (tree : List Level). answered v (counts_of tree) zero_counts) (verdict-renamed _) slot-levels-renamed

    lists-are : slots_lists s t' old floats wholes records ≡ tree_lists_after (renamed_verdict s.dimension f call) (map (renamed_level f) (slot_levels s t)) old
    unfolding slots_lists
    lists-are = ap₂ (λ (v : Verdict) (tree : List Level). tree_lists_after v tree old) (verdict-renamed _) slot-levels-renamed

    refused-lists : (v : Verdict) (tree : List Level) (q : Refusal) → v ≡ refused q → tree_lists_after v tree old ≡ old
    unfolding tree_lists_after list_after
    refused-lists v tree q e = rw e

    records-first : slots_records s t old floats wholes records ≡ node_lists call (nodes_in s t.coordinates (slot_levels s t)) records
    unfolding slots_records
    records-first = by-nodes call s t.coordinates (slot_levels s t) records

    records-are : slots_records s t' old floats wholes records ≡ slots_records s t old floats wholes records
    unfolding slots_records
    records-are =
        by-nodes (slots_call s t' old floats wholes records) s t'.coordinates (slot_levels s t') records
        ∙ ap₂ (λ (v : Verdict) (ns : List Node). node_lists v ns records) (verdict-renamed _) slot-records-renamed
        ∙ nodes-after s.dimension f call (nodes_in s t.coordinates (slot_levels s t)) records ∙ sym records-first

    pub slots-renamed : SlotsRenamed s t t' f old floats wholes records
    unfolding slots_answer slots_lists
    slots-renamed =
        record {
          answer = rw answer-is (answers-renamed s.dimension f call (slot_levels s t));
          lists = λ e. rw (lists-are, e) (lists-renamed f (slot_levels s t) old);
          records = records-are;
          untouched =
              λ q e.
              let as-found = records-first ∙ node-lists-refused call (nodes_in s t.coordinates (slot_levels s t)) records q e in (
                refused-lists call (slot_levels s t) q e,
                lists-are ∙ refused-lists (renamed_verdict s.dimension f call) (map (renamed_level f) (slot_levels s t)) _ (ap (renamed_verdict s.dimension f) e),
                as-found,
                records-are ∙ as-found,
              );
        }
