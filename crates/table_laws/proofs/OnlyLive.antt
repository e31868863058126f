-- A build over slots sees the live slots only: it is the build over their coordinates laid one after the other, with the live slots as names
-- of its rows; and what stands elsewhere in the coordinates changes nothing. Assumes nothing.
-- Holds: live_slot, compact-verdict, compact-levels, compact-records, Compacted, compact-accepted, slots-compacted,
--   verdict-only-live, slots-only-live
use mathlib.Core.Path.{◌≡◌, refl, sym, ap, ap₂, ◌∙◌}
use mathlib.Core.Logic.{⊎_elim}
use mathlib.Core.Bool.{Bool, true, false, cond}
use mathlib.Core.List.{List, map, map-id}
use Prim.Native.Nat.{ℕ, ◌+◌, ◌*◌, ◌/◌, ◌%◌, ◌≤◌, ◌<◌, min}
use native.Mathlib.Omega.{arith}
use native.Mathlib.Nat.{div-add-mod'}
use borrow.Author.Tests.{le-ltb}
use lib.ListN.{length, get_or, replicate, length-replicate, get_or-replicate}
use lib.Dec.{ltb, eqb}
use lib.Ieee.{Float}
use Rattle.lists.specs.Lists.{member, from}
use Rattle.lists.proofs.Tests.{true-or-false}
use Rattle.lists.proofs.Ascends.{ascends-at}
use Rattle.lists.proofs.From.{from-mem, length_from, list_at}
use Rattle.lists.proofs.Map.{map_same}
use Rattle.lists.proofs.Members.{member-mem}
use Rattle.definition.specs.Points.{coordinate}
use Rattle.definition.specs.Tree.{Settings, Leaf, Level, levels}
use Rattle.definition.specs.Record.{Node, nodes_in}
use Rattle.definition.specs.Packed.{packed_level_points, packed_internals, packed_borrowed, BuildSizes, Counts, counts_of}
use Rattle.definition.specs.Refusals.{Verdict, accepted, refused, Refusal, on, wrong_dimension_lem, most_points, build_verdict}
use Rattle.definition.specs.Outcome.{RecordLists, answered, value_of, list_after, TreeLists, lent_sizes, tree_lists_after, zero_counts, build_answer, build_lists, build_records}
use Rattle.definition.specs.Table.{Table, capacity, flagged, live_slots_lem, unsound}
use Rattle.definition.specs.Slots.{rows_of, slots_verdict, slot_levels, slots_call, slots_answer, slots_lists, slots_records}
use Rattle.definition.specs.Closing.{live_coordinates}
use Rattle.definition.specs.Edits.{lending}
use Rattle.definition_laws.proofs.Accepted.{decides, pass, right-dimension}
use Rattle.renaming_laws.specs.Renaming.{renamed_leaf, renamed_level, renamed_verdict, ListsRenamed}
use Rattle.table_laws.proofs.Ranks.{keep-every}
use Rattle.table_laws.proofs.Outcomes.{same_outcome, node_lists, by-nodes}
use Rattle.table_laws.proofs.Live.{Sound, sound-table, is-sound, nonzero}
use Rattle.table_laws.proofs.Slots.{live-ascends, slots-accepted, slots-covered, live-most, own_tests, own-wrong}
use Rattle.table_laws.proofs.AllLive.{same-verdicts, same-levels}
use Rattle.table_laws.proofs.Closing.{live-length, live-point}
use Rattle.table_laws.proofs.Renamed.{TablesRenamed, verdict-renamed, slot-levels-renamed, slot-records-renamed, packed-renamed, lists-renamed}

-- ---- the table of the live slots alone
abbrev compact : ℕ → Table → Table
compact d t = record { head = record { slots = t.head.live; live = t.head.live }; flags = replicate t.head.live 1; coordinates = live_coordinates d t }

-- the slot that a row of it was
abbrev pub live_slot : Table → ℕ → ℕ
live_slot t r = get_or (rows_of t) r 0

module _ (d : ℕ) (t : Table) (some : 1 ≤ d) (sound : Sound t) (covered : capacity t.flags * d ≤ length t.coordinates) where
  abbrev n : ℕ
  n = t.head.live

  filled : capacity (replicate t.head.live 1) ≡ t.head.live
  filled = ap (min most_points) (length-replicate n 1) ∙ omega (arith, live-most t.head t.flags sound)

  compact-rows : rows_of (compact d t) ≡ from 0 t.head.live
  unfolding live_slots_lem
  compact-rows = keep-every (flagged (replicate n 1)) (from 0 n) (λ i m. ap nonzero (get_or-replicate n i 1 0 (omega (arith, from-mem 0 n m))))

  compact-sound : Sound (compact d t)
  compact-sound =
      is-sound (compact d t).head (replicate n 1)
      (record { within = omega (arith, filled); counted = sym (ap length compact-rows ∙ length_from 0 n) })

  compact-long : length (live_coordinates d t) ≡ t.head.live * d
  compact-long = live-length d t sound covered

  compact-low : (r : ℕ) → member r (rows_of (compact d t)) ≡ true → r < t.head.live
  compact-low r m = omega (arith, from-mem 0 n (member-mem (from 0 n) r (rw compact-rows at m)))

  compact-tables : TablesRenamed d (compact d t) t (live_slot t)
  compact-tables =
      let counted = (sound-table t.head t.flags sound).counted in
      record {
        some = some;
        sound = compact-sound;
        sound-too = sound;
        short =
            le-ltb (length t.coordinates) (capacity t.flags * d) covered
            ∙ sym (le-ltb (length (live_coordinates d t)) (capacity (replicate n 1) * d) (omega (arith, compact-long, ap (λ (k : ℕ). k * d) filled)));
        rows = list_at (rows_of t) 0 ∙ ap (λ (k : ℕ). map (live_slot t) (from 0 k)) (sym counted) ∙ ap (map (live_slot t)) (sym compact-rows);
        renames = record {
          order = λ i j a b h. ascends-at (rows_of t) i j (live-ascends t) h (omega (arith, counted, compact-low j b));
          points = λ i a m h. sym (live-point d t sound covered i a (compact-low i m) h);
        };
      }

-- the verdict of the build over slots is that of the build over their coordinates; 10 names the place in the lent list
module _ (s : Settings) (t : Table) (some : 1 ≤ s.dimension) (sound : Sound t) (covered : capacity t.flags * s.dimension ≤ length t.coordinates) where
  abbrev d : ℕ
  d = s.dimension

  pub compact-verdict : (lent : BuildSizes) → slots_verdict s t lent ≡ renamed_verdict s.dimension (live_slot t) (build_verdict s (live_coordinates s.dimension t) lent)
  compact-verdict lent =
      verdict-renamed s (compact d t) t (live_slot t) (compact-tables d t some sound covered) lent
      ∙ ap (renamed_verdict d (live_slot t)) (same-verdicts s (compact d t) (compact-sound d t some sound covered) refl (filled d t some sound covered) (compact-long d t some sound covered) lent)

  pub compact-levels : slot_levels s t ≡ map (renamed_level (live_slot t)) (levels s (live_coordinates s.dimension t))
  compact-levels =
      slot-levels-renamed s (compact s.dimension t) t (live_slot t) (compact-tables s.dimension t some sound covered)
      ∙ ap (map (renamed_level (live_slot t))) (same-levels s (compact s.dimension t) (compact-sound s.dimension t some sound covered) refl (filled s.dimension t some sound covered) (compact-long s.dimension t some sound covered) some)

  pub compact-records : nodes_in s t.coordinates (slot_levels s t) ≡ nodes_in s (live_coordinates s.dimension t) (levels s (live_coordinates s.dimension t))
  compact-records =
      slot-records-renamed s (compact s.dimension t) t (live_slot t) (compact-tables s.dimension t some sound covered)
      ∙ ap (nodes_in s (live_coordinates s.dimension t)) (same-levels s (compact s.dimension t) (compact-sound s.dimension t some sound covered) refl (filled s.dimension t some sound covered) (compact-long s.dimension t some sound covered) some)

-- ---- an accepted build over slots is the build over the coordinates of the live slots

renamed-accepted : (d : ℕ) (f : ℕ → ℕ) (v : Verdict) → renamed_verdict d f v ≡ accepted → v ≡ accepted
renamed-accepted d f accepted e = refl
renamed-accepted d f (refused r) e = let z : ◌≡◌ {A = ℕ} 0 1 = cc in absurd (omega arith)

pub record Compacted (s : Settings) (t : Table) (old : TreeLists) (floats : List Float) (wholes : List ℕ) (records-old : RecordLists) : Type 0 where
  pub accepts : build_verdict s (live_coordinates s.dimension t) (lent_sizes old floats wholes records-old) ≡ accepted
  pub tree : slot_levels s t ≡ map (renamed_level (live_slot t)) (levels s (live_coordinates s.dimension t))
  pub answer : slots_answer s t old floats wholes records-old ≡ build_answer s (live_coordinates s.dimension t) old floats wholes records-old
  pub lists : ListsRenamed (live_slot t) (length (packed_level_points (levels s (live_coordinates s.dimension t))))
      (length (packed_internals (levels s (live_coordinates s.dimension t)))) (length (packed_borrowed (levels s (live_coordinates s.dimension t))))
      (build_lists s (live_coordinates s.dimension t) old floats wholes records-old) (slots_lists s t old floats wholes records-old)
  pub records : slots_records s t old floats wholes records-old ≡ build_records s (live_coordinates s.dimension t) old floats wholes records-old

module _ (s : Settings) (t : Table) where
  pub compact-accepted : (lent : BuildSizes) → slots_verdict s t lent ≡ accepted
      → (build_verdict s (live_coordinates s.dimension t) lent ≡ accepted) × (slot_levels s t ≡ map (renamed_level (live_slot t)) (levels s (live_coordinates s.dimension t)))
  compact-accepted lent e =
      let a = slots-accepted s t lent e in
      let sound = is-sound t.head t.flags a.sound in
      let covered = slots-covered s t lent e in (
        renamed-accepted s.dimension (live_slot t) (build_verdict s (live_coordinates s.dimension t) lent) (sym (compact-verdict s t a.passes-all.axes sound covered lent) ∙ e),
        compact-levels s t a.passes-all.axes sound covered,
      )

  compacted-nodes : (lent : BuildSizes) → slots_verdict s t lent ≡ accepted
      → nodes_in s t.coordinates (slot_levels s t) ≡ nodes_in s (live_coordinates s.dimension t) (levels s (live_coordinates s.dimension t))
  compacted-nodes lent e = let a = slots-accepted s t lent e in compact-records s t a.passes-all.axes (is-sound t.head t.flags a.sound) (slots-covered s t lent e)

  compacted-records : (old : TreeLists) (floats : List Float) (wholes : List ℕ) (records : RecordLists) → slots_call s t old floats wholes records ≡ accepted
      → slots_records s t old floats wholes records ≡ build_records s (live_coordinates s.dimension t) old floats wholes records
  unfolding slots_records build_records
  compacted-records old floats wholes records e =
      let cs = live_coordinates s.dimension t in
      let lent = lent_sizes old floats wholes records in
      by-nodes (slots_verdict s t lent) s t.coordinates (slot_levels s t) records
      ∙ ap₂ (λ (v : Verdict) (ns : List Node). node_lists v ns records) (e ∙ sym (compact-accepted lent e).0) (compacted-nodes lent e)
      ∙ sym (by-nodes (build_verdict s cs lent) s cs (levels s cs) records)

  -- THE LAW: with the same lent lists
  pub slots-compacted : (old : TreeLists) (floats : List Float) (wholes : List ℕ) (records : RecordLists) → slots_call s t old floats wholes records ≡ accepted → Compacted s t old floats wholes records
  unfolding slots_answer build_answer slots_lists build_lists
  slots-compacted old floats wholes records e =
      let cs = live_coordinates s.dimension t in
      let both = compact-accepted (lent_sizes old floats wholes records) e in
      record {
        accepts = both.0;
        tree = both.1;
        answer = ap₂ (λ (v : Verdict) (c : Counts). answered v c zero_counts) (e ∙ sym both.0) (ap counts_of both.1 ∙ (packed-renamed (live_slot t) (levels s cs)).counts);
        lists = rw (e, both.0, both.1) (lists-renamed (live_slot t) (levels s cs) old);
        records = compacted-records old floats wholes records e;
      }

-- ---- coordinates that agree at the live slots

-- what no name is changed in stays
leaf-stays : (l : Leaf) → renamed_leaf (λ i. i) l ≡ l
leaf-stays l = ap₂ (λ (a b : List ℕ). record { own = a; borrowed = b; box = l.box; cover = l.cover; depth = l.depth }) (map-id l.own) (map-id l.borrowed)

level-stays : (l : Level) → renamed_level (λ i. i) l ≡ l
level-stays l =
    ap₂ (λ (a : List ℕ) (b : List Leaf). record { points = a; leaves = b }) (map-id l.points)
    (map_same (renamed_leaf (λ i. i)) (λ x. x) l.leaves (λ x m. leaf-stays x) ∙ map-id l.leaves)

verdict-stays : (d : ℕ) (v : Verdict) → renamed_verdict d (λ i. i) v ≡ v
verdict-stays d accepted = refl
verdict-stays d (refused r) = ap (λ (p : ℕ). refused (record { number = r.number; place = p })) (go (eqb r.number 10))
  where
    go : (b : Bool) → cond b (r.place / d * d + r.place % d) r.place ≡ r.place
    go true = div-add-mod' r.place d
    go false = refl

module _ (s : Settings) (t : Table) (cs : List Float) (long : length cs ≡ length t.coordinates)
    (agree : (i a : ℕ) → member i (rows_of t) ≡ true → a < s.dimension → coordinate s.dimension cs i a ≡ coordinate s.dimension t.coordinates i a) where
  same_tables : 1 ≤ s.dimension → Sound t → TablesRenamed s.dimension t (lending t cs) (λ i. i)
  same_tables some sound =
      record {
        some = some;
        sound = sound;
        sound-too = sound;
        short = ap (λ (k : ℕ). ltb k (capacity t.flags * s.dimension)) long;
        rows = sym (map-id (rows_of t));
        renames = record { order = λ i j a b h. h; points = agree };
      }

  pub verdict-only-live : (lent : BuildSizes) → slots_verdict s (lending t cs) lent ≡ slots_verdict s t lent
  unfolding slots_verdict
  verdict-only-live lent =
      let first = on (unsound t.head t.flags) 27 in
      ⊎_elim
      (λ (b : unsound t.head t.flags ≡ true). decides first (own_tests s (lending t cs) lent) b ∙ sym (decides first (own_tests s t lent) b))
      (λ (b : unsound t.head t.flags ≡ false).
      ⊎_elim
      (λ (w : wrong_dimension_lem s.dimension ≡ true).
      pass first (own_tests s (lending t cs) lent) b ∙ own-wrong s (lending t cs) lent w ∙ sym (own-wrong s t lent w) ∙ sym (pass first (own_tests s t lent) b))
      (λ (w : wrong_dimension_lem s.dimension ≡ false).
      verdict-renamed s t (lending t cs) (λ i. i) (same_tables (right-dimension s.dimension w).0 b) lent ∙ verdict-stays s.dimension (slots_verdict s t lent))
      (true-or-false (wrong_dimension_lem s.dimension)))
      (true-or-false (unsound t.head t.flags))

module _ (s : Settings) (t : Table) (cs : List Float) (long : length cs ≡ length t.coordinates)
    (agree : (i a : ℕ) → member i (rows_of t) ≡ true → a < s.dimension → coordinate s.dimension cs i a ≡ coordinate s.dimension t.coordinates i a) where
  levels-only-live : (lent : BuildSizes) → slots_verdict s t lent ≡ accepted → slot_levels s (lending t cs) ≡ slot_levels s t
  levels-only-live lent e =
      let a = slots-accepted s t lent e in
      slot-levels-renamed s t (lending t cs) (λ i. i) (same_tables s t cs long agree a.passes-all.axes (is-sound t.head t.flags a.sound))
      ∙ map_same (renamed_level (λ i. i)) (λ x. x) (slot_levels s t) (λ x m. level-stays x) ∙ map-id (slot_levels s t)

  tree-only-live : {A : Type 0} (f : Verdict → List Level → A) → ((r : Refusal) (x y : List Level) → f (refused r) x ≡ f (refused r) y) → (lent : BuildSizes)
      → f (slots_verdict s (lending t cs) lent) (slot_levels s (lending t cs)) ≡ f (slots_verdict s t lent) (slot_levels s t)
  tree-only-live f refuses lent =
      same_outcome f refuses (slots_verdict s t lent) (slots_verdict s (lending t cs) lent) (slot_levels s t) (slot_levels s (lending t cs)) (verdict-only-live s t cs long agree lent) (levels-only-live lent)

  nodes-only-live : (lent : BuildSizes) → slots_verdict s t lent ≡ accepted → nodes_in s cs (slot_levels s (lending t cs)) ≡ nodes_in s t.coordinates (slot_levels s t)
  nodes-only-live lent e =
      let a = slots-accepted s t lent e in
      slot-records-renamed s t (lending t cs) (λ i. i) (same_tables s t cs long agree a.passes-all.axes (is-sound t.head t.flags a.sound))

  records-only-live : (old : TreeLists) (floats : List Float) (wholes : List ℕ) (records : RecordLists)
      → slots_records s (lending t cs) old floats wholes records ≡ slots_records s t old floats wholes records
  unfolding slots_records list_after
  records-only-live old floats wholes records =
      let lent = lent_sizes old floats wholes records in
      let before = nodes_in s t.coordinates (slot_levels s t) in
      let after = nodes_in s cs (slot_levels s (lending t cs)) in
      by-nodes (slots_verdict s (lending t cs) lent) s cs (slot_levels s (lending t cs)) records
      ∙ same_outcome (λ (v : Verdict) (ns : List Node). node_lists v ns records) (λ r x y. refl) (slots_verdict s t lent) (slots_verdict s (lending t cs) lent) before after
      (verdict-only-live s t cs long agree lent) (nodes-only-live lent)
      ∙ sym (by-nodes (slots_verdict s t lent) s t.coordinates (slot_levels s t) records)

  -- THE LAW: the answer, every list and the records are the same
  pub slots-only-live : (old : TreeLists) (floats : List Float) (wholes : List ℕ) (records : RecordLists)
      → (slots_answer s (lending t cs) old floats wholes records ≡ slots_answer s t old floats wholes records)
      × (slots_lists s (lending t cs) old floats wholes records ≡ slots_lists s t old floats wholes records)
      × (slots_records s (lending t cs) old floats wholes records ≡ slots_records s t old floats wholes records)
  unfolding slots_answer slots_lists value_of tree_lists_after list_after
  slots-only-live old floats wholes records = (
    tree-only-live (λ v ls. answered v (counts_of ls) zero_counts) (λ r x y. refl) _,
    tree-only-live (λ v ls. tree_lists_after v ls old) (λ r x y. refl) _,
    records-only-live old floats wholes records,
  )
