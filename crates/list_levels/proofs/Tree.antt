-- A tree that stands in lists with counts passes the tests by counts exactly where the lists are its packed lists and it is sound; and the
-- totals of its counts are the lengths of its packed lists. Assumes nothing.
-- Holds: four-counted, TreeHeld, tree-passes, rows-total, domains-total, borrowed-total
use mathlib.Core.Path.{◌≡◌, refl, sym, ap, subst, ◌∙◌}
use mathlib.Core.Bool.{Bool, true, ◌&&◌, true≢false}
use mathlib.Core.List.{List, map, map-map}
use Prim.Native.Nat.{ℕ, zero, suc, ◌+◌, ◌*◌, ◌≤◌, ◌<◌}
use native.Mathlib.Nat.{mul-le-mul_right, zero-add}
use native.Mathlib.Omega.{arith}
use borrow.Author.Tests.{leb-true, ltb-true, eqb-true, le-leb, lt-ltb, eq-eqb}
use lib.Dec.{leb, ltb, eqb}
use lib.ListN.{length, get_or}
use Rattle.lists.specs.Lists.{total, from, joined, part}
use Rattle.lists.proofs.Sums.{sum-below-same}
use Rattle.lists.proofs.Tests.{and-of, and-fst, and-snd, same_test, three-pass}
use Rattle.lists.proofs.Joined.{length-joined}
use Rattle.lists.proofs.From.{length-map-from}
use Rattle.definition.specs.Tree.{Settings, Leaf, Level}
use Rattle.definition.specs.Packed.{Counts, counts_of, row_numbers, most_levels, most_rows, per_level, leaves_in_lem, packed_level_points, packed_internals, packed_domains, packed_borrowed, stretches, tree_stated}
use Rattle.definition.specs.Outcome.{TreeLists}
use Rattle.definition_laws.proofs.Fit.{length-points, length-domains}
use Rattle.packed.proofs.Counts.{counts-length}
use Rattle.packed.specs.Reading.{Packed, packed, read_leaves, up_to, points_at, read_level, read_levels}
use Rattle.stored.specs.Sound.{same, sound}
use Rattle.stored.specs.Outcome.{tree_held, leads, packs}
use Rattle.tree_tests.specs.InTurn.{levels_pass}
use Rattle.tree_tests.proofs.AllRows.{same-is, same_self}
use Rattle.tree_tests.proofs.Limits.{sound-counted}
use Rattle.tree_tests.proofs.Lengths.{own_total, borrowed_total}
use Rattle.list_domains.specs.InLists.{borrowed_end}
use Rattle.list_domains.proofs.AsPacked.{AsPacked, leaves-length, own-joined, borrowed-joined, borrowed_end_is}
use Rattle.list_levels.specs.InLists.{count_fits_lem, none_beyond_lem, four_counts_lem, counts_stand_lem, held_levels_pass, held_tree_passes}
use Rattle.list_levels.specs.Passed.{Long}
use Rattle.list_levels.proofs.Levels.{LevelsHeld, levels_held, counts_from_lem, leaves-held, levels-held, held-levels}
use Rattle.list_levels.proofs.Fronts.{front-leads, leads-front, whole-count, points-joined}
use Rattle.list_levels.proofs.PerLevel.{zero-beyond, entry_in, entry_past, per-level-is}

-- ---- the counts of four levels
module _ (levels : ℕ) (counts : List ℕ) where
  pub four-counted : four_counts_lem levels counts ≡ true → (length counts ≡ most_levels) × (levels ≤ most_levels) × (none_beyond_lem levels counts ≡ true)
  unfolding four_counts_lem
  four-counted h =
      let f = three-pass (eqb (length counts) most_levels) (leb levels most_levels) (none_beyond_lem levels counts) h in
      (eqb-true (length counts) most_levels f.0, leb-true levels most_levels f.1, f.2)

  counted-four : length counts ≡ most_levels → levels ≤ most_levels → none_beyond_lem levels counts ≡ true → four_counts_lem levels counts ≡ true
  unfolding four_counts_lem
  counted-four e few h = and-of (and-of (eq-eqb (length counts) most_levels e) (le-leb levels most_levels few)) h

-- ---- the tree
module _ (s : Settings) (n : ℕ) (c : Counts) (l : TreeLists)
    (long : Long (packed l.internals l.domains l.boxes l.borrowed s.dimension) l.level_points n (6 * n * (s.neighbours + 1))) where
  abbrev d : ℕ
  d = s.dimension

  abbrev p : Packed
  p = packed l.internals l.domains l.boxes l.borrowed d

  abbrev most : ℕ
  most = 6 * n * (s.neighbours + 1)

  abbrev ls : List Level
  ls = tree_held d c l

  abbrev all_domains : ℕ
  all_domains = counts_from_lem c.domains 0 c.levels

  -- the levels that are read, and their leaves
  levels-read : tree_held d c l ≡ levels_held p l.level_points c 0 c.levels
  unfolding tree_held read_levels
  levels-read = refl

  levels-length : length ls ≡ c.levels
  levels-length = ap length levels-read ∙ length-map-from (read_level p l.level_points c.rows c.domains) 0 c.levels

  leaves-read : leaves_in_lem ls ≡ read_leaves p 0 all_domains
  unfolding total
  leaves-read = ap leaves_in_lem levels-read ∙ leaves-held p l.level_points c c.levels 0

  leaves-many : length (leaves_in_lem ls) ≡ all_domains
  leaves-many = ap length leaves-read ∙ leaves-length p 0 all_domains

  borrowed-many : length (packed_borrowed ls) ≡ borrowed_total (read_leaves p 0 all_domains)
  unfolding packed_borrowed
  borrowed-many =
      ap (λ (fs : List Leaf). length (joined (map (λ f. f.borrowed) fs))) leaves-read
      ∙ length-joined (map (λ f. f.borrowed) (read_leaves p 0 all_domains)) ∙ ap total (map-map length (λ (f : Leaf). f.borrowed) (read_leaves p 0 all_domains))

  -- ---- what either side comes to
  pub record TreeHeld : Type 0 where
    pub four-rows : length c.rows ≡ most_levels
    pub four-domains : length c.domains ≡ most_levels
    pub some : 1 ≤ c.levels
    pub few : c.levels ≤ most_levels
    pub rows_end : none_beyond_lem c.levels c.rows ≡ true
    pub domains-end : none_beyond_lem c.levels c.domains ≡ true
    pub held : LevelsHeld p l.level_points c n most 0 n (λ i. ltb i n) 0 c.levels

  -- ---- the tests by counts
  levels-to : (k : ℕ) → 1 ≤ k → k ≤ most_levels → held_levels_pass p l.level_points c n most 0 n (λ i. ltb i n) 0 k ≡ true
      → LevelsHeld p l.level_points c n most 0 n (λ i. ltb i n) 0 k
  unfolding total
  levels-to zero h g e = absurd (omega arith)
  levels-to (suc k) h g e =
      let m : suc k * n ≤ 4 * n = mul-le-mul_right n g in
      levels-held p l.level_points c n most long.borrowed long.domains k 0 n (λ i. ltb i n) 0 (omega (arith, long.points)) (omega (arith, long.internals))
      (omega arith) (omega arith) (omega arith) e

  levels-back : (k : ℕ) → 1 ≤ k → LevelsHeld p l.level_points c n most 0 n (λ i. ltb i n) 0 k
      → held_levels_pass p l.level_points c n most 0 n (λ i. ltb i n) 0 k ≡ true
  levels-back zero h e = absurd (omega arith)
  levels-back (suc k) h e = held-levels p l.level_points c n most long.borrowed long.domains k 0 n (λ i. ltb i n) 0 e

  tests-to : held_tree_passes d n s.neighbours c l ≡ true → TreeHeld
  unfolding held_tree_passes counts_stand_lem tree_stated
  tests-to h =
      let a = ltb 0 c.levels in
      let g = held_levels_pass p l.level_points c n most 0 n (λ i. ltb i n) 0 c.levels in
      let q = three-pass (a && four_counts_lem c.levels c.rows) (four_counts_lem c.levels c.domains) g h in
      let r = four-counted c.levels c.rows (and-snd a (four_counts_lem c.levels c.rows) q.0) in
      let t = four-counted c.levels c.domains q.1 in
      let some = ltb-true 0 c.levels (and-fst a (four_counts_lem c.levels c.rows) q.0) in
      record {
        four-rows = r.0;
        four-domains = t.0;
        some = some;
        few = r.1;
        rows_end = r.2;
        domains-end = t.2;
        held = levels-to c.levels some r.1 q.2;
      }

  tests-back : TreeHeld → held_tree_passes d n s.neighbours c l ≡ true
  unfolding held_tree_passes counts_stand_lem tree_stated
  tests-back t =
      and-of
      (and-of (and-of (lt-ltb 0 c.levels t.some) (counted-four c.levels c.rows t.four-rows t.few t.rows_end))
      (counted-four c.levels c.domains t.four-domains t.few t.domains-end))
      (levels-back c.levels t.some t.held)

  -- ---- packed lists and sound
  module _ (t : TreeHeld) where
    as-packed : AsPacked p 0 all_domains 0 0
    unfolding total
    as-packed = t.held.as-packed

    fit : row_numbers * (0 + all_domains) ≤ length p.domains
    unfolding total
    fit = omega (arith, t.held.few, long.domains)

    is-sound : sound s n ls ≡ true
    unfolding total count_fits_lem tree_held read_levels
    is-sound =
        sound-counted s n ls
        ∙ and-of (and-of (le-leb (length ls) most_levels (omega (arith, levels-length, t.few))) t.held.pass)
        (and-of (le-leb (length (leaves_in_lem ls)) (most_rows n) (omega (arith, leaves-many, t.held.few))) (le-leb (length (packed_borrowed ls)) most (omega (arith, borrowed-many, t.held.within))))

    points-lead : leads (packed_level_points ls) l.level_points ≡ true
    unfolding total
    points-lead = front-leads (packed_level_points ls) l.level_points (counts_from_lem c.rows 0 c.levels) (ap packed_level_points levels-read ∙ points-joined p l.level_points c c.levels 0)

    internals-lead : leads (packed_internals ls) l.internals ≡ true
    unfolding packed_internals
    internals-lead =
        front-leads (joined (map (λ f. f.own) (leaves_in_lem ls))) l.internals (own_total (read_leaves p 0 all_domains))
        (ap (λ (fs : List Leaf). joined (map (λ f. f.own) fs)) leaves-read ∙ own-joined p all_domains 0 0 0 fit as-packed)

    domains-lead : leads (packed_domains ls) l.domains ≡ true
    unfolding packed_domains
    domains-lead = front-leads (stretches 0 0 (leaves_in_lem ls)) l.domains (row_numbers * all_domains) (ap (stretches 0 0) leaves-read ∙ as-packed)

    borrowed-lead : leads (packed_borrowed ls) l.borrowed ≡ true
    unfolding packed_borrowed
    borrowed-lead =
        front-leads (joined (map (λ f. f.borrowed) (leaves_in_lem ls))) l.borrowed (borrowed_total (read_leaves p 0 all_domains))
        (ap (λ (fs : List Leaf). joined (map (λ f. f.borrowed) fs)) leaves-read ∙ borrowed-joined p all_domains 0 0 0 fit as-packed)

    rows_are : c.rows ≡ per_level (λ l. length l.points) ls
    unfolding tree_held read_levels read_level
    rows_are = per-level-is (λ l. length l.points) (read_level p l.level_points c.rows c.domains) c.levels t.few refl c.rows t.four-rows (λ i h. t.held.sizes i (omega arith) (omega arith)) t.rows_end

    domains-are : c.domains ≡ per_level (λ l. length l.leaves) ls
    unfolding tree_held read_levels read_level
    domains-are = per-level-is (λ l. length l.leaves) (read_level p l.level_points c.rows c.domains) c.levels t.few refl c.domains t.four-domains (λ i h. leaves-length p (up_to c.domains i) (get_or c.domains i 0)) t.domains-end

    is-packed : packs c l ls ≡ true
    unfolding packs counts_of
    is-packed =
        and-of
        (and-of
        (and-of
        (and-of
        (and-of
        (and-of (eq-eqb c.levels (length ls) (sym levels-length)) (subst (λ (x : List ℕ). same c.rows x ≡ true) rows_are (same_self c.rows)))
        (subst (λ (x : List ℕ). same c.domains x ≡ true) domains-are (same_self c.domains)))
        points-lead)
        internals-lead)
        domains-lead)
        borrowed-lead

  -- ---- and back
  some-levels : (k : ℕ) (counts above : ℕ → Bool) → levels_pass d counts above (levels_held p l.level_points c 0 k) ≡ true → 1 ≤ k
  unfolding levels_pass from
  some-levels zero counts above h = absurd (true≢false (sym h))
  some-levels (suc k) counts above h = omega arith

  module _ (h : packs c l ls && sound s n ls ≡ true) where
    passes : (leb (length ls) most_levels ≡ true) × (levels_pass d (λ a. eqb a n) (λ i. ltb i n) ls ≡ true)
        × (leb (length (leaves_in_lem ls)) (most_rows n) && leb (length (packed_borrowed ls)) most ≡ true)
    passes =
        three-pass (leb (length ls) most_levels) (levels_pass d (λ a. eqb a n) (λ i. ltb i n) ls) (leb (length (leaves_in_lem ls)) (most_rows n) && leb (length (packed_borrowed ls)) most)
        (sym (sound-counted s n ls) ∙ and-snd (packs c l ls) (sound s n ls) h)

    few_levels : c.levels ≤ most_levels
    few_levels = omega (arith, levels-length, leb-true (length ls) most_levels passes.0)

    leaves-few : all_domains ≤ most_rows n
    leaves-few = omega (arith, leaves-many, leb-true (length (leaves_in_lem ls)) (most_rows n) (and-fst (leb (length (leaves_in_lem ls)) (most_rows n)) (leb (length (packed_borrowed ls)) most) passes.2))

    borrowed_few : borrowed_total (read_leaves p 0 all_domains) ≤ most
    borrowed_few = omega (arith, borrowed-many, leb-true (length (packed_borrowed ls)) most (and-snd (leb (length (leaves_in_lem ls)) (most_rows n)) (leb (length (packed_borrowed ls)) most) passes.2))

    -- the tests of `packs` that are needed here
    abbrev front : Bool
    front = eqb c.levels (length ls) && same c.rows (per_level (λ l. length l.points) ls) && same c.domains (per_level (λ l. length l.leaves) ls)

    tests : (front ≡ true) × (leads (packed_domains ls) l.domains ≡ true)
    unfolding packs counts_of
    tests =
        let a = front && leads (packed_level_points ls) l.level_points && leads (packed_internals ls) l.internals in
        let f = three-pass a (leads (packed_domains ls) l.domains) (leads (packed_borrowed ls) l.borrowed) (and-fst (packs c l ls) (sound s n ls) h) in
        ((three-pass front (leads (packed_level_points ls) l.level_points) (leads (packed_internals ls) l.internals) f.0).0, f.1)

    counted : (c.rows ≡ per_level (λ l. length l.points) ls) × (c.domains ≡ per_level (λ l. length l.leaves) ls)
    counted =
        let a = eqb c.levels (length ls) in
        let f = three-pass a (same c.rows (per_level (λ l. length l.points) ls)) (same c.domains (per_level (λ l. length l.leaves) ls)) tests.0 in
        (same-is c.rows (per_level (λ l. length l.points) ls) f.1, same-is c.domains (per_level (λ l. length l.leaves) ls) f.2)

    sizes : (i : ℕ) → i < c.levels → length (points_at l.level_points c.rows i) ≡ get_or c.rows i 0
    unfolding tree_held read_levels read_level
    sizes i lt =
        sym (entry_in (λ l. length l.points) (read_level p l.level_points c.rows c.domains) c.levels few_levels refl i lt)
        ∙ ap (λ (x : List ℕ). get_or x i 0) (sym counted.0)

    rows-past : none_beyond_lem c.levels c.rows ≡ true
    unfolding tree_held read_levels
    rows-past =
        zero-beyond c.levels c.rows
        (λ i le. ap (λ (x : List ℕ). get_or x i 0) counted.0 ∙ entry_past (λ l. length l.points) (read_level p l.level_points c.rows c.domains) c.levels few_levels refl i le)

    domains-past : none_beyond_lem c.levels c.domains ≡ true
    unfolding tree_held read_levels
    domains-past =
        zero-beyond c.levels c.domains
        (λ i le. ap (λ (x : List ℕ). get_or x i 0) counted.1 ∙ entry_past (λ l. length l.leaves) (read_level p l.level_points c.rows c.domains) c.levels few_levels refl i le)

    packed-rows : AsPacked p 0 all_domains 0 0
    unfolding packed_domains
    packed-rows =
        ap (stretches 0 0) (sym leaves-read) ∙ leads-front (stretches 0 0 (leaves_in_lem ls)) l.domains tests.1
        ∙ ap (part l.domains 0) (length-domains ls ∙ ap (λ (k : ℕ). row_numbers * k) leaves-many)

    stored-to : TreeHeld
    unfolding total count_fits_lem tree_held read_levels
    stored-to =
        record {
          four-rows = ap length counted.0 ∙ counts-length (λ l. length l.points) ls;
          four-domains = ap length counted.1 ∙ counts-length (λ l. length l.leaves) ls;
          some = some-levels c.levels (λ a. eqb a n) (λ i. ltb i n) passes.1;
          few = few_levels;
          rows_end = rows-past;
          domains-end = domains-past;
          held =
              record {
                pass = passes.1;
                sizes = λ i a z. sizes i (omega arith);
                as-packed = packed-rows;
                within = omega (arith, borrowed_few);
                few = omega (arith, leaves-few);
              };
        }

  -- THE TREE: the tests by counts are those of a tree that is packed into the lists and sound
  pub tree-passes : held_tree_passes s.dimension n s.neighbours c l ≡ packs c l (tree_held s.dimension c l) && sound s n (tree_held s.dimension c l)
  tree-passes =
      same_test (held_tree_passes d n s.neighbours c l) (packs c l ls && sound s n ls) (λ h. and-of (is-packed (tests-to h)) (is-sound (tests-to h))) (λ h. tests-back (stored-to h))

  -- and then its totals are those of the counts
  module _ (h : held_tree_passes d n s.neighbours c l ≡ true) where
    pub rows-total : up_to c.rows c.levels ≡ length (packed_level_points (tree_held s.dimension c l))
    unfolding counts_from_lem tree_held read_levels read_level
    rows-total =
        whole-count c.rows c.levels
        ∙ sum-below-same c.levels (λ i. get_or c.rows i 0) (λ i. length (points_at l.level_points c.rows i)) (λ i lt. sym ((tests-to h).held.sizes i (omega arith) (omega arith)))
        ∙ sym (length-points ls ∙ ap total (map-map (λ (x : Level). length x.points) (read_level p l.level_points c.rows c.domains) (from 0 c.levels)))

    pub domains-total : up_to c.domains c.levels ≡ length (leaves_in_lem (tree_held s.dimension c l))
    domains-total = whole-count c.domains c.levels ∙ sym leaves-many

    pub borrowed-total : borrowed_end l.domains 0 0 (up_to c.domains c.levels) ≡ length (packed_borrowed (tree_held s.dimension c l))
    borrowed-total =
        let t = tests-to h in
        ap (borrowed_end l.domains 0 0) (domains-total ∙ leaves-many) ∙ borrowed_end_is p all_domains 0 0 0 (fit t) (as-packed t) ∙ zero-add (borrowed_total (read_leaves p 0 all_domains)) ∙ sym borrowed-many
