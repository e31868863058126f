-- Levels that stand in packed lists pass, by counts, exactly where they pass in turn, have as many rows as counted, their domain rows are those
-- of packing, and their domains and borrowed rows keep to the limits. Assumes nothing.
-- Holds: count_most, counts_from_lem, counts-from, counts-more, levels_held, leaves-held, none-behind, LevelsHeld, Tests,
--   levels-held, held-levels
use mathlib.Core.Path.{◌≡◌, refl, sym, ap, ◌∙◌}
use mathlib.Core.Bool.{Bool, true, false, not, ◌&&◌}
use mathlib.Core.Logic.{⊎_elim}
use mathlib.Core.List.{List, [], ◌++◌, map}
use Prim.Native.Nat.{ℕ, zero, suc, ◌+◌, ◌-◌, ◌*◌, ◌≤◌, ◌<◌}
use native.Mathlib.Nat.{add-zero, add-suc, suc-add, suc-mul}
use native.Mathlib.Omega.{arith}
use borrow.Author.Tests.{leb-true, eqb-true, ltb-true, le-leb}
use lib.Dec.{leb, ltb, eqb, eqb-suc-zero}
use lib.ListN.{length, get_or}
use Rattle.lists.specs.Lists.{total, from, joined}
use Rattle.lists.proofs.Tests.{and-of, and-fst, and-snd, le-or-lt, three-pass}
use Rattle.lists.proofs.Sums.{total-more, sum-append}
use Rattle.definition.specs.Tree.{Leaf, Level}
use Rattle.definition.specs.Packed.{Counts, row_numbers, most_rows, leaves_in_lem}
use Rattle.packed.specs.Reading.{Packed, read_leaves, up_to, points_at, read_level}
use Rattle.tree_tests.specs.InTurn.{among, fewer, level_passes, levels_pass}
use Rattle.tree_tests.proofs.Lengths.{own_total, borrowed_total}
use Rattle.list_domains.specs.InLists.{borrowed_end}
use Rattle.list_domains.proofs.AsPacked.{AsPacked, leaves-append, leaves-length, packed-append, packed-front, packed-behind, borrowed_end_is}
use Rattle.list_levels.specs.InLists.{count_fits_lem, one_only, held_level_passes, held_levels_pass}
use Rattle.list_levels.proofs.OneLevel.{level_there, LevelHeld, level-held, held-count, held-level, level-own}

-- ---- a row count that fits is at most n
pub count_most : (l n many rows : ℕ) → many ≤ n → count_fits_lem l n many rows ≡ true → rows ≤ n
unfolding count_fits_lem
count_most zero n many rows h e = omega (arith, eqb-true rows n e)
count_most (suc l) n many rows h e = omega (arith, ltb-true rows many (and-snd (ltb 0 rows) (ltb rows many) e))

-- ---- the counts of k entries from the entry l on
unfoldable pub counts_from_lem : List ℕ → ℕ → ℕ → ℕ
counts_from_lem counts l k = total (map (λ i. get_or counts i 0) (from l k))

pub counts-from : (counts : List ℕ) (k l : ℕ) → up_to counts l + counts_from_lem counts l k ≡ up_to counts (l + k)
unfolding counts_from_lem from total
counts-from counts zero l = add-zero (up_to counts l) ∙ ap (up_to counts) (sym (add-zero l))
counts-from counts (suc k) l = rw (add-suc, ← suc-add l k) (omega (arith, counts-from counts k (suc l), total-more counts l))

pub counts-more : (counts : List ℕ) (l k : ℕ) → counts_from_lem counts l (suc k) ≡ get_or counts l 0 + counts_from_lem counts (suc l) k
unfolding counts_from_lem from total
counts-more counts l k = refl

counts-one : (counts : List ℕ) (l : ℕ) → counts_from_lem counts l 1 ≡ get_or counts l 0
unfolding counts_from_lem from total
counts-one counts l = add-zero (get_or counts l 0)

-- no leaf
none_read : (p : Packed) (j : ℕ) → read_leaves p j 0 ≡ []
unfolding read_leaves from
none_read p j = refl

-- ---- the levels from the level number l on, and their leaves
module _ (p : Packed) (level_points : List ℕ) (c : Counts) where
  abbrev pub levels_held : ℕ → ℕ → List Level
  levels_held l k = map (read_level p level_points c.rows c.domains) (from l k)

  pub leaves-held : (k l : ℕ) → leaves_in_lem (levels_held l k) ≡ read_leaves p (up_to c.domains l) (counts_from_lem c.domains l k)
  unfolding leaves_in_lem counts_from_lem from total joined read_level
  leaves-held zero l = sym (none_read p (up_to c.domains l))
  leaves-held (suc k) l =
      let j = up_to c.domains l in
      let m = get_or c.domains l 0 in
      ap (λ (fs : List Leaf). read_leaves p j m ++ fs) (leaves-held k (suc l) ∙ ap (λ (i : ℕ). read_leaves p i (counts_from_lem c.domains (suc l) k)) (total-more c.domains l))
      ∙ sym (leaves-append p j m (counts_from_lem c.domains (suc l) k))

  -- one level, and one with others behind it, in turn
  module _ (counts above : ℕ → Bool) (l : ℕ) where
    abbrev here : Level
    here = level_there p level_points (up_to c.domains l) (up_to c.rows l) (get_or c.rows l 0) (get_or c.domains l 0)

    coarse-passes : levels_pass p.dimension counts above (levels_held l 1) ≡ eqb (length here.leaves) 1 && level_passes p.dimension true counts above here
    unfolding levels_pass from read_level
    coarse-passes = refl

    fine-passes : (k : ℕ) → levels_pass p.dimension counts above (levels_held l (suc (suc k)))
        ≡ not (eqb (length here.leaves) 1) && level_passes p.dimension false counts above here
        && levels_pass p.dimension (fewer (length here.points)) (among here.points) (levels_held (suc l) (suc k))
    unfolding levels_pass from read_level
    fine-passes k = refl

-- no level more
pub none-behind : (p : Packed) (level_points : List ℕ) (c : Counts) (n most l many : ℕ) (above : ℕ → Bool) (b : ℕ) → held_levels_pass p level_points c n most l many above b 0 ≡ true
unfolding held_levels_pass
none-behind p level_points c n most l many above b = refl

-- ---- what the tests come to, of k levels from the level number l on
pub record LevelsHeld (p : Packed) (level_points : List ℕ) (c : Counts) (n most l many : ℕ) (above : ℕ → Bool) (b k : ℕ) : Type 0 where
  pub pass : levels_pass p.dimension (count_fits_lem l n many) above (levels_held p level_points c l k) ≡ true
  pub sizes : (i : ℕ) → l ≤ i → i < l + k → length (points_at level_points c.rows i) ≡ get_or c.rows i 0
  pub as-packed : AsPacked p (up_to c.domains l) (counts_from_lem c.domains l k) (up_to c.rows l) b
  pub within : b + borrowed_total (read_leaves p (up_to c.domains l) (counts_from_lem c.domains l k)) ≤ most
  pub few : up_to c.domains l + counts_from_lem c.domains l k ≤ most_rows n

module _ (p : Packed) (level_points : List ℕ) (c : Counts) (n most : ℕ) (lent : most ≤ length p.borrowed) (lent_rows : row_numbers * most_rows n ≤ length p.domains) where
  -- ---- the tests of the level number l, taken apart
  module _ (l many : ℕ) (above : ℕ → Bool) (b k : ℕ) where
    abbrev rows : ℕ
    rows = get_or c.rows l 0

    abbrev m : ℕ
    m = get_or c.domains l 0

    abbrev j : ℕ
    j = up_to c.domains l

    abbrev later : Bool
    later = held_levels_pass p level_points c n most (suc l) rows (among (points_at level_points c.rows l)) (borrowed_end p.domains j b m) k

    pub record Tests : Type 0 where
      pub count : count_fits_lem l n many (get_or c.rows l 0) ≡ true
      pub one : one_only (eqb k 0) (get_or c.domains l 0) ≡ true
      pub domains : get_or c.domains l 0 ≤ most_rows n - up_to c.domains l
      pub level : held_level_passes (eqb k 0) p level_points most above (up_to c.domains l) (up_to c.rows l) b (get_or c.rows l 0) (get_or c.domains l 0) ≡ true
      pub behind : later ≡ true

    tests : held_levels_pass p level_points c n most l many above b (suc k) ≡ true → Tests
    unfolding held_levels_pass
    tests h =
        let t1 = count_fits_lem l n many rows in
        let t2 = one_only (eqb k 0) m in
        let t3 = leb m (most_rows n - j) in
        let t4 = held_level_passes (eqb k 0) p level_points most above j (up_to c.rows l) b rows m in
        let g = three-pass (t1 && t2 && t3) t4 later h in
        let f = three-pass t1 t2 t3 g.0 in
        record { count = f.0; one = f.1; domains = leb-true m (most_rows n - j) f.2; level = g.1; behind = g.2 }

    passed : Tests → held_levels_pass p level_points c n most l many above b (suc k) ≡ true
    unfolding held_levels_pass
    passed t = and-of (and-of (and-of (and-of t.count t.one) (le-leb m (most_rows n - j) t.domains)) t.level) t.behind

    -- ---- the level by itself
    abbrev fs : List Leaf
    fs = read_leaves p j m

    abbrev Level-held : Type 0
    Level-held = LevelHeld (eqb k 0) p level_points most (count_fits_lem l n many) above j (up_to c.rows l) b rows m

    fits-here : j ≤ most_rows n → m ≤ most_rows n - j → row_numbers * (j + m) ≤ length p.domains
    fits-here h g = omega arith

    level-of : j ≤ most_rows n → up_to c.rows l + rows ≤ length level_points → up_to c.rows l + rows ≤ length p.internals → b ≤ most → Tests → Level-held
    level-of h there room low t =
        level-held (eqb k 0) p level_points most (count_fits_lem l n many) above j (up_to c.rows l) b rows m lent (fits-here h t.domains) there room low t.count t.level

    -- ---- and the levels behind it
    module _ (h : j + m ≤ most_rows n) (g : Level-held) where
      fit : row_numbers * (j + m) ≤ length p.domains
      fit = omega arith

      domains_on : up_to c.domains (suc l) ≡ j + m
      domains_on = total-more c.domains l

      rows_on : up_to c.rows (suc l) ≡ up_to c.rows l + own_total fs
      rows_on = total-more c.rows l ∙ ap (λ (x : ℕ). up_to c.rows l + x) (sym (level-own (eqb k 0) p level_points most (count_fits_lem l n many) above j (up_to c.rows l) b rows m lent fit g))

      end_is : borrowed_end p.domains j b m ≡ b + borrowed_total fs
      end_is = borrowed_end_is p m j (up_to c.rows l) b fit g.packed

      module _ (d : ℕ) where
        both : borrowed_total (read_leaves p j (m + d)) ≡ borrowed_total fs + borrowed_total (read_leaves p (j + m) d)
        both = ap borrowed_total (leaves-append p j m d) ∙ sum-append (λ (f : Leaf). length f.borrowed) fs (read_leaves p (j + m) d)

        behind-packed : AsPacked p (up_to c.domains (suc l)) d (up_to c.rows (suc l)) (borrowed_end p.domains j b m) → AsPacked p j (m + d) (up_to c.rows l) b
        behind-packed e = packed-append p j m d (up_to c.rows l) b g.packed (rw (domains_on, rows_on, end_is) at e)

        packed-later : AsPacked p j (m + d) (up_to c.rows l) b → AsPacked p (up_to c.domains (suc l)) d (up_to c.rows (suc l)) (borrowed_end p.domains j b m)
        packed-later e = rw (domains_on, rows_on, end_is) (packed-behind p j m d (up_to c.rows l) b fit e)

  -- ---- from the tests
  sizes-here : (l k : ℕ) → length (points_at level_points c.rows l) ≡ get_or c.rows l 0
      → ((i : ℕ) → suc l ≤ i → i < suc l + k → length (points_at level_points c.rows i) ≡ get_or c.rows i 0)
      → (i : ℕ) → l ≤ i → i < l + suc k → length (points_at level_points c.rows i) ≡ get_or c.rows i 0
  sizes-here l k e f i h g =
      ⊎_elim (λ (le : i ≤ l). let q : i ≡ l = omega arith in rw q e) (λ (lt : l < i). f i lt (omega arith)) (le-or-lt i l)

  one-leaves : (coarse : Bool) (j m : ℕ) → one_only coarse m ≡ true → one_only coarse (length (read_leaves p j m)) ≡ true
  one-leaves coarse j m h = rw (leaves-length p j m) h

  later-pass : (l rows k : ℕ) → length (points_at level_points c.rows l) ≡ rows
      → levels_pass p.dimension (count_fits_lem (suc l) n rows) (among (points_at level_points c.rows l)) (levels_held p level_points c (suc l) (suc k)) ≡ true
      → levels_pass p.dimension (fewer (length (points_at level_points c.rows l))) (among (points_at level_points c.rows l)) (levels_held p level_points c (suc l) (suc k)) ≡ true
  unfolding count_fits_lem
  later-pass l rows k e h = rw e h

  -- a level that is not the last one has a box of its own for each leaf
  fine-level : (counts above : ℕ → Bool) (l k : ℕ)
      → level_passes p.dimension (eqb (suc k) 0) counts above (here p level_points c counts above l) ≡ level_passes p.dimension false counts above (here p level_points c counts above l)
  fine-level counts above l k = rw (eqb-suc-zero k)

  pub levels-held : (k l many : ℕ) (above : ℕ → Bool) (b : ℕ) → up_to c.rows l + suc k * n ≤ length level_points → up_to c.rows l + suc k * n ≤ length p.internals
      → up_to c.domains l ≤ most_rows n → many ≤ n → b ≤ most → held_levels_pass p level_points c n most l many above b (suc k) ≡ true
      → LevelsHeld p level_points c n most l many above b (suc k)
  levels-held zero l many above b there room low few end h =
      let t = tests l many above b 0 h in
      let le = count_most l n many (get_or c.rows l 0) few t.count in
      let g = level-of l many above b 0 low (omega arith) (omega arith) end t in
      let j = up_to c.domains l in
      let m = get_or c.domains l 0 in
      let e = counts-one c.domains l in
      record {
        pass = coarse-passes p level_points c (count_fits_lem l n many) above l ∙ and-of (one-leaves true j m t.one) g.pass;
        sizes = sizes-here l 0 g.size (λ i a z. absurd (omega arith));
        as-packed = rw e g.packed;
        within = rw e g.within;
        few = omega (arith, e, t.domains);
      }
  levels-held (suc k) l many above b there room low few end h =
      let t = tests l many above b (suc k) h in
      let rows = get_or c.rows l 0 in
      let le = count_most l n many rows few t.count in
      let more = suc-mul (suc k) n in
      let g = level-of l many above b (suc k) low (omega arith) (omega arith) end t in
      let j = up_to c.domains l in
      let m = get_or c.domains l 0 in
      let keep : j + m ≤ most_rows n = omega (arith, t.domains) in
      let on = total-more c.rows l in
      let stop = end_is l many above b (suc k) keep g in
      let next = domains_on l many above b (suc k) keep g in
      let f = levels-held k (suc l) rows (among (points_at level_points c.rows l)) (borrowed_end p.domains j b m) (omega arith) (omega arith)
      (omega arith) le (omega (arith, g.within)) t.behind in
      let d = counts_from_lem c.domains (suc l) (suc k) in
      let e = counts-more c.domains l (suc k) in
      let one : one_only false (length (read_leaves p j m)) ≡ true = one-leaves false j m (rw (eqb-suc-zero k) at t.one) in
      let w = both l many above b (suc k) keep g d in
      let v = rw next at f.within in
      record {
        pass = fine-passes p level_points c (count_fits_lem l n many) above l k ∙ and-of (and-of one (sym (fine-level (count_fits_lem l n many) above l k) ∙ g.pass)) (later-pass l rows k g.size f.pass);
        sizes = sizes-here l (suc k) g.size f.sizes;
        as-packed = rw e (behind-packed l many above b (suc k) keep g d f.as-packed);
        within = rw e (omega (arith, stop));
        few = omega (arith, next, e, f.few);
      }

  -- ---- and back
  leaves-one : (coarse : Bool) (j m : ℕ) → one_only coarse (length (read_leaves p j m)) ≡ true → one_only coarse m ≡ true
  leaves-one coarse j m h = rw (leaves-length p j m) at h

  pass-later : (l rows k : ℕ) → length (points_at level_points c.rows l) ≡ rows
      → levels_pass p.dimension (fewer (length (points_at level_points c.rows l))) (among (points_at level_points c.rows l)) (levels_held p level_points c (suc l) (suc k)) ≡ true
      → levels_pass p.dimension (count_fits_lem (suc l) n rows) (among (points_at level_points c.rows l)) (levels_held p level_points c (suc l) (suc k)) ≡ true
  unfolding count_fits_lem
  pass-later l rows k e h = rw e at h

  pub held-levels : (k l many : ℕ) (above : ℕ → Bool) (b : ℕ) → LevelsHeld p level_points c n most l many above b (suc k)
      → held_levels_pass p level_points c n most l many above b (suc k) ≡ true
  held-levels zero l many above b h =
      let j = up_to c.domains l in
      let m = get_or c.domains l 0 in
      let lv = here p level_points c (count_fits_lem l n many) above l in
      let e = counts-one c.domains l in
      let x = eqb (length lv.leaves) 1 in
      let y = level_passes p.dimension true (count_fits_lem l n many) above lv in
      let q = sym (coarse-passes p level_points c (count_fits_lem l n many) above l) ∙ h.pass in
      let fit = fits-here l many above b 0 (omega (arith, h.few)) (omega (arith, e, h.few)) in
      let g : Level-held l many above b 0 = record { pass = and-snd x y q; size = h.sizes l (omega arith) (omega arith); packed = rw e at h.as-packed; within = rw e at h.within } in
      passed l many above b 0
      (record {
        count = held-count true p level_points most (count_fits_lem l n many) above j (up_to c.rows l) b (get_or c.rows l 0) m lent fit g;
        one = leaves-one true j m (and-fst x y q);
        domains = omega (arith, e, h.few);
        level = held-level true p level_points most (count_fits_lem l n many) above j (up_to c.rows l) b (get_or c.rows l 0) m lent fit g;
        behind = none-behind p level_points c n most (suc l) (get_or c.rows l 0) (among (points_at level_points c.rows l)) (borrowed_end p.domains j b m);
      })
  held-levels (suc k) l many above b h =
      let j = up_to c.domains l in
      let m = get_or c.domains l 0 in
      let rows = get_or c.rows l 0 in
      let d = counts_from_lem c.domains (suc l) (suc k) in
      let lv = here p level_points c (count_fits_lem l n many) above l in
      let e = counts-more c.domains l (suc k) in
      let x = not (eqb (length lv.leaves) 1) in
      let y = level_passes p.dimension false (count_fits_lem l n many) above lv in
      let z = levels_pass p.dimension (fewer (length lv.points)) (among lv.points) (levels_held p level_points c (suc l) (suc k)) in
      let q = three-pass x y z (sym (fine-passes p level_points c (count_fits_lem l n many) above l k) ∙ h.pass) in
      let keep : j + m ≤ most_rows n = omega (arith, e, h.few) in
      let fit = fits-here l many above b (suc k) (omega arith) (omega arith) in
      let all : AsPacked p j (m + d) (up_to c.rows l) b = rw e at h.as-packed in
      let ends : b + borrowed_total (read_leaves p j (m + d)) ≤ most = rw e at h.within in
      let sum = ap borrowed_total (leaves-append p j m d) ∙ sum-append (λ (f : Leaf). length f.borrowed) (read_leaves p j m) (read_leaves p (j + m) d) in
      let g : Level-held l many above b (suc k) =
      record {
        pass = fine-level (count_fits_lem l n many) above l k ∙ q.1;
        size = h.sizes l (omega arith) (omega arith);
        packed = packed-front p j m d (up_to c.rows l) b fit all;
        within = omega (arith, sum);
      } in
      let next = domains_on l many above b (suc k) keep g in
      let stop = end_is l many above b (suc k) keep g in
      passed l many above b (suc k)
      (record {
        count = held-count (eqb (suc k) 0) p level_points most (count_fits_lem l n many) above j (up_to c.rows l) b rows m lent fit g;
        one = rw (eqb-suc-zero k) (leaves-one false j m q.0);
        domains = omega arith;
        level = held-level (eqb (suc k) 0) p level_points most (count_fits_lem l n many) above j (up_to c.rows l) b rows m lent fit g;
        behind =
            held-levels k (suc l) rows (among (points_at level_points c.rows l)) (borrowed_end p.domains j b m)
            (record {
              pass = pass-later l rows k g.size q.2;
              sizes = λ i a z. h.sizes i (omega arith) (omega arith);
              as-packed = packed-later l many above b (suc k) keep g d all;
              within = rw (next, stop) (omega (arith, sum));
              few = omega (arith, e, next, h.few);
            });
      })
