-- Where the head and the points stand whole, their bytes are those of what is read from them, if no coordinate is a NaN. Assumes nothing.
-- Holds: head-again, point-stands, rows-of-joined, points-are, length-points-in, count_is, points-again
use mathlib.Core.Path.{◌≡◌, refl, sym, ap, ap₂, ◌∙◌}
use mathlib.Core.Logic.{⊎_elim}
use Prim.Native.Nat.{ℕ, zero, suc, ◌+◌, ◌*◌, ◌≤◌, ◌<◌}
use native.Mathlib.Nat.{suc-mul, zero-mul, zero-add, mul_comm, div-eq_of_eq-mul_right}
use native.Mathlib.Omega.{arith}
use mathlib.Core.Bool.{true, ◌&&◌, ◌||◌}
use mathlib.Core.List.{List, [], ◌++◌, map, map-id, append_assoc}
use lib.ListN.{length, get_or, take, drop, length-drop}
use lib.Seq.{drop-drop}
use lib.Dec.{leb, eqb}
use lib.Ieee.{Float, nan}
use borrow.Author.Tests.{leb-true, eqb-true}
use Rattle.lists.specs.Lists.{from, joined, total}
use Rattle.lists.specs.Ascends.{All}
use Rattle.lists.proofs.Tests.{and-fst, and-snd, or_cases}
use Rattle.lists.proofs.All.{all_map, all-at, all-mem, joined-all}
use Rattle.lists.proofs.Members.{mem-map}
use Rattle.lists.proofs.From.{all_from, mem-from, length-map-from, list-below, map-from-at}
use Rattle.lists.proofs.Joined.{get_d-joined, even-lengths, joined-even}
use Rattle.definition.specs.Points.{coordinate}
use Rattle.definition.specs.Levels.{policy_from}
use Rattle.definition.specs.Tree.{point_count}
use Rattle.formats.specs.Bytes.{mark_size, mark_bytes, marked_by, whole, bytes_of, field_end, value_at, number_size, number_bytes, float_size, float_at, floats_at, floats_bytes}
use Rattle.formats.specs.Stream.{dimension_field, leaf_field, neighbours_field, factor_field, policy_field, threshold_field, settings_size, settings_in, policy_fits_lem, policy_bytes, point_size_lem}
use Rattle.stored.specs.File.{head_mark, file_point_mark, head_bytes_lem, point_bytes}
use Rattle.stored.specs.Stored.{head_size, count_in, points_in, levels_place}
use Rattle.tree_tests.specs.Whole.{points_whole}
use Rattle.stored_laws.specs.Writable.{IsByte}
use Rattle.stored_laws.proofs.Front.{head-parts, point_record, row, points-written}
use Rattle.stored_laws.proofs.FieldsAgain.{field-again, each_again, NoNan, floats-again, mark-again}

-- ---- the head
policy-again : (kind limit : ℕ) → eqb kind 1 || (eqb kind 0 && eqb limit 0) ≡ true → policy_bytes (policy_from kind limit) ≡ bytes_of 1 kind ++ number_bytes limit
policy-again kind limit h =
    ⊎_elim
    (λ (one : eqb kind 1 ≡ true). rw (eqb-true kind 1 one))
    (λ (none : eqb kind 0 && eqb limit 0 ≡ true). rw (eqb-true kind 0 (and-fst (eqb kind 0) (eqb limit 0) none), eqb-true limit 0 (and-snd (eqb kind 0) (eqb limit 0) none)))
    (or_cases (eqb kind 1) (eqb kind 0 && eqb limit 0) h)

module _ (bs : List ℕ) (bytes : All IsByte bs) where
  pub head-again : whole head_mark head_size bs ≡ true → policy_fits_lem bs ≡ true → bs ≡ head_bytes_lem (settings_in bs) (count_in bs) ++ drop head_size bs
  unfolding settings_in policy_fits_lem
  head-again h p =
      let long : head_size ≤ length bs = leb-true head_size (length bs) (and-fst (leb head_size (length bs)) (marked_by head_mark bs) h) in
      let kind = bytes_of 1 (value_at policy_field bs) in
      let limit = number_bytes (value_at threshold_field bs) in
      sym
      (head-parts (settings_in bs) (count_in bs) (drop head_size bs)
      ∙ ap (λ (r : List ℕ). mark_bytes head_mark ++ (bytes_of 1 (value_at dimension_field bs) ++ (number_bytes (value_at leaf_field bs) ++ (number_bytes (value_at neighbours_field bs) ++ (number_bytes (value_at factor_field bs) ++ r)))))
      (ap₂ (λ (x y : List ℕ). x ++ y) (policy-again (value_at policy_field bs) (value_at threshold_field bs) p) (field-again bs bytes number_size settings_size long)
      ∙ append_assoc kind limit (drop settings_size bs)
      ∙ ap (λ (r : List ℕ). kind ++ r) (field-again bs bytes number_size (field_end policy_field) (omega (arith, long)))
      ∙ field-again bs bytes 1 (field_end factor_field) (omega (arith, long)))
      ∙ ap (λ (r : List ℕ). mark_bytes head_mark ++ (bytes_of 1 (value_at dimension_field bs) ++ (number_bytes (value_at leaf_field bs) ++ (number_bytes (value_at neighbours_field bs) ++ r))))
      (field-again bs bytes number_size (field_end neighbours_field) (omega (arith, long)))
      ∙ ap (λ (r : List ℕ). mark_bytes head_mark ++ (bytes_of 1 (value_at dimension_field bs) ++ (number_bytes (value_at leaf_field bs) ++ r)))
      (field-again bs bytes number_size (field_end leaf_field) (omega (arith, long)))
      ∙ ap (λ (r : List ℕ). mark_bytes head_mark ++ (bytes_of 1 (value_at dimension_field bs) ++ r)) (field-again bs bytes number_size (field_end dimension_field) (omega (arith, long)))
      ∙ ap (λ (r : List ℕ). mark_bytes head_mark ++ r) (field-again bs bytes 1 mark_size (omega (arith, long)))
      ∙ mark-again head_mark bs (omega (arith, long)) (and-snd (leb head_size (length bs)) (marked_by head_mark bs) h))

-- ---- the points

-- each of them stands whole
pub point-stands : (d n i : ℕ) (bs : List ℕ) → points_whole d n bs ≡ true → i < n → whole file_point_mark (point_size_lem d) (drop (i * point_size_lem d) bs) ≡ true
unfolding points_whole
point-stands d zero i bs h l = absurd (omega arith)
point-stands d (suc n) zero bs h l =
    ap (λ (k : ℕ). whole file_point_mark (point_size_lem d) (drop k bs)) (zero-mul (point_size_lem d)) ∙ and-fst (whole file_point_mark (point_size_lem d) bs) (points_whole d n (drop (point_size_lem d) bs)) h
point-stands d (suc n) (suc i) bs h l =
    let z : suc i * point_size_lem d ≡ point_size_lem d + i * point_size_lem d = omega (arith, suc-mul i (point_size_lem d)) in
    ap (λ (b : List ℕ). whole file_point_mark (point_size_lem d) b) (ap (λ (k : ℕ). drop k bs) z ∙ sym (drop-drop (i * point_size_lem d) (point_size_lem d) bs))
    ∙ point-stands d n i (drop (point_size_lem d) bs) (and-snd (whole file_point_mark (point_size_lem d) bs) (points_whole d n (drop (point_size_lem d) bs)) h) (omega arith)

-- the rows of coordinates that follow one another
pub rows-of-joined : (d : ℕ) (rows : List (List Float)) → All (λ r. length r ≡ d) rows → map (row d (joined rows)) (from 0 (length rows)) ≡ rows
rows-of-joined d rows even = map-from-at (row d (joined rows)) (λ r. r) [] rows 0 (λ i h. ap (row d (joined rows)) (zero-add i) ∙ one i h) ∙ map-id rows
  where
    one : (i : ℕ) → i < length rows → row d (joined rows) i ≡ get_or rows i []
    one i h =
        let l = all-at (λ r. length r ≡ d) rows i [] even h in
        let z : total (map length (take i rows)) ≡ i * d = even-lengths d rows even i (omega arith) ∙ mul_comm d i in
        sym (list-below (coordinate d (joined rows) i) (get_or rows i []) d nan l
        (λ a g. sym (get_d-joined rows i a nan h (omega (arith, l))) ∙ ap (λ (k : ℕ). get_or (joined rows) (k + a) nan) z))

module _ (bs : List ℕ) where
  abbrev d : ℕ
  d = (settings_in bs).dimension

  abbrev n : ℕ
  n = count_in bs

  -- row i starts at its place
  abbrev place : ℕ → ℕ
  place i = head_size + i * point_size_lem d

  abbrev row_read : ℕ → List Float
  row_read i = floats_at d (place i + mark_size) bs

  abbrev rows_read : List (List Float)
  rows_read = map row_read (from 0 n)

  pub points-are : points_in bs ≡ joined rows_read
  unfolding points_in
  points-are = refl

  rows-even : All (λ r. length r ≡ d) rows_read
  unfolding floats_at
  rows-even =
      all_map (λ r. length r ≡ d) row_read (from 0 n)
      (all_from (λ i. length (row_read i) ≡ d) 0 n (λ i a b. length-map-from (λ j. float_at (place i + mark_size + float_size * j) bs) 0 d))

  pub length-points-in : length (points_in bs) ≡ d * n
  length-points-in = ap length points-are ∙ joined-even d rows_read rows-even ∙ ap (λ (k : ℕ). d * k) (length-map-from row_read 0 n)

  -- as many points as the head says, on at least one axis
  pub count_is : 1 ≤ d → point_count d (points_in bs) ≡ n
  count_is h = div-eq_of_eq-mul_right h length-points-in

  rows_back : map (row d (points_in bs)) (from 0 n) ≡ rows_read
  rows_back =
      ap₂ (λ (cs : List Float) (k : ℕ). map (row d cs) (from 0 k)) points-are (sym (length-map-from row_read 0 n))
      ∙ rows-of-joined d rows_read rows-even

  module _ (bytes : All IsByte bs) (whole-points : points_whole d n (drop head_size bs) ≡ true) (clean : All NoNan (points_in bs)) where
    row-clean : (i : ℕ) → i < n → All NoNan (row_read i)
    row-clean i h =
        all-mem (All NoNan) rows_read (joined-all NoNan rows_read (rw points-are at clean)) (row_read i) (mem-map row_read (from 0 n) (mem-from 0 n (omega arith) (omega arith)))

    one_again : (i : ℕ) → i < n → point_record (row_read i) ++ drop (place (suc i)) bs ≡ drop (place i) bs
    one_again i h =
        let stands : whole file_point_mark (point_size_lem d) (drop (place i) bs) ≡ true =
        ap (whole file_point_mark (point_size_lem d)) (sym (drop-drop (i * point_size_lem d) head_size bs)) ∙ point-stands d n i (drop head_size bs) whole-points h in
        let long : point_size_lem d ≤ length (drop (place i) bs) = leb-true (point_size_lem d) (length (drop (place i) bs)) (and-fst (leb (point_size_lem d) (length (drop (place i) bs))) (marked_by file_point_mark (drop (place i) bs)) stands) in
        let next : place (suc i) ≡ place i + mark_size + float_size * d = omega (arith, suc-mul i (point_size_lem d)) in
        ap (λ (k : ℕ). point_record (row_read i) ++ drop k bs) next
        ∙ append_assoc (mark_bytes file_point_mark) (floats_bytes (row_read i)) (drop (place i + mark_size + float_size * d) bs)
        ∙ ap (λ (r : List ℕ). mark_bytes file_point_mark ++ r)
        (floats-again bs bytes d (place i + mark_size) (omega (arith, long, length-drop (place i) bs)) (row-clean i h) ∙ sym (drop-drop mark_size (place i) bs))
        ∙ mark-again file_point_mark (drop (place i) bs) (omega (arith, long)) (and-snd (leb (point_size_lem d) (length (drop (place i) bs))) (marked_by file_point_mark (drop (place i) bs)) stands)

    pub points-again : drop head_size bs ≡ joined (map (point_bytes d (points_in bs)) (from 0 n)) ++ drop (levels_place bs) bs
    points-again =
        let start : place 0 ≡ head_size = omega (arith, zero-mul (point_size_lem d)) in
        let rest : place (0 + n) ≡ place n = ap place (zero-add n) in
        sym
        (ap (λ (l : List ℕ). l ++ drop (levels_place bs) bs) (points-written d (points_in bs) n ∙ ap (λ (rows : List (List Float)). joined (map point_record rows)) rows_back)
        ∙ ap (λ (k : ℕ). joined (map point_record rows_read) ++ drop k bs) (sym rest)
        ∙ each_again point_record row_read place bs 0 n (λ j h. one_again j (omega arith))
        ∙ ap (λ (k : ℕ). drop k bs) start)
