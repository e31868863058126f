-- One turn of the loop that puts boxes to their rows, from the last on, and its start and end. Assumes nothing.
-- Holds: rows_from, Moved, moved-start, moved-turn, covered-length, moved-end
use mathlib.Core.Path.{◌≡◌, refl, sym, ap, ap₂, ◌∙◌}
use mathlib.Core.List.{List, [], ◌∷◌, ◌++◌, map, append_assoc}
use Prim.Native.Nat.{ℕ, suc, ◌+◌, ◌-◌, ◌*◌, ◌≤◌, ◌<◌}
use native.Mathlib.Omega.{arith}
use native.Mathlib.Nat.{sub-zero, mul-add, mul-zero, mul-le-mul, mul-le-mul_left, mul-le-mul_right}
use lib.ListN.{length, get_or, take, drop, length-append, take-append-drop}
use lib.Seq.{take-take, take-length}
use lib.Ieee.{Float, nan}
use Rattle.lists.specs.Lists.{total, from, joined, part, put}
use Rattle.lists.specs.Ascends.{All}
use Rattle.lists.proofs.All.{all_map}
use Rattle.lists.proofs.From.{all_from, length-map-from}
use Rattle.lists.proofs.Put.{length-put, length_part, take_put, drop-put, put-def, part-take}
use Rattle.lists.proofs.Joined.{joined-cons, joined-nil, length-joined, even-lengths}
use Rattle.definition.specs.Points.{box_width_lem}
use Rattle.definition.specs.Packed.{row_floats_lem}
use Rattle.covers.specs.Covered.{covered_box, covered}

module _ (d : ℕ) (B₀ : List Float) (at : ℕ) (covers : List Float) where
  -- the rows from number l on
  abbrev pub rows_from : ℕ → List Float
  rows_from l = joined (map (covered_box d B₀ at covers) (from l (length covers - l)))

  -- the boxes from number l on are put to their rows; those before it stand as they stood, and so does what is past the rows
  pub record Moved (l : ℕ) (B : List Float) : Type 0 where
    pub few : l ≤ length covers
    pub same : length B ≡ length B₀
    pub front : take (at + box_width_lem d * l) B ≡ take (at + box_width_lem d * l) B₀
    pub behind : drop (at + row_floats_lem d * l) B ≡ rows_from l ++ drop (at + row_floats_lem d * length covers) B₀

  pub moved-start : Moved (length covers) B₀
  unfolding from
  moved-start =
      let e : length covers - length covers ≡ 0 = omega arith in
      record { few = omega arith; same = refl; front = refl; behind = rw (e, joined-nil) }

  -- THE TURN: the box number l is read where it stood, and put to its row
  module _ (fits : at + row_floats_lem d * length covers ≤ length B₀) (l : ℕ) (B : List Float) (m : Moved (suc l) B) where
    abbrev w : ℕ
    w = box_width_lem d

    abbrev r : ℕ
    r = row_floats_lem d

    -- where box and row number l stand
    box-end : at + w * l + w ≡ at + w * suc l
    box-end = omega (arith, mul-add w l 1)

    row_end : at + r * l + r ≡ at + r * suc l
    row_end = omega (arith, mul-add r l 1)

    row_fits : at + r * suc l ≤ length B
    row_fits = omega (arith, m.same, fits, mul-le-mul_left r m.few)

    box-before : at + w * l ≤ at + r * l
    box-before = omega (arith, mul-le-mul_right l (le-suc w))
      where
        le-suc : (n : ℕ) → n ≤ n + 1
        le-suc n = omega arith

    box-same : part B (at + box_width_lem d * l) (box_width_lem d) ≡ part B₀ (at + box_width_lem d * l) (box_width_lem d)
    box-same =
        sym (part-take B (at + w * suc l) (at + w * l) w (omega (arith, box-end)))
        ∙ ap (λ (z : List Float). part z (at + w * l) w) m.front
        ∙ part-take B₀ (at + w * suc l) (at + w * l) w (omega (arith, box-end))

    abbrev row : List Float
    row = covered_box d B₀ at covers l

    row-length : length row ≡ r
    row-length =
        omega (
          arith,
          length-append (part B₀ (at + w * l) w) (get_or covers l nan ∷ []),
          length_part B₀ (at + w * l) w (omega (arith, row_fits, m.same, box-before, row_end)),
        )

    pub moved-turn : (B₁ : List Float)
        → B₁ ≡ put B (at + row_floats_lem d * l) (part B (at + box_width_lem d * l) (box_width_lem d) ++ get_or covers l nan ∷ []) → Moved l B₁
    unfolding from
    moved-turn B₁ e =
        let is : B₁ ≡ put B (at + r * l) row = e ∙ ap (λ (b : List Float). put B (at + r * l) (b ++ get_or covers l nan ∷ [])) box-same in
        let next : at + r * l + length row ≡ at + r * suc l = omega (arith, row-length, row_end) in
        let count : length covers - l ≡ suc (length covers - suc l) = omega (arith, m.few) in
        record {
          few = omega (arith, m.few);
          same = ap length is ∙ length-put B (at + r * l) row (omega (arith, row_fits, row-length, row_end)) ∙ m.same;
          front =
              sym (take-take (at + w * l) (at + r * l) B₁ box-before)
              ∙ ap (take (at + w * l)) (ap (take (at + r * l)) is ∙ take_put B (at + r * l) row (omega (arith, row_fits, row_end)))
              ∙ take-take (at + w * l) (at + r * l) B box-before
              ∙ sym (take-take (at + w * l) (at + w * suc l) B (omega (arith, box-end)))
              ∙ ap (take (at + w * l)) m.front
              ∙ take-take (at + w * l) (at + w * suc l) B₀ (omega (arith, box-end));
          behind =
              ap (drop (at + r * l)) is ∙ drop-put B (at + r * l) row (omega (arith, row_fits, row_end))
              ∙ ap (λ (k : ℕ). row ++ drop k B) next
              ∙ ap (λ (z : List Float). row ++ z) m.behind
              ∙ sym (append_assoc row (rows_from (suc l)) (drop (at + r * length covers) B₀))
              ∙ ap (λ (z : List Float). z ++ drop (at + r * length covers) B₀)
              (sym (ap (λ (k : ℕ). joined (map (covered_box d B₀ at covers) (from l k))) count ∙ joined-cons row (map (covered_box d B₀ at covers) (from (suc l) (length covers - suc l)))));
        }

  -- all rows stand
  pub covered-length : at + row_floats_lem d * length covers ≤ length B₀ → length (covered d B₀ at covers) ≡ row_floats_lem d * length covers
  unfolding covered
  covered-length fits =
      let rows = map (covered_box d B₀ at covers) (from 0 (length covers)) in
      let n : length rows ≡ length covers = length-map-from (covered_box d B₀ at covers) 0 (length covers) in
      let each : All (λ (x : List Float). length x ≡ row_floats_lem d) rows =
      all_map (λ (x : List Float). length x ≡ row_floats_lem d) (covered_box d B₀ at covers) (from 0 (length covers))
      (all_from (λ l. length (covered_box d B₀ at covers l) ≡ row_floats_lem d) 0 (length covers) (λ l a b. one l (omega (arith, b)))) in
      length-joined rows ∙ ap (λ (x : List (List Float)). total (map length x)) (sym (take-length rows)) ∙ even-lengths (row_floats_lem d) rows each (length rows) (omega arith)
      ∙ ap (λ (k : ℕ). row_floats_lem d * k) n
    where
      one : (l : ℕ) → l < length covers → length (covered_box d B₀ at covers l) ≡ row_floats_lem d
      one l h =
          omega (
            arith,
            length-append (part B₀ (at + box_width_lem d * l) (box_width_lem d)) (get_or covers l nan ∷ []),
            length_part B₀ (at + box_width_lem d * l) (box_width_lem d) (omega (arith, fits, mul-add (box_width_lem d) l 1, inside l h)),
          )
        where
          inside : (l : ℕ) → l < length covers → box_width_lem d * (l + 1) ≤ row_floats_lem d * length covers
          inside l h = mul-le-mul (omega arith) (omega arith)

  all_rows : rows_from 0 ≡ covered d B₀ at covers
  unfolding covered
  all_rows = ap (λ (k : ℕ). joined (map (covered_box d B₀ at covers) (from 0 k))) (sub-zero (length covers))

  pub moved-end : (B : List Float) → at + row_floats_lem d * length covers ≤ length B₀ → Moved 0 B → B ≡ put B₀ at (covered d B₀ at covers)
  moved-end B fits m =
      let rows = covered d B₀ at covers in
      let z : at + box_width_lem d * 0 ≡ at = omega (arith, mul-zero (box_width_lem d)) in
      let y : at + row_floats_lem d * 0 ≡ at = omega (arith, mul-zero (row_floats_lem d)) in
      let n : at + row_floats_lem d * length covers ≡ at + length rows = ap (λ (k : ℕ). at + k) (sym (covered-length fits)) in
      let behind : drop at B ≡ rows ++ drop (at + length rows) B₀ = (rw y at m.behind) ∙ ap₂ (λ (x : List Float) (k : ℕ). x ++ drop k B₀) all_rows n in
      sym (take-append-drop at B)
      ∙ ap₂ (λ (p q : List Float). p ++ q) (rw z at m.front) behind
      ∙ sym (append_assoc (take at B₀) rows (drop (at + length rows) B₀))
      ∙ sym (put-def B₀ at rows)
