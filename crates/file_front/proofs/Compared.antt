-- Records of bytes compared one after the other: floats, point records, and the front of a file. Assumes nothing.
-- Holds: differs, records-same, float_of, floats-found, floats-end, float-differs, float-agrees, row_differs, row_same,
--   count-differs, rows-decide
use mathlib.Core.Path.{◌≡◌, refl, sym, ap, ap₂, ◌∙◌}
use mathlib.Core.Bool.{Bool, true, false, not, ◌&&◌, ◌||◌}
use Prim.Native.Nat.{ℕ, zero, suc, ◌+◌, ◌*◌, ◌^◌, ◌≤◌, ◌<◌}
use native.Mathlib.Nat.{suc-mul, zero-mul}
use native.Mathlib.Omega.{arith}
use mathlib.Core.List.{List, [], ◌∷◌, ◌++◌, map, map-map}
use lib.ListN.{length, get_or, take, drop, length-append}
use lib.Dec.{T, leb, eqb}
use lib.Ieee.{Float, nan, binary64, fits, to_bits}
use lib.Ieee.Bits.{to_bits-lt}
use borrow.Author.Tests.{leb-true, eq-eqb, ne_eqb}
use Rattle.lists.specs.Lists.{any_of, from, joined, part}
use Rattle.lists.proofs.Tests.{and-of, and-fst, and-snd, eqb_comm}
use Rattle.lists.proofs.Put.{part-nil, length_part, get_d_part}
use Rattle.lists.proofs.From.{list-below}
use Rattle.definition.specs.Points.{coordinate}
use Rattle.definition.specs.Tree.{Settings, point_count}
use Rattle.formats.specs.Bytes.{field, Mark, mark_size, mark_bytes, marked_by, whole, number_size, number_bytes, float_size, float_bytes, floats_bytes}
use Rattle.formats.specs.Stream.{settings_size, settings_bytes, point_size_lem}
use Rattle.bytes_in.proofs.Turns.{one_found}
use Rattle.bytes_out.proofs.Bytes.{length-bytes}
use Rattle.stored.specs.File.{head_mark, file_point_mark, head_bytes_lem, point_bytes, front_bytes_lem}
use Rattle.stored.specs.Sound.{same}
use Rattle.stored.specs.Stored.{head_size, count_in}
use Rattle.stored.specs.Outcome.{same_settings_lem, same_points_lem}
use Rattle.tree_tests.proofs.Lengths.{length-settings, length-head, length-point, length_front}
use Rattle.settings_record.proofs.Compared.{field-same, parts_same}
use Rattle.file_front.specs.Fronts.{point_place}
use Rattle.file_front.proofs.Points.{row_whole}
use Rattle.file_front.proofs.Tested.{head-inside}

-- ---- records of one size
one_more : (a b c : Bool) → c ≡ not b → a && c ≡ not (not a || b)
one_more true b c e = e
one_more false b c e = refl

-- the record number i differs from what stands at its place
abbrev pub differs : (ℕ → List ℕ) → ℕ → ℕ → List ℕ → ℕ → Bool
differs f w at bs i = not (same (f i) (part bs (at + i * w) w))

records-from : (f : ℕ → List ℕ) (w at : ℕ) (bs : List ℕ) → ((i : ℕ) → length (f i) ≡ w) → (n k : ℕ) → at + k * w + n * w ≤ length bs
    → same (joined (map f (from k n))) (part bs (at + k * w) (n * w)) ≡ not (any_of (differs f w at bs) (from k n))
unfolding same any_of joined from
records-from f w at bs e zero k h = rw (zero-mul w, part-nil bs (at + k * w))
records-from f w at bs e (suc n) k h =
    let size : suc n * w ≡ w + n * w = omega (arith, suc-mul n w) in
    let next : at + k * w + w ≡ at + suc k * w = omega (arith, suc-mul k w) in
    let later = joined (map f (from (suc k) n)) in
    ap (λ (m : ℕ). same (f k ++ later) (part bs (at + k * w) m)) size
    ∙ parts_same bs (f k) later (at + k * w) w (n * w) (e k) (omega arith)
    ∙ one_more (same (f k) (part bs (at + k * w) w)) (any_of (differs f w at bs) (from (suc k) n)) (same later (part bs (at + k * w + w) (n * w)))
    (ap (λ (m : ℕ). same later (part bs m (n * w))) next ∙ records-from f w at bs e n (suc k) (omega (arith, next)))

-- n records from `at` on
pub records-same : (f : ℕ → List ℕ) (w at n : ℕ) (bs : List ℕ) → ((i : ℕ) → length (f i) ≡ w) → at + n * w ≤ length bs
    → same (joined (map f (from 0 n))) (part bs at (n * w)) ≡ not (any_of (differs f w at bs) (from 0 n))
records-same f w at n bs e h =
    let start : at + 0 * w ≡ at = omega (arith, zero-mul w) in
    ap (λ (m : ℕ). same (joined (map f (from 0 n))) (part bs m (n * w))) (sym start) ∙ records-from f w at bs e n 0 (omega arith)

-- ---- floats

-- the bytes of the float number i
abbrev pub float_of : List Float → ℕ → List ℕ
float_of xs i = float_bytes (get_or xs i nan)

floats_same : (xs : List Float) (at : ℕ) (bs : List ℕ) → at + float_size * length xs ≤ length bs
    → same (floats_bytes xs) (part bs at (float_size * length xs)) ≡ not (any_of (differs (float_of xs) float_size at bs) (from 0 (length xs)))
unfolding floats_bytes
floats_same xs at bs g =
    let read : ℕ → Float = λ i. get_or xs i nan in
    let listed : xs ≡ map read (from 0 (length xs)) = list-below read xs (length xs) nan refl (λ i l. refl) in
    let turn : float_size * length xs ≡ length xs * float_size = omega arith in
    ap₂ (λ (l : List Float) (m : ℕ). same (joined (map float_bytes l)) (part bs at m)) listed turn
    ∙ ap (λ (l : List (List ℕ)). same (joined l) (part bs at (length xs * float_size))) (map-map float_bytes read (from 0 (length xs)))
    ∙ records-same (float_of xs) float_size at (length xs) bs (λ i. length-bytes float_size (to_bits binary64 (get_or xs i nan))) (omega arith)

module _ (xs : List Float) (at : ℕ) (bs : List ℕ) (g : at + float_size * length xs ≤ length bs) where
  abbrev FloatsSame : Bool → Type 0
  FloatsSame r = r ≡ same (floats_bytes xs) (part bs at (float_size * length xs))

  pub floats-found : (i : ℕ) → i < length xs → differs (float_of xs) float_size at bs i ≡ true → FloatsSame false
  floats-found i l e = sym (floats_same xs at bs g ∙ ap not (one_found (differs (float_of xs) float_size at bs) (length xs) i l e))

  pub floats-end : (i : ℕ) → i ≡ length xs → any_of (differs (float_of xs) float_size at bs) (from 0 i) ≡ false → FloatsSame true
  floats-end i l e =
      sym (floats_same xs at bs g ∙ ap not (ap (λ (k : ℕ). any_of (differs (float_of xs) float_size at bs) (from 0 k)) (sym l) ∙ e))

-- one of them: its bits, and those that are read at its place
module _ (xs : List Float) (at i : ℕ) (bs : List ℕ) (fit : T (fits binary64 (get_or xs i nan))) (bytes : (k : ℕ) → get_or bs k 0 < 256)
    (h : at + float_size * i + float_size ≤ length bs) (bits read : ℕ) (e : bits ≡ to_bits binary64 (get_or xs i nan)) (g : read ≡ field float_size (at + float_size * i) bs) where
  abbrev FloatDiffers : Bool → Type 0
  FloatDiffers b = differs (float_of xs) float_size at bs i ≡ b

  bits-same : eqb bits read ≡ same (float_of xs i) (part bs (at + i * float_size) float_size)
  bits-same =
      let turn : at + float_size * i ≡ at + i * float_size = omega arith in
      let x = get_or xs i nan in
      ap₂ eqb e g ∙ field-same float_size (to_bits binary64 x) (at + float_size * i) bs (to_bits-lt binary64 x fit) h bytes
      ∙ ap (λ (k : ℕ). same (float_of xs i) (part bs k float_size)) turn

  pub float-differs : (bits ≡ read → ⊥) → FloatDiffers true
  float-differs k = ap not (sym bits-same ∙ ne_eqb bits read k)

  pub float-agrees : bits ≡ read → FloatDiffers false
  float-agrees k = ap not (sym bits-same ∙ eq-eqb bits read k)

-- ---- a point's record
mark-same : (m : Mark) (l : List ℕ) → mark_size ≤ length l → marked_by m l ≡ true → same (mark_bytes m) (take mark_size l) ≡ true
unfolding same
mark-same m [] h e = absurd (omega arith)
mark-same m (a ∷ []) h e = absurd (omega arith)
mark-same m (a ∷ b ∷ l) h e =
    let first = and-fst (eqb a m.first) (eqb b m.second) e in
    let second = and-snd (eqb a m.first) (eqb b m.second) e in
    rw (eqb_comm m.first a, eqb_comm m.second b, first, second)

marked-same : (m : Mark) (size at : ℕ) (bs : List ℕ) → mark_size ≤ size → whole m size (drop at bs) ≡ true → same (mark_bytes m) (part bs at mark_size) ≡ true
unfolding part
marked-same m size at bs h w =
    let long = leb-true size (length (drop at bs)) (and-fst (leb size (length (drop at bs))) (marked_by m (drop at bs)) w) in
    mark-same m (drop at bs) (omega arith) (and-snd (leb size (length (drop at bs))) (marked_by m (drop at bs)) w)

module _ (d : ℕ) (cs : List Float) (bs : List ℕ) where
  -- row i differs from the record at its place
  abbrev pub row_differs : ℕ → Bool
  row_differs = differs (point_bytes d cs) (point_size_lem d) head_size bs

  row-part : (i : ℕ) → i * d + d ≤ length cs → part cs (i * d) d ≡ map (coordinate d cs i) (from 0 d)
  row-part i h = list-below (coordinate d cs i) (part cs (i * d) d) d nan (length_part cs (i * d) d h) (λ a l. get_d_part cs (i * d) d a nan l)

  -- where its record stands whole, its floats decide
  pub row_same : (i : ℕ) → i * d + d ≤ length cs → point_place d i + point_size_lem d ≤ length bs → row_whole d bs i ≡ true
      → same (floats_bytes (part cs (i * d) d)) (part bs (point_place d i + mark_size) (float_size * d)) ≡ same (point_bytes d cs i) (part bs (point_place d i) (point_size_lem d))
  unfolding point_bytes
  row_same i h g w =
      let row = map (coordinate d cs i) (from 0 d) in
      ap (λ (l : List Float). same (floats_bytes l) (part bs (point_place d i + mark_size) (float_size * d))) (row-part i h)
      ∙ sym
      (parts_same bs (mark_bytes file_point_mark) (floats_bytes row) (point_place d i) mark_size (float_size * d) refl (omega arith)
      ∙ ap (λ (b : Bool). b && same (floats_bytes row) (part bs (point_place d i + mark_size) (float_size * d)))
      (marked-same file_point_mark (point_size_lem d) (point_place d i) bs (omega arith) w))

-- ---- the front
module _ (s : Settings) (bs : List ℕ) (stands : whole head_mark head_size bs ≡ true) (told : same_settings_lem s bs ≡ true) (bytes : (i : ℕ) → get_or bs i 0 < 256) where
  long : head_size ≤ length bs
  long = head-inside bs stands

  -- the head's bytes are the same where the count is
  head-same : (n : ℕ) → n < 2 ^ 32 → same (head_bytes_lem s n) (part bs 0 head_size) ≡ eqb n (count_in bs)
  unfolding head_bytes_lem
  head-same n h =
      let front = mark_bytes head_mark ++ settings_bytes s in
      let width : length front ≡ settings_size = length-append (mark_bytes head_mark) (settings_bytes s) ∙ length-settings s in
      let wide : length (settings_bytes s) ≡ 18 = omega (arith, length-settings s) in
      let first : same front (part bs 0 settings_size) ≡ true =
      parts_same bs (mark_bytes head_mark) (settings_bytes s) 0 mark_size 18 refl (omega (arith, long))
      ∙ and-of (marked-same head_mark head_size 0 bs (omega arith) stands) (ap (λ (k : ℕ). same (settings_bytes s) (part bs mark_size k)) (sym wide) ∙ told) in
      parts_same bs front (number_bytes n) 0 settings_size number_size width (omega (arith, long))
      ∙ ap (λ (b : Bool). b && same (number_bytes n) (part bs settings_size number_size)) first
      ∙ sym (field-same number_size n settings_size bs (omega arith) long bytes)

  module _ (cs : List Float) where
    abbrev d : ℕ
    d = s.dimension

    abbrev n : ℕ
    n = point_count d cs

    abbrev records : List ℕ
    records = joined (map (point_bytes d cs) (from 0 n))

    front_same : n < 2 ^ 32 → same_points_lem s cs bs ≡ eqb n (count_in bs) && same records (part bs head_size (n * point_size_lem d))
    unfolding front_bytes_lem part
    front_same h =
        ap (λ (k : ℕ). same (front_bytes_lem s cs) (take k bs)) (length_front s cs)
        ∙ parts_same bs (head_bytes_lem s n) records 0 head_size (n * point_size_lem d) (length-head s n) long
        ∙ ap (λ (b : Bool). b && same records (part bs head_size (n * point_size_lem d))) (head-same n h)

    pub count-differs : n < 2 ^ 32 → (n ≡ count_in bs → ⊥) → false ≡ same_points_lem s cs bs
    count-differs h e = sym (front_same h ∙ rw (ne_eqb n (count_in bs) e))

    pub rows-decide : n < 2 ^ 32 → n ≡ count_in bs → point_place d n ≤ length bs → same_points_lem s cs bs ≡ not (any_of (row_differs d cs bs) (from 0 n))
    rows-decide h e g =
        front_same h ∙ ap (λ (b : Bool). b && same records (part bs head_size (n * point_size_lem d))) (eq-eqb n (count_in bs) e)
        ∙ records-same (point_bytes d cs) (point_size_lem d) head_size n bs (length-point d cs) g
