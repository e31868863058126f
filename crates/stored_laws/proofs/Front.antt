-- Settings, point count, points and tree read back from bytes that begin with the head and the points, for numbers that the fields
-- hold. Assumes nothing.
-- Holds: SmallSettings, head-parts, policy-back, threshold-back, point_record, row, points-written, front-parts, points-stand,
--   settings-read, count-read, points-read, levels-stand, tree-read
use mathlib.Core.Path.{◌≡◌, refl, sym, ap, ap₂, ◌∙◌}
use Prim.Native.Nat.{ℕ, zero, suc, ◌+◌, ◌*◌, ◌^◌, ◌≤◌, ◌<◌}
use native.Mathlib.Nat.{suc-mul, zero-mul, mul_comm}
use native.Mathlib.Omega.{arith}
use mathlib.Core.List.{List, [], ◌∷◌, ◌++◌, map, map-map, append_assoc}
use lib.ListN.{length, drop, take, get_or, length-drop}
use lib.Seq.{take-add, take_all, get_or-take, get_or-drop, length-take-le}
use lib.Ieee.{Float, nan, fits}
use Rattle.lists.specs.Lists.{from, joined}
use Rattle.lists.specs.Ascends.{All}
use Rattle.lists.proofs.All.{all_map}
use Rattle.lists.proofs.From.{all_from, length_from, length-map-from, list-below, below-snoc}
use Rattle.lists.proofs.Joined.{joined-map-snoc, joined-map-even}
use Rattle.definition.specs.Points.{coordinate}
use Rattle.definition.specs.Levels.{Policy, auto, fixed, policy_from}
use Rattle.definition.specs.Tree.{Settings, Level, point_count}
use Rattle.definition.specs.Packed.{most_levels}
use Rattle.formats.specs.Bytes.{mark_size, mark_bytes, bytes_of, value_at, field_end, number_size, number_bytes, floats_at, floats_bytes}
use Rattle.formats.specs.Stream.{dimension_field, leaf_field, neighbours_field, factor_field, policy_field, threshold_field, settings_size, settings_in, policy_bytes, settings_bytes, point_size_lem}
use Rattle.bytes_out.proofs.Bytes.{length-bytes}
use Rattle.tree_tests.proofs.Lengths.{length-floats, length-point}
use Rattle.stored.specs.File.{head_mark, file_point_mark, head_bytes_lem, point_bytes, front_bytes_lem, tree_records}
use Rattle.stored.specs.Stored.{head_size, count_in, points_in, levels_place, levels_at, tree_in}
use Rattle.stored_laws.specs.Writable.{NumberFits, FloatFits, SettingsFit, policy_number, policy_threshold}
use Rattle.stored_laws.proofs.Fields.{field_back, drop-on, floats-back, read-each}
use Rattle.stored_laws.proofs.Levels.{StowedTree, levels-back}

-- ---- policy
policy-bytes : (p : Policy) → policy_bytes p ≡ bytes_of 1 (policy_number p) ++ number_bytes (policy_threshold p)
unfolding bytes_of
policy-bytes auto = refl
policy-bytes (fixed c) = refl

policy-is : (p : Policy) → policy_from (policy_number p) (policy_threshold p) ≡ p
policy-is auto = refl
policy-is (fixed c) = refl

policy-small : (p : Policy) → policy_number p < 256 ^ 1
policy-small auto = omega arith
policy-small (fixed c) = omega arith

-- ---- settings that the head holds
pub record SmallSettings (s : Settings) : Type 0 where
  pub dimension-small : s.dimension < 256 ^ 1
  pub neighbours-small : NumberFits s.neighbours
  pub others : SettingsFit s

-- the head's fields, one after the other
pub head-parts : (s : Settings) (n : ℕ) (rest : List ℕ)
    → head_bytes_lem s n ++ rest
    ≡ mark_bytes head_mark ++ (bytes_of 1 s.dimension ++ (number_bytes s.leaf ++ (number_bytes s.neighbours ++ (number_bytes s.factor ++ (policy_bytes s.policy ++ (number_bytes n ++ rest))))))
unfolding head_bytes_lem settings_bytes
head-parts s n rest = simp append_assoc

abbrev settings : ℕ → ℕ → ℕ → ℕ → Policy → Settings
settings d l n f p = record { dimension = d; leaf = l; neighbours = n; factor = f; policy = p }

module _ (s : Settings) (n : ℕ) (bs rest : List ℕ) (k : SmallSettings s) (e : bs ≡ head_bytes_lem s n ++ rest) where
  abbrev r6 : List ℕ
  r6 = number_bytes n ++ rest

  abbrev r5 : List ℕ
  r5 = number_bytes (policy_threshold s.policy) ++ r6

  abbrev r4 : List ℕ
  r4 = bytes_of 1 (policy_number s.policy) ++ r5

  abbrev r3 : List ℕ
  r3 = number_bytes s.factor ++ r4

  abbrev r2 : List ℕ
  r2 = number_bytes s.neighbours ++ r3

  abbrev r1 : List ℕ
  r1 = number_bytes s.leaf ++ r2

  at-dimension : drop mark_size bs ≡ bytes_of 1 s.dimension ++ r1
  at-dimension =
      ap (drop mark_size) (e ∙ head-parts s n rest)
      ∙ ap (λ (p : List ℕ). bytes_of 1 s.dimension ++ (number_bytes s.leaf ++ (number_bytes s.neighbours ++ (number_bytes s.factor ++ p))))
      (ap (λ (p : List ℕ). p ++ r6) (policy-bytes s.policy) ∙ append_assoc (bytes_of 1 (policy_number s.policy)) (number_bytes (policy_threshold s.policy)) r6)

  at_leaf : drop (field_end dimension_field) bs ≡ r1
  at_leaf = drop-on mark_size 1 bs (bytes_of 1 s.dimension) r1 (length-bytes 1 s.dimension) at-dimension

  at-neighbours : drop (field_end leaf_field) bs ≡ r2
  at-neighbours = drop-on (field_end dimension_field) number_size bs (number_bytes s.leaf) r2 (length-bytes number_size s.leaf) at_leaf

  at-factor : drop (field_end neighbours_field) bs ≡ r3
  at-factor = drop-on (field_end leaf_field) number_size bs (number_bytes s.neighbours) r3 (length-bytes number_size s.neighbours) at-neighbours

  at-policy : drop (field_end factor_field) bs ≡ r4
  at-policy = drop-on (field_end neighbours_field) number_size bs (number_bytes s.factor) r4 (length-bytes number_size s.factor) at-factor

  at-threshold : drop (field_end policy_field) bs ≡ r5
  at-threshold = drop-on (field_end factor_field) 1 bs (bytes_of 1 (policy_number s.policy)) r5 (length-bytes 1 (policy_number s.policy)) at-policy

  at_count : drop settings_size bs ≡ r6
  at_count = drop-on (field_end policy_field) number_size bs (number_bytes (policy_threshold s.policy)) r6 (length-bytes number_size (policy_threshold s.policy)) at-threshold

  head-after : drop head_size bs ≡ rest
  head-after = drop-on settings_size number_size bs (number_bytes n) rest (length-bytes number_size n) at_count

  count-back : NumberFits n → count_in bs ≡ n
  count-back h = field_back number_size n settings_size bs rest h at_count

  pub policy-back : value_at policy_field bs ≡ policy_number s.policy
  policy-back = field_back 1 (policy_number s.policy) (field_end factor_field) bs r5 (policy-small s.policy) at-policy

  pub threshold-back : value_at threshold_field bs ≡ policy_threshold s.policy
  threshold-back = field_back number_size (policy_threshold s.policy) (field_end policy_field) bs r6 k.others.threshold at-threshold

  settings-back : settings_in bs ≡ s
  unfolding settings_in
  settings-back =
      ap₂ (λ (d l : ℕ). settings d l (value_at neighbours_field bs) (value_at factor_field bs) (policy_from (value_at policy_field bs) (value_at threshold_field bs)))
      (field_back 1 s.dimension mark_size bs r1 k.dimension-small at-dimension)
      (field_back number_size s.leaf (field_end dimension_field) bs r2 k.others.leaf at_leaf)
      ∙ ap₂ (λ (m f : ℕ). settings s.dimension s.leaf m f (policy_from (value_at policy_field bs) (value_at threshold_field bs)))
      (field_back number_size s.neighbours (field_end leaf_field) bs r3 k.neighbours-small at-neighbours)
      (field_back number_size s.factor (field_end neighbours_field) bs r4 k.others.factor at-factor)
      ∙ ap (λ (p : Policy). settings s.dimension s.leaf s.neighbours s.factor p)
      (ap₂ policy_from policy-back threshold-back ∙ policy-is s.policy)

-- ---- points
get_d-fits : (cs : List Float) (i : ℕ) → All FloatFits cs → FloatFits (get_or cs i nan)
unfolding All fits
get_d-fits [] i h = tt
get_d-fits (x ∷ cs) zero h = h.0
get_d-fits (x ∷ cs) (suc i) h = get_d-fits cs i h.1

-- the record of a row's coordinates
abbrev pub point_record : List Float → List ℕ
point_record r = mark_bytes file_point_mark ++ floats_bytes r

module _ (d : ℕ) (cs : List Float) where
  -- the coordinates of row i
  abbrev pub row : ℕ → List Float
  row i = map (coordinate d cs i) (from 0 d)

  row_is : (i : ℕ) → i * d + d ≤ length cs → take d (drop (i * d) cs) ≡ row i
  row_is i h =
      list-below (coordinate d cs i) (take d (drop (i * d) cs)) d nan
      (length-take-le d (drop (i * d) cs) (omega (arith, length-drop (i * d) cs)))
      (λ a g. get_or-take d (drop (i * d) cs) a nan g ∙ get_or-drop (i * d) cs a nan)

  rows-front : (n : ℕ) → n * d ≤ length cs → joined (map row (from 0 n)) ≡ take (n * d) cs
  unfolding from joined
  rows-front zero h = rw (zero-mul d)
  rows-front (suc n) h =
      let z : suc n * d ≡ n * d + d = omega (arith, suc-mul n d) in
      ap (λ (l : List ℕ). joined (map row l)) (below-snoc n) ∙ joined-map-snoc row (from 0 n) n
      ∙ ap₂ (λ (x y : List Float). x ++ y) (rows-front n (omega arith)) (sym (row_is n (omega arith)))
      ∙ sym (take-add (n * d) d cs) ∙ ap (λ (m : ℕ). take m cs) (sym z)

  rows-joined : (n : ℕ) → length cs ≡ n * d → joined (map row (from 0 n)) ≡ cs
  rows-joined n e = rows-front n (omega arith) ∙ take_all (n * d) cs (omega arith)

  -- a row of d coordinates of the format
  abbrev Row : List Float → Type 0
  Row r = (length r ≡ d) × All FloatFits r

  wide : (r : List Float) → Row r → length (point_record r) ≡ point_size_lem d
  wide r h = omega (arith, length-floats r, h.0)

  rows_fit : (n : ℕ) → All FloatFits cs → All Row (map row (from 0 n))
  rows_fit n h =
      all_map Row row (from 0 n)
      (all_from (λ i. Row (row i)) 0 n (λ i a b. (length-map-from (coordinate d cs i) 0 d, all_map FloatFits (coordinate d cs i) (from 0 d) (all_from (λ j. FloatFits (coordinate d cs i j)) 0 d (λ j u v. get_d-fits cs (i * d + j) h)))))

  pub points-written : (n : ℕ) → joined (map (point_bytes d cs) (from 0 n)) ≡ joined (map point_record (map row (from 0 n)))
  unfolding point_bytes
  points-written n = ap joined (sym (map-map point_record row (from 0 n)))

  points-back : (n : ℕ) (bs rest : List ℕ) → All FloatFits cs → drop head_size bs ≡ joined (map (point_bytes d cs) (from 0 n)) ++ rest
      → map (λ i. floats_at d (head_size + i * point_size_lem d + mark_size) bs) (from 0 n) ≡ map row (from 0 n)
  points-back n bs rest h e =
      ap (λ (m : ℕ). map (λ i. floats_at d (head_size + i * point_size_lem d + mark_size) bs) (from 0 m)) (sym (length-map-from row 0 n))
      ∙ read-each Row (point_size_lem d) point_record wide (λ i. head_size + i * point_size_lem d) (λ i. floats_at d (head_size + i * point_size_lem d + mark_size) bs) bs
      (λ i. omega (arith, suc-mul i (point_size_lem d)))
      one
      (map row (from 0 n)) 0 rest (rows_fit n h) (ap (λ (m : ℕ). drop m bs) start ∙ e ∙ ap (λ (l : List ℕ). l ++ rest) (points-written n))
    where
      start : head_size + 0 * point_size_lem d ≡ head_size
      start = omega (arith, zero-mul (point_size_lem d))

      one : (i : ℕ) (r : List Float) (more : List ℕ) → Row r → drop (head_size + i * point_size_lem d) bs ≡ point_record r ++ more → floats_at d (head_size + i * point_size_lem d + mark_size) bs ≡ r
      one i r more g f =
          ap (λ (m : ℕ). floats_at m (head_size + i * point_size_lem d + mark_size) bs) (sym g.0)
          ∙ floats-back r (head_size + i * point_size_lem d + mark_size) bs more g.1
          (drop-on (head_size + i * point_size_lem d) mark_size bs (mark_bytes file_point_mark) (floats_bytes r ++ more) refl f)

-- ---- bytes that begin with the head and the points
points-length : (d : ℕ) (cs : List Float) (n : ℕ) → length (joined (map (point_bytes d cs) (from 0 n))) ≡ point_size_lem d * n
points-length d cs n = joined-map-even (point_bytes d cs) (point_size_lem d) (length-point d cs) (from 0 n) ∙ ap (λ (k : ℕ). point_size_lem d * k) (length_from 0 n)

module _ (s : Settings) (cs : List Float) (bs rest : List ℕ) (k : SmallSettings s) (h : All FloatFits cs) (e : bs ≡ front_bytes_lem s cs ++ rest) where
  abbrev d : ℕ
  d = s.dimension

  abbrev n : ℕ
  n = point_count d cs

  abbrev points : List ℕ
  points = joined (map (point_bytes d cs) (from 0 n))

  pub front-parts : bs ≡ head_bytes_lem s n ++ (points ++ rest)
  unfolding front_bytes_lem
  front-parts = e ∙ append_assoc (head_bytes_lem s n) points rest

  pub points-stand : drop head_size bs ≡ points ++ rest
  points-stand = head-after s n bs (points ++ rest) k front-parts

  pub settings-read : settings_in bs ≡ s
  settings-read = settings-back s n bs (points ++ rest) k front-parts

  dimension-read : (settings_in bs).dimension ≡ d
  dimension-read = ap (λ (t : Settings). t.dimension) settings-read

  pub count-read : NumberFits n → count_in bs ≡ n
  count-read few = count-back s n bs (points ++ rest) k front-parts few

  pub points-read : NumberFits n → length cs ≡ n * d → points_in bs ≡ cs
  unfolding points_in
  points-read few even =
      ap₂ (λ (e m : ℕ). joined (map (λ i. floats_at e (head_size + i * point_size_lem e + mark_size) bs) (from 0 m))) dimension-read (count-read few)
      ∙ ap joined (points-back d cs n bs rest h points-stand) ∙ rows-joined d cs n even

  -- what stands where the levels begin
  pub levels-stand : NumberFits n → drop (levels_place bs) bs ≡ rest
  levels-stand few =
      let z : head_size + n * point_size_lem d ≡ head_size + point_size_lem d * n = omega (arith, mul_comm n (point_size_lem d)) in
      ap₂ (λ (e m : ℕ). drop (head_size + m * point_size_lem e) bs) dimension-read (count-read few)
      ∙ ap (λ (m : ℕ). drop m bs) z ∙ drop-on head_size (point_size_lem d * n) bs points rest (points-length d cs n) points-stand

  -- and go on with a tree
  pub tree-read : (ls : List Level) → NumberFits n → length ls ≤ most_levels → StowedTree d ls → rest ≡ joined (tree_records ls) → tree_in bs ≡ ls
  unfolding tree_in
  tree-read ls few short stowed t =
      ap (λ (e : ℕ). levels_at e most_levels (drop (levels_place bs) bs)) dimension-read
      ∙ levels-back d most_levels ls (drop (levels_place bs) bs) short stowed (levels-stand few ∙ t)
