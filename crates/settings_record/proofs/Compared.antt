-- A record's bytes against those of settings: field by field, each as a number. Assumes nothing.
-- Holds: field-same, parts_same, settings-same, fields-equal
use mathlib.Core.Path.{◌≡◌, refl, sym, ap, ◌∙◌}
use mathlib.Core.Bool.{Bool, ◌&&◌, and_assoc}
use Prim.Native.Nat.{ℕ, zero, suc, ◌+◌, ◌-◌, ◌*◌, ◌/◌, ◌%◌, ◌^◌, ◌≤◌, ◌<◌}
use native.Mathlib.Nat.{pow-zero, pow-succ'}
use native.Mathlib.Omega.{arith}
use mathlib.Core.List.{List, [], ◌∷◌, ◌++◌}
use lib.ListN.{length, get_or, take, drop, length-append, length-drop}
use lib.Seq.{get_or-drop}
use lib.Dec.{eqb}
use Rattle.std.specs.Str.{bytes_eq}
use borrow.Author.Tests.{eq-eqb, eqb-true}
use Rattle.lists.specs.Lists.{part, put}
use Rattle.lists.proofs.Tests.{same_test, and-fst, and-snd, and-of}
use Rattle.lists.proofs.Put.{part-append, length_part, put_whole}
use Rattle.definition.specs.Tree.{Settings}
use Rattle.formats.specs.Bytes.{mark_size, little, field, bytes_of}
use Rattle.formats.specs.Stream.{settings_size, policy_bytes, settings_bytes}
use Rattle.stored.specs.Sound.{same}
use Rattle.stored.specs.Outcome.{same_settings_lem}
use Rattle.bytes_out.proofs.Bytes.{length-bytes}
use Rattle.tree_tests.proofs.Lengths.{length-settings}

-- ---- one field
digits_same : (n b r : ℕ) → b < 256 → eqb (n % 256) b && eqb (n / 256) r ≡ eqb n (b + 256 * r)
digits_same n b r h =
    same_test (eqb (n % 256) b && eqb (n / 256) r) (eqb n (b + 256 * r))
    (λ e. eq-eqb n (b + 256 * r) (omega (arith, eqb-true (n % 256) b (and-fst (eqb (n % 256) b) (eqb (n / 256) r) e), eqb-true (n / 256) r (and-snd (eqb (n % 256) b) (eqb (n / 256) r) e))))
    (λ e. let g = eqb-true n (b + 256 * r) e in and-of (eq-eqb (n % 256) b (omega arith)) (eq-eqb (n / 256) r (omega arith)))

little-same : (k n : ℕ) (bs : List ℕ) → n < 256 ^ k → k ≤ length bs → ((i : ℕ) → get_or bs i 0 < 256) → same (bytes_of k n) (take k bs) ≡ eqb n (little k bs)
unfolding same bytes_of little
little-same zero n bs h g w = sym (eq-eqb n 0 (omega (arith, rw (pow-zero 256) at h)))
little-same (suc k) n [] h g w = absurd (omega arith)
little-same (suc k) n (b ∷ bs) h g w =
    ap (λ (t : Bool). eqb (n % 256) b && t) (little-same k (n / 256) bs (omega (arith, rw (pow-succ' 256 k) at h)) (omega arith) (λ i. w (suc i)))
    ∙ digits_same n b (little k bs) (w 0)

-- k bytes are those of a number where the number that they stand for is it
pub field-same : (k n at : ℕ) (bs : List ℕ) → n < 256 ^ k → at + k ≤ length bs → ((i : ℕ) → get_or bs i 0 < 256) → eqb n (field k at bs) ≡ same (bytes_of k n) (part bs at k)
unfolding part
field-same k n at bs h g w =
    sym (little-same k n (drop at bs) h (omega (arith, length-drop at bs)) (λ i. rw (get_or-drop at bs i 0) (w (at + i))))

-- ---- one field after another
same-append : (xs us ys vs : List ℕ) → length xs ≡ length us → same (xs ++ ys) (us ++ vs) ≡ same xs us && same ys vs
unfolding same
same-append [] [] ys vs e = refl
same-append [] (u ∷ us) ys vs e = absurd (omega arith)
same-append (x ∷ xs) [] ys vs e = absurd (omega arith)
same-append (x ∷ xs) (u ∷ us) ys vs e =
    ap (λ (t : Bool). eqb x u && t) (same-append xs us ys vs (omega arith)) ∙ sym (and_assoc (eqb x u) (same xs us) (same ys vs))

module _ (bs : List ℕ) where
  pub parts_same : (xs ys : List ℕ) (at m n : ℕ) → length xs ≡ m → at + m ≤ length bs → same (xs ++ ys) (part bs at (m + n)) ≡ same xs (part bs at m) && same ys (part bs (at + m) n)
  parts_same xs ys at m n e h = rw (← part-append bs at m n) (same-append xs (part bs at m) ys (part bs (at + m) n) (e ∙ sym (length_part bs at m h)))

module _ (s : Settings) (bs : List ℕ) (h : settings_size ≤ length bs) where
  pub settings-same : same_settings_lem s bs
      ≡ same (bytes_of 1 s.dimension) (part bs 2 1) && same (bytes_of 4 s.leaf) (part bs 3 4) && same (bytes_of 4 s.neighbours) (part bs 7 4)
      && same (bytes_of 4 s.factor) (part bs 11 4) && same (policy_bytes s.policy) (part bs 15 5)
  unfolding settings_bytes
  settings-same =
      let d = bytes_of 1 s.dimension in
      let leaf = bytes_of 4 s.leaf in
      let neighbours = bytes_of 4 s.neighbours in
      let factor = bytes_of 4 s.factor in
      let policy = policy_bytes s.policy in
      let k2 : length (d ++ leaf) ≡ 5 = simp (length-append, length-bytes) in
      let k3 : length (d ++ leaf ++ neighbours) ≡ 9 = simp (length-append, length-bytes) in
      let k4 : length (d ++ leaf ++ neighbours ++ factor) ≡ 13 = simp (length-append, length-bytes) in
      ap (λ (k : ℕ). same (settings_bytes s) (part bs 2 k)) (omega (arith, length-settings s))
      ∙ parts_same bs (d ++ leaf ++ neighbours ++ factor) policy 2 13 5 k4 (omega arith)
      ∙ ap (λ (t : Bool). t && same policy (part bs 15 5))
      (parts_same bs (d ++ leaf ++ neighbours) factor 2 9 4 k3 (omega arith)
      ∙ ap (λ (t : Bool). t && same factor (part bs 11 4))
      (parts_same bs (d ++ leaf) neighbours 2 5 4 k2 (omega arith)
      ∙ ap (λ (t : Bool). t && same neighbours (part bs 7 4)) (parts_same bs d leaf 2 1 4 (length-bytes 1 s.dimension) (omega arith))))

-- ---- all fields at once
same-equal : (xs ys : List ℕ) → bytes_eq xs ys ≡ same xs ys
unfolding same
same-equal [] [] = refl
same-equal [] (y ∷ ys) = refl
same-equal (x ∷ xs) [] = refl
same-equal (x ∷ xs) (y ∷ ys) = ap (λ (t : Bool). eqb x y && t) (same-equal xs ys)

-- what was written to a list that the fields just fill, against a record
pub fields-equal : (s : Settings) (bs room written : List ℕ) → mark_size + length room ≡ settings_size → written ≡ put room 0 (settings_bytes s)
    → bytes_eq written (part bs mark_size (settings_size - mark_size)) ≡ same_settings_lem s bs
fields-equal s bs room written h e =
    let long : length room ≡ length (settings_bytes s) = omega (arith, length-settings s) in
    let full : written ≡ settings_bytes s = e ∙ put_whole room (settings_bytes s) (omega (arith, long)) in
    same-equal written (part bs mark_size (settings_size - mark_size))
    ∙ ap (λ (xs : List ℕ). same xs (part bs mark_size (settings_size - mark_size))) full
    ∙ ap (λ (k : ℕ). same (settings_bytes s) (part bs mark_size k)) (omega (arith, length-settings s))
