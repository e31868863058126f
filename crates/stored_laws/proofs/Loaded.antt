-- The loader on a written file, and what an accepted load hands out. Assumes nothing.
-- Holds: file_tests, tests-passed, load-accepts, load-answers, load-lists, loaded-own, loaded-well, loaded-settings,
--   loaded-count, loaded-points, loaded-file, loaded-sound, load-accepted-iff
use mathlib.Core.Path.{◌≡◌, sym, ap, ap₂, subst, ◌∙◌}
use mathlib.Core.Logic.{◌↔◌}
use Prim.Native.Nat.{ℕ}
use native.Mathlib.Omega.{arith}
use mathlib.Core.Bool.{true, false, not}
use mathlib.Core.List.{List, [], ◌∷◌, ◌++◌, map, append_assoc}
use lib.ListN.{length, take, drop, take-append-drop}
use lib.Seq.{take-append_seam}
use lib.Ieee.{Float}
use borrow.Author.Tests.{not-false}
use Rattle.lists.specs.Lists.{from, joined, part}
use Rattle.lists.specs.Ascends.{All}
use Rattle.definition.specs.Tree.{Settings, Level, point_count}
use Rattle.definition.specs.Packed.{counts_of}
use Rattle.definition.specs.Refusals.{Test, on, Verdict, accepted, verdict, not_finite_lem}
use Rattle.definition.specs.Outcome.{TreeLists, answered, zero_counts, tree_lists_after}
use Rattle.formats.specs.Bytes.{mark_size, number_bytes}
use Rattle.formats.specs.Stream.{settings_in, settings_bytes}
use Rattle.definition_laws.proofs.Accepted.{accepted-iff, Passed, whole-points, both-accept, first-accepts, second-accepts}
use Rattle.stored.specs.File.{head_bytes_lem, point_bytes, front_bytes_lem, tree_records, file_bytes}
use Rattle.stored.specs.Sound.{same, sound}
use Rattle.stored.specs.Stored.{count_in, points_in, tree_in, well_formed}
use Rattle.stored.specs.Outcome.{own_tests, same_settings_lem, same_points_lem, load_verdict, load_answer, load_lists_lem}
use Rattle.tree_tests.proofs.AllRows.{same-is, same_self}
use Rattle.stored_laws.specs.Writable.{NumberFits, FloatFits, SettingsFit, Writable, Stores}
use Rattle.stored_laws.proofs.Front.{SmallSettings, settings-read, count-read, points-read}
use Rattle.stored_laws.proofs.ReadBack.{buildable-passed, passed-small, written-well, back-tree}
use Rattle.stored_laws.proofs.WellFormed.{well-formed-file, well-formed-sound, well-formed-writable}
use Rattle.stored_laws.proofs.Verdicts.{own-whole, own-takes}

-- ---- the loader's own tests
abbrev pub file_tests : Settings → List Float → List ℕ → List Test
file_tests s cs bs = on (not (well_formed bs)) 20 ∷ on (not (same_settings_lem s bs)) 18 ∷ on (not (same_points_lem s cs bs)) 19 ∷ []

module _ (s : Settings) (cs : List Float) (bs : List ℕ) where
  tests-pass : well_formed bs ≡ true → same_settings_lem s bs ≡ true → same_points_lem s cs bs ≡ true → verdict (file_tests s cs bs) ≡ accepted
  unfolding All
  tests-pass a b c = (accepted-iff (file_tests s cs bs)).1 (ap not a, (ap not b, (ap not c, tt)))

  pub tests-passed : verdict (file_tests s cs bs) ≡ accepted → (well_formed bs ≡ true) × (same_settings_lem s bs ≡ true) × (same_points_lem s cs bs ≡ true)
  unfolding All
  tests-passed e =
      let g = (accepted-iff (file_tests s cs bs)).0 e in
      (not-false (well_formed bs) g.0, not-false (same_settings_lem s bs) g.1.0, not-false (same_points_lem s cs bs) g.1.1.0)

-- ---- a written file is accepted, and its tree handed out
settings-part : (s : Settings) (cs : List Float) (rest : List ℕ) → part (front_bytes_lem s cs ++ rest) mark_size (length (settings_bytes s)) ≡ settings_bytes s
unfolding front_bytes_lem head_bytes_lem part
settings-part s cs rest =
    let n = point_count s.dimension cs in
    let points = joined (map (point_bytes s.dimension cs) (from 0 n)) in
    ap (take (length (settings_bytes s))) (regroup (settings_bytes s) (number_bytes n) points rest)
    ∙ take-append_seam (settings_bytes s) (number_bytes n ++ (points ++ rest))
  where
    regroup : (a b c e : List ℕ) → a ++ b ++ c ++ e ≡ a ++ (b ++ (c ++ e))
    regroup a b c e = simp append_assoc

module _ (s : Settings) (cs : List Float) (ls : List Level) (old : TreeLists) (own : verdict (own_tests s cs old) ≡ accepted) (w : Writable s cs ls) where
  abbrev bs : List ℕ
  bs = file_bytes s cs ls

  written-settings : same_settings_lem s bs ≡ true
  unfolding file_bytes
  written-settings = ap (λ (x : List ℕ). same (settings_bytes s) x) (settings-part s cs (joined (tree_records ls))) ∙ same_self (settings_bytes s)

  written-points : same_points_lem s cs bs ≡ true
  unfolding file_bytes
  written-points = ap (λ (x : List ℕ). same (front_bytes_lem s cs) x) (take-append_seam (front_bytes_lem s cs) (joined (tree_records ls))) ∙ same_self (front_bytes_lem s cs)

  pub load-accepts : load_verdict s cs bs old ≡ accepted
  unfolding load_verdict
  load-accepts = both-accept (own_tests s cs old) (file_tests s cs bs) own (tests-pass s cs bs (written-well s cs ls w) written-settings written-points)

  -- the counts and the lists of the tree
  pub load-answers : load_answer s cs bs old ≡ answered accepted (counts_of ls) zero_counts
  unfolding load_answer
  load-answers = ap₂ (λ (v : Verdict) (t : List Level). answered v (counts_of t) zero_counts) load-accepts (back-tree s cs ls w)

  pub load-lists : load_lists_lem s cs bs old ≡ tree_lists_after accepted ls old
  unfolding load_lists_lem
  load-lists = ap₂ (λ (v : Verdict) (t : List Level). tree_lists_after v t old) load-accepts (back-tree s cs ls w)

-- ---- whatever is accepted is the file of these settings, these points and a tree that passes the tests
module _ (s : Settings) (cs : List Float) (bs : List ℕ) (old : TreeLists) (fit : SettingsFit s) (held : All FloatFits cs) (ok : load_verdict s cs bs old ≡ accepted) where
  abbrev d : ℕ
  d = s.dimension

  abbrev n : ℕ
  n = point_count d cs

  abbrev rest : List ℕ
  rest = drop (length (front_bytes_lem s cs)) bs

  pub loaded-own : verdict (own_tests s cs old) ≡ accepted
  unfolding load_verdict
  loaded-own = first-accepts (own_tests s cs old) (file_tests s cs bs) ok

  last : (well_formed bs ≡ true) × (same_settings_lem s bs ≡ true) × (same_points_lem s cs bs ≡ true)
  unfolding load_verdict
  last = tests-passed s cs bs (second-accepts (own_tests s cs old) (file_tests s cs bs) ok)

  pub loaded-well : well_formed bs ≡ true
  loaded-well = last.0

  front : bs ≡ front_bytes_lem s cs ++ rest
  front =
      sym (take-append-drop (length (front_bytes_lem s cs)) bs)
      ∙ ap (λ (x : List ℕ). x ++ rest) (sym (same-is (front_bytes_lem s cs) (take (length (front_bytes_lem s cs)) bs) last.2))

  has : Passed s n false false (not_finite_lem cs)
  has = buildable-passed s cs (own-takes s cs old loaded-own)

  small : SmallSettings s
  small = passed-small s n (not_finite_lem cs) has fit

  few : NumberFits n
  few = omega (arith, has.rows_few)

  pub loaded-settings : settings_in bs ≡ s
  loaded-settings = settings-read s cs bs rest small held front

  pub loaded-count : count_in bs ≡ n
  loaded-count = count-read s cs bs rest small held front few

  pub loaded-points : points_in bs ≡ cs
  loaded-points = points-read s cs bs rest small held front few (whole-points d cs (own-whole s cs old loaded-own))

  pub loaded-file : bs ≡ file_bytes s cs (tree_in bs)
  loaded-file =
      well-formed-file bs loaded-well
      ∙ ap₂ (λ (t : Settings) (c : List Float). file_bytes t c (tree_in bs)) loaded-settings loaded-points

  pub loaded-sound : sound s n (tree_in bs) ≡ true
  loaded-sound = sym (ap₂ (λ (t : Settings) (m : ℕ). sound t m (tree_in bs)) loaded-settings loaded-count) ∙ well-formed-sound bs loaded-well

-- ---- accepted exactly where the build's own tests pass and the bytes are the file of these settings, these points and some tree
pub load-accepted-iff : (s : Settings) (cs : List Float) (bs : List ℕ) (old : TreeLists) → SettingsFit s → All FloatFits cs
    → (load_verdict s cs bs old ≡ accepted) ↔ ((verdict (own_tests s cs old) ≡ accepted) × ((ls : List Level) × Stores bs s cs ls))
load-accepted-iff s cs bs old fit held = (to, back)
  where
    writes : load_verdict s cs bs old ≡ accepted → Writable s cs (tree_in bs)
    writes e =
        subst (λ (c : List Float). Writable s c (tree_in bs)) (loaded-points s cs bs old fit held e)
        (subst (λ (t : Settings). Writable t (points_in bs) (tree_in bs)) (loaded-settings s cs bs old fit held e)
        (well-formed-writable bs (loaded-well s cs bs old fit held e)))

    to : load_verdict s cs bs old ≡ accepted → (verdict (own_tests s cs old) ≡ accepted) × ((ls : List Level) × Stores bs s cs ls)
    to e = (loaded-own s cs bs old fit held e, (tree_in bs, record { writable = writes e; file = sym (loaded-file s cs bs old fit held e) }))

    back : (verdict (own_tests s cs old) ≡ accepted) × ((ls : List Level) × Stores bs s cs ls) → load_verdict s cs bs old ≡ accepted
    back k = ap (λ (x : List ℕ). load_verdict s cs x old) (sym k.1.1.file) ∙ load-accepts s cs k.1.0 old k.0 k.1.1.writable
