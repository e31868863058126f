-- A tree that stands in the lists is written: a sound one in lists that are long enough, and so what a build that was accepted made.
-- Assumes nothing.
-- Holds: write-passes, write-answers, write-fills, lists-still-long, lent-long, write-of-build, write-of-build-answers,
--   write-of-build-fills
use mathlib.Core.Path.{◌≡◌, sym, ap, ◌∙◌}
use mathlib.Core.Bool.{Bool, true, false, not, ◌&&◌, ◌||◌}
use mathlib.Core.List.{List, [], ◌∷◌, ◌++◌}
use Prim.Native.Nat.{ℕ, ◌≤◌}
use native.Mathlib.Omega.{arith}
use borrow.Author.Tests.{le-ltb, ltb-false}
use lib.Dec.{ltb}
use lib.ListN.{length, drop, length-append, length-drop}
use lib.Ieee.{Float}
use Rattle.lists.specs.Ascends.{All}
use Rattle.lists.proofs.Tests.{and-of, or-none}
use Rattle.definition.specs.Tree.{Settings, Level, point_count, levels}
use Rattle.definition.specs.Packed.{Counts, TreeSizes, tree_stated, build_stated, packed_level_points, packed_internals, packed_domains, packed_boxes, packed_borrowed}
use Rattle.definition.specs.Refusals.{tree_short, Test, Verdict, accepted, on, verdict, build_tests, build_verdict, coordinates_missing, not_finite_lem}
use Rattle.definition.specs.Outcome.{RecordLists, TreeLists, number_of, place_of, value_of, lent_tree, lent_sizes, written, list_after, tree_lists_after, build_call, build_answer, build_lists}
use Rattle.definition_laws.proofs.Accepted.{accepted-iff, both-accept, TreeEnough, build-accepted}
use Rattle.stored.specs.File.{file_bytes}
use Rattle.stored.specs.Sound.{sound}
use Rattle.stored.specs.Outcome.{lists_short_lem, own_tests, packs, write_verdict, write_answer, write_output}
use Rattle.stored_built.proofs.BuiltSound.{built-sound}
use Rattle.stored_built.proofs.Held.{Holds, held-is, held-packs, build-holds}

-- ---- two tests
accepted-two : (t u : Test) → t.holds ≡ false → u.holds ≡ false → verdict (t ∷ u ∷ []) ≡ accepted
unfolding All
accepted-two t u a b = (accepted-iff (t ∷ u ∷ [])).1 (a, (b, tt))

-- ---- a sound tree in lists of which the build's own tests pass
module _ (s : Settings) (cs : List Float) (c : Counts) (l : TreeLists) (file : List ℕ) (ls : List Level) (holds : Holds s.dimension c l ls) where
  -- it is written where the file list has room for it
  pub write-passes : verdict (own_tests s cs l) ≡ accepted → sound s (point_count s.dimension cs) ls ≡ true → length (file_bytes s cs ls) ≤ length file
      → write_verdict s cs c l file ≡ accepted
  unfolding write_verdict
  write-passes own tests room =
      rw (held-is s.dimension c l ls holds)
      (both-accept (own_tests s cs l)
      (on (not (packs c l ls && sound s (point_count s.dimension cs) ls)) 20 ∷ on (ltb (length file) (length (file_bytes s cs ls))) 11 ∷ [])
      own
      (accepted-two (on (not (packs c l ls && sound s (point_count s.dimension cs) ls)) 20) (on (ltb (length file) (length (file_bytes s cs ls))) 11)
      (ap not (and-of (held-packs s.dimension c l ls holds) tests))
      (le-ltb (length file) (length (file_bytes s cs ls)) room)))

  -- then the answer is the number of its bytes, and the file list begins with them
  pub write-answers : write_verdict s cs c l file ≡ accepted → write_answer s cs c l file ≡ record { number = 0; place = 0; value = length (file_bytes s cs ls) }
  unfolding write_answer number_of place_of value_of
  write-answers v = rw (v, held-is s.dimension c l ls holds)

  pub write-fills : write_verdict s cs c l file ≡ accepted → write_output s cs c l file ≡ file_bytes s cs ls ++ drop (length (file_bytes s cs ls)) file
  unfolding write_output list_after written
  write-fills v = rw (v, held-is s.dimension c l ls holds)

-- ---- lists after an accepted call are no shorter than before
still-long : {A : Type 0} (xs old : List A) (k : ℕ) → ltb (length old) k ≡ false → ltb (length (written xs old)) k ≡ false
unfolding written
still-long xs old k h =
    le-ltb (length (xs ++ drop (length xs) old)) k (omega (arith, ltb-false (length old) k h, length-append xs (drop (length xs) old), length-drop (length xs) old))

pub lists-still-long : (ls : List Level) (old : TreeLists) (stated : TreeSizes) → lists_short_lem old stated ≡ false → lists_short_lem (tree_lists_after accepted ls old) stated ≡ false
unfolding lists_short_lem tree_short tree_lists_after list_after
lists-still-long ls old stated h =
    let a = ltb (length old.level_points) stated.level_points in
    let b = ltb (length old.internals) stated.internals in
    let c = ltb (length old.domains) stated.domains in
    let e = ltb (length old.boxes) stated.boxes in
    let f = ltb (length old.borrowed) stated.borrowed in
    let p4 = or-none (a || b || c || e) f h in
    let p3 = or-none (a || b || c) e p4.0 in
    let p2 = or-none (a || b) c p3.0 in
    let p1 = or-none a b p2.0 in
    rw (
      still-long (packed_level_points ls) old.level_points stated.level_points p1.0,
      still-long (packed_internals ls) old.internals stated.internals p1.1,
      still-long (packed_domains ls) old.domains stated.domains p2.1,
      still-long (packed_boxes ls) old.boxes stated.boxes p3.1,
      still-long (packed_borrowed ls) old.borrowed stated.borrowed p4.1,
    )

-- lists that a tree may be packed into are long enough
pub lent-long : (old : TreeLists) (stated : TreeSizes) → TreeEnough (lent_tree old) stated → lists_short_lem old stated ≡ false
unfolding lists_short_lem tree_short
lent-long old stated h =
    rw (
      le-ltb (length old.level_points) stated.level_points h.level_points,
      le-ltb (length old.internals) stated.internals h.internals,
      le-ltb (length old.domains) stated.domains h.domains,
      le-ltb (length old.boxes) stated.boxes h.boxes,
      le-ltb (length old.borrowed) stated.borrowed h.borrowed,
    )

-- ---- a build that is accepted
module _ (s : Settings) (cs : List Float) (old : TreeLists) (floats : List Float) (wholes : List ℕ) (records : RecordLists) (e : build_call s cs old floats wholes records ≡ accepted) where
  abbrev n : ℕ
  n = point_count s.dimension cs

  abbrev stated : TreeSizes
  stated = tree_stated s.dimension n s.neighbours

  -- the build's own tests pass on the lists that it leaves
  own-passes : verdict (own_tests s cs (build_lists s cs old floats wholes records)) ≡ accepted
  unfolding own_tests build_lists build_verdict build_stated
  own-passes =
      let a = build-accepted s cs (lent_sizes old floats wholes records) e in
      let tests : Bool → Verdict = λ lacking. verdict (build_tests s n (coordinates_missing s.dimension cs) lacking (not_finite_lem cs)) in
      let short : lists_short_lem (tree_lists_after (build_call s cs old floats wholes records) (levels s cs) old) stated ≡ false =
      rw e (lists-still-long (levels s cs) old stated (lent-long old stated a.enough.tree)) in
      ap tests (short ∙ sym a.passes-all.none-short) ∙ e

  module _ (file : List ℕ) (room : length (file_bytes s cs (levels s cs)) ≤ length file) where
    abbrev counts : Counts
    counts = (build_answer s cs old floats wholes records).value

    abbrev lists : TreeLists
    lists = build_lists s cs old floats wholes records

    holds : Holds s.dimension counts lists (levels s cs)
    holds = build-holds s cs old floats wholes records e

    -- THE LAWS: its answer's counts and the lists that it leaves are written
    pub write-of-build : write_verdict s cs (build_answer s cs old floats wholes records).value (build_lists s cs old floats wholes records) file ≡ accepted
    write-of-build = write-passes s cs counts lists file (levels s cs) holds own-passes (built-sound s cs (lent_sizes old floats wholes records) e) room

    pub write-of-build-answers : write_answer s cs (build_answer s cs old floats wholes records).value (build_lists s cs old floats wholes records) file
        ≡ record { number = 0; place = 0; value = length (file_bytes s cs (levels s cs)) }
    write-of-build-answers = write-answers s cs counts lists file (levels s cs) holds write-of-build

    pub write-of-build-fills : write_output s cs (build_answer s cs old floats wholes records).value (build_lists s cs old floats wholes records) file
        ≡ file_bytes s cs (levels s cs) ++ drop (length (file_bytes s cs (levels s cs))) file
    write-of-build-fills = write-fills s cs counts lists file (levels s cs) holds write-of-build
