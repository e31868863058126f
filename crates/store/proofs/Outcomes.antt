-- The outcome of a call of the writer, test by test. Assumes nothing.
-- Holds: own-refused, tree-refused, file-refused, file-written
use mathlib.Core.Path.{◌≡◌, ◌∙◌}
use mathlib.Core.Bool.{Bool, true, false, not, ◌&&◌}
use mathlib.Core.List.{List, [], ◌∷◌}
use Prim.Native.Nat.{ℕ, ◌≤◌, ◌<◌}
use borrow.Author.Tests.{lt-ltb, le-ltb}
use lib.Dec.{ltb}
use lib.ListN.{length}
use lib.Ieee.{Float}
use Rattle.lists.specs.Lists.{put}
use Rattle.lists.proofs.Put.{put-zero}
use Rattle.definition.specs.Tree.{Settings, Level, point_count}
use Rattle.definition.specs.Packed.{Counts}
use Rattle.definition.specs.Refusals.{Refusal, accepted, refused, on, verdict}
use Rattle.definition.specs.Outcome.{Answer, TreeLists, number_of, place_of, value_of, written, list_after}
use Rattle.build_checks.proofs.Laws.{and_then, verdict-append}
use Rattle.stored.specs.File.{file_bytes}
use Rattle.stored.specs.Sound.{sound}
use Rattle.stored.specs.Outcome.{own_tests, tree_held, packs, write_verdict, write_answer, write_output}
use Rattle.store.specs.Outcome.{Stored}

module _ (s : Settings) (cs : List Float) (c : Counts) (l : TreeLists) (file : List ℕ) where
  abbrev ls : List Level
  ls = tree_held s.dimension c l

  abbrev bytes : List ℕ
  bytes = file_bytes s cs ls

  -- ---- by the verdict
  refused-is : (r : Refusal) → write_verdict s cs c l file ≡ refused r → (answer : Answer ℕ) → answer ≡ record { number = r.number; place = r.place; value = 0 }
      → Stored s cs c l file file answer
  unfolding write_answer write_output number_of place_of value_of list_after
  refused-is r e answer f = record { answers = f ∙ rw e; output = rw e }

  accepted-is : write_verdict s cs c l file ≡ accepted → Stored s cs c l file (put file 0 bytes) (record { number = 0; place = 0; value = length bytes })
  unfolding write_answer write_output number_of place_of value_of list_after written
  accepted-is e = record { answers = rw e; output = rw e (put-zero file bytes) }

  -- ---- the tests of the tree and of the file list, after the build's own
  abbrev good : Bool
  good = packs c l ls && sound s (point_count s.dimension cs) ls

  abbrev short : Bool
  short = ltb (length file) (length bytes)

  verdict-is : write_verdict s cs c l file ≡ and_then (verdict (own_tests s cs l)) (verdict (on (not good) 20 ∷ on short 11 ∷ []))
  unfolding write_verdict
  verdict-is = verdict-append (own_tests s cs l) (on (not good) 20 ∷ on short 11 ∷ [])

  -- THE OUTCOMES: a refusal of the build's own
  pub own-refused : (r : Refusal) → verdict (own_tests s cs l) ≡ refused r → (answer : Answer ℕ) → answer ≡ record { number = r.number; place = r.place; value = 0 }
      → Stored s cs c l file file answer
  own-refused r e = refused-is r (verdict-is ∙ rw e)

  module _ (own : verdict (own_tests s cs l) ≡ accepted) where
    after-own : write_verdict s cs c l file ≡ verdict (on (not good) 20 ∷ on short 11 ∷ [])
    after-own = verdict-is ∙ rw own

    -- lists or counts that are not those of a sound tree
    pub tree-refused : packs c l (tree_held s.dimension c l) && sound s (point_count s.dimension cs) (tree_held s.dimension c l) ≡ false
        → (answer : Answer ℕ) → answer ≡ record { number = 20; place = 0; value = 0 } → Stored s cs c l file file answer
    unfolding verdict
    tree-refused g = refused-is (record { number = 20; place = 0 }) (after-own ∙ first good g)
      where
        first : (b : Bool) → b ≡ false → verdict (on (not b) 20 ∷ on short 11 ∷ []) ≡ refused (record { number = 20; place = 0 })
        first b e = rw e

    module _ (g : packs c l (tree_held s.dimension c l) && sound s (point_count s.dimension cs) (tree_held s.dimension c l) ≡ true) where
      last : (b : Bool) → short ≡ b → write_verdict s cs c l file ≡ verdict (on b 11 ∷ [])
      unfolding verdict
      last b e = after-own ∙ rw (g, e)

      -- a file list that is too short
      pub file-refused : length file < length (file_bytes s cs (tree_held s.dimension c l)) → (answer : Answer ℕ) → answer ≡ record { number = 11; place = 0; value = 0 }
          → Stored s cs c l file file answer
      unfolding verdict
      file-refused h = refused-is (record { number = 11; place = 0 }) (last true (lt-ltb (length file) (length bytes) h))

      -- and one with room: the bytes are written
      pub file-written : length (file_bytes s cs (tree_held s.dimension c l)) ≤ length file → (n : ℕ) → n ≡ length (file_bytes s cs (tree_held s.dimension c l))
          → (file' : List ℕ) → file' ≡ put file 0 (file_bytes s cs (tree_held s.dimension c l)) → Stored s cs c l file file' (record { number = 0; place = 0; value = n })
      unfolding verdict
      file-written h n e file' f = rw (e, f) (accepted-is (last false (le-ltb (length file) (length bytes) h)))
