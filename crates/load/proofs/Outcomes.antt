-- The outcome of a load, from what its tests say. Assumes nothing.
-- Holds: loaded-refused, own-refused, refused-20, refused-18, refused-19, loaded-accepted
use mathlib.Core.Path.{◌≡◌, ap, subst, ◌∙◌}
use mathlib.Core.Bool.{true, false}
use mathlib.Core.List.{List}
use Prim.Native.Nat.{ℕ}
use lib.Ieee.{Float}
use Rattle.lists.specs.Lists.{put}
use Rattle.lists.proofs.Put.{put-zero}
use Rattle.lists.proofs.Tests.{clash}
use Rattle.definition.specs.Tree.{Settings, Level, point_count}
use Rattle.definition.specs.Packed.{Counts, counts_of, packed_level_points, packed_internals, packed_domains, packed_boxes, packed_borrowed}
use Rattle.definition.specs.Refusals.{Refusal, accepted, refused, verdict}
use Rattle.definition.specs.Outcome.{Answer, TreeLists, number_of, place_of, value_of, zero_counts, written, list_after, tree_lists_after}
use Rattle.formats.specs.Stream.{settings_in}
use Rattle.build_checks.proofs.Laws.{and_then, verdict-append}
use Rattle.demand3.specs.Handed.{handed}
use Rattle.demand3.specs.LoadedTree.{LoadedTree}
use Rattle.stored.specs.Stored.{levels_place, tree_in, taken, well_formed}
use Rattle.stored.specs.Outcome.{own_tests, same_settings_lem, same_points_lem, load_verdict, load_answer, load_lists_lem}
use Rattle.stored_laws.proofs.Loaded.{file_tests}
use Rattle.stored_rules.proofs.FileRules.{load-rules, load-depths}
use Rattle.tree_answer.specs.Answers.{lists_of}
use Rattle.load_lists.specs.Places.{tree_from}
use Rattle.load.specs.Loading.{Loaded}
use Rattle.load.proofs.SameFile.{its-dimension, its-count, tree-here}

abbrev refusal : ℕ → Refusal
refusal k = record { number = k; place = 0 }

module _ (s : Settings) (cs : List Float) (bs : List ℕ) (old : TreeLists) where
  in-turn : load_verdict s cs bs old ≡ and_then (verdict (own_tests s cs old)) (verdict (file_tests s cs bs))
  unfolding load_verdict
  in-turn = verdict-append (own_tests s cs old) (file_tests s cs bs)

  -- ---- a refused call: its number and place, zeros, and the lists as they were
  pub loaded-refused : (r : Refusal) → load_verdict s cs bs old ≡ refused r → {answer : Answer Counts}
      → answer ≡ record { number = r.number; place = r.place; value = zero_counts } → Loaded s cs bs old old answer
  unfolding load_answer load_lists_lem tree_lists_after list_after number_of place_of value_of taken
  loaded-refused r e a =
      record {
        answers = a ∙ rw e;
        level_points = rw e;
        internals = rw e;
        domains = rw e;
        boxes = rw e;
        borrowed = rw e;
        rules = λ t. clash (ap taken t) (ap taken e);
        depths = λ t. clash (ap taken t) (ap taken e);
      }

  pub own-refused : (r : Refusal) → verdict (own_tests s cs old) ≡ refused r → load_verdict s cs bs old ≡ refused r
  own-refused r e = in-turn ∙ rw e

  -- ---- the file's tests, after the build's own
  module _ (own : verdict (own_tests s cs old) ≡ accepted) where
    by-file : load_verdict s cs bs old ≡ verdict (file_tests s cs bs)
    by-file = in-turn ∙ rw own

    pub refused-20 : well_formed bs ≡ false → load_verdict s cs bs old ≡ refused (refusal 20)
    unfolding verdict
    refused-20 a = by-file ∙ rw a

    module _ (well : well_formed bs ≡ true) where
      pub refused-18 : same_settings_lem s bs ≡ false → load_verdict s cs bs old ≡ refused (refusal 18)
      unfolding verdict
      refused-18 b = by-file ∙ rw (well, b)

      module _ (settings : same_settings_lem s bs ≡ true) where
        pub refused-19 : same_points_lem s cs bs ≡ false → load_verdict s cs bs old ≡ refused (refusal 19)
        unfolding verdict
        refused-19 b = by-file ∙ rw (well, settings, b)

        -- ---- an accepted call: the counts and the lists of the tree
        module _ (points : same_points_lem s cs bs ≡ true) where
          takes : load_verdict s cs bs old ≡ accepted
          unfolding verdict
          takes = by-file ∙ rw (well, settings, points)

          -- the tree stands at this place, and is written to the fronts of the lists
          module _ (at : ℕ) (place : at ≡ levels_place bs) where
            abbrev tree : List Level
            tree = tree_from s.dimension at bs

            here : tree ≡ tree_in bs
            here = tree-here s cs old own bs well settings points at place

            after : {A : Type 0} {new : List A} (l : List A) (f : List Level → List A) → new ≡ put l 0 (f tree) → new ≡ list_after (load_verdict s cs bs old) (f (tree_in bs)) l
            unfolding list_after written
            after l f e = e ∙ ap (λ (t : List Level). put l 0 (f t)) here ∙ rw takes (put-zero l (f (tree_in bs)))

            has-rules : LoadedTree s.dimension (point_count s.dimension cs) (handed (load_answer s cs bs old) (load_lists_lem s cs bs old))
            has-rules =
                let h = handed (load_answer s cs bs old) (load_lists_lem s cs bs old) in
                subst (λ (k : ℕ). LoadedTree k (point_count s.dimension cs) h) (its-dimension s cs old own bs well settings)
                (subst (λ (k : ℕ). LoadedTree (settings_in bs).dimension k h) (its-count s cs old own bs well settings points) (load-rules s cs bs old takes))

            pub loaded-accepted : {answer : Answer Counts} {p i d l : List ℕ} {b : List Float} → answer ≡ record { number = 0; place = 0; value = counts_of tree }
                → p ≡ put old.level_points 0 (packed_level_points tree) → i ≡ put old.internals 0 (packed_internals tree)
                → d ≡ put old.domains 0 (packed_domains tree) → b ≡ put old.boxes 0 (packed_boxes tree)
                → l ≡ put old.borrowed 0 (packed_borrowed tree) → Loaded s cs bs old (lists_of p i d b l) answer
            unfolding load_answer load_lists_lem tree_lists_after number_of place_of value_of
            loaded-accepted {answer} {p} {i} {d} {l} {b} a ep ei ed eb el =
                let answers : answer ≡ load_answer s cs bs old = a ∙ rw (takes, here) in
                let level_points = after old.level_points packed_level_points ep in
                let internals = after old.internals packed_internals ei in
                let domains = after old.domains packed_domains ed in
                let boxes = after old.boxes packed_boxes eb in
                let borrowed = after old.borrowed packed_borrowed el in
                record {
                  answers = answers;
                  level_points = level_points;
                  internals = internals;
                  domains = domains;
                  boxes = boxes;
                  borrowed = borrowed;
                  rules = λ t. rw (answers, level_points, internals, domains, boxes, borrowed) has-rules;
                  depths = λ t. rw (answers, level_points, internals, domains, boxes, borrowed) (load-depths s cs bs old t);
                }
