-- From the loader's outcome to the text of a load: of a refusal, or of the tree that the lists hold. Assumes nothing.
use mathlib.Core.Path.{◌≡◌, sym, ap, ◌∙◌}
use mathlib.Core.Bool.{true}
use Prim.Native.Nat.{ℕ, ◌-◌, ◌≤◌, ◌<◌}
use native.Mathlib.Omega.{arith}
use mathlib.Core.List.{List}
use lib.ListN.{length}
use lib.Ieee.{Float}
use Rattle.lists.specs.Ascends.{All}
use Rattle.definition.specs.Tree.{Settings, Level}
use Rattle.definition.specs.Packed.{Counts, counts_of}
use Rattle.definition.specs.Refusals.{Verdict, accepted, refused, build_tests}
use Rattle.definition.specs.Outcome.{Answer, number_of, place_of, value_of, TreeLists, tree_lists_after}
use Rattle.definition_laws.proofs.Accepted.{number-zero}
use Rattle.formats.specs.Stream.{settings_in}
use Rattle.formats.specs.Printout.{tree_text, refusal_text}
use Rattle.packed.specs.Reading.{packed, Stands, read_levels}
use Rattle.packed.proofs.Unpacked.{levels-are, tree-back, tree-stands}
use Rattle.stored.specs.Stored.{count_in, tree_in, well_formed}
use Rattle.stored.specs.Outcome.{own_tests, same_settings_lem, same_points_lem, load_verdict, load_answer, load_lists_lem}
use Rattle.stored.specs.Programs.{reloaded_by}
use Rattle.stored_built.proofs.Held.{Holds, lists-hold}
use Rattle.stored_rules.proofs.SoundTree.{SoundTree, sound-tree}
use Rattle.stored_laws.proofs.Loaded.{file_tests, tests-passed}
use Rattle.definition_laws.proofs.Accepted.{first-accepts, second-accepts}
use Rattle.stored_laws.proofs.WellFormed.{well-formed-sound}
use Rattle.stream_laws.specs.Sizes.{JobLimits}
use Rattle.load.specs.Loading.{Loaded}
use Rattle.load.proofs.SameFile.{its-dimension}
use Rattle.std.specs.Prelude.{Result, Ok, Err}
use Rattle.refusal.specs.declared.Refusal.{Refusal}
use Rattle.tree_lists.specs.declared.TreeRead.{TreeRead}
use Rattle.tree_lists.specs.Lent.{lists_read}
use Rattle.tree_answer.specs.declared.DDMTree.{DDMTree}
use Rattle.tree_answer.specs.Answers.{tree_answer_lem}
use Rattle.print_tree.specs.Unpack.{AnswerStands, answer_text}
use Rattle.job_room.specs.Room.{lent_lists}
use Rattle.job_room.proofs.Printing.{refusal-numbered}
use Rattle.reload.specs.Loading.{loaded_text}
use Rattle.reload.proofs.LoadsAsStated.{load-as-stated}

-- no refusal has the number 0
load-zero : (s : Settings) (cs : List Float) (bs : List ℕ) (old : TreeLists) → number_of (load_verdict s cs bs old) ≡ 0 → load_verdict s cs bs old ≡ accepted
unfolding load_verdict own_tests build_tests All
load-zero s cs bs old e =
    number-zero _
    (omega arith, (omega arith, (omega arith, (omega arith, (omega arith, (omega arith, (omega arith, (omega arith, (omega arith, (omega arith, (omega arith, (omega arith, (omega arith, (omega arith, tt))))))))))))))
    e

-- ---- an accepted load: the tree in the file passes its tests on the present axes
module _ (s : Settings) (cs : List Float) (bs : List ℕ) (old : TreeLists) (ok : load_verdict s cs bs old ≡ accepted) where
  has : (well_formed bs ≡ true) × (same_settings_lem s bs ≡ true) × (same_points_lem s cs bs ≡ true)
  unfolding load_verdict
  has = tests-passed s cs bs (second-accepts (own_tests s cs old) (file_tests s cs bs) ok)

  axes-same : (settings_in bs).dimension ≡ s.dimension
  unfolding load_verdict
  axes-same = its-dimension s cs old (first-accepts (own_tests s cs old) (file_tests s cs bs) ok) bs has.0 has.1

  tree-passes : SoundTree s.dimension (count_in bs) (tree_in bs)
  tree-passes = rw axes-same at (sound-tree (settings_in bs) (count_in bs) (tree_in bs) (well-formed-sound bs has.0))

-- ---- a load into the lists of the largest job
module _ (s : Settings) (cs : List Float) (bs : List ℕ) (limits : JobLimits s cs) (new : TreeLists) (r : Answer Counts) (w : Loaded s cs bs lent_lists new r) where
  abbrev call : Verdict
  call = load_verdict s cs bs lent_lists

  abbrev ls : List Level
  ls = tree_in bs

  text-is : loaded_text s cs bs ≡ reloaded_by (load_verdict s cs bs lent_lists) bs
  unfolding loaded_text
  text-is = ap (λ (v : Verdict). reloaded_by v bs) (sym (load-as-stated s cs limits bs))

  number_is : r.number ≡ number_of call
  unfolding load_answer
  number_is = ap (λ (a : Answer Counts). a.number) w.answers

  place_is : r.place ≡ place_of call
  unfolding load_answer
  place_is = ap (λ (a : Answer Counts). a.place) w.answers

  -- by the number: the text of the refusal
  text-refused : (v : Verdict) → r.number ≡ number_of v → r.place ≡ place_of v → 0 < r.number → reloaded_by v bs ≡ refusal_text (record { number = r.number; place = r.place })
  unfolding reloaded_by number_of place_of
  text-refused accepted en ep h = absurd (omega arith)
  text-refused (refused q) en ep h = rw (en, ep)

  load-refused : 0 < r.number → loaded_text s cs bs ≡ refusal_text (record { number = r.number; place = r.place })
  load-refused h = text-is ∙ text-refused call number_is place_is h

  -- or the text of the tree, which the counts and the lists hold
  module _ (h : r.number ≤ 0) where
    takes : load_verdict s cs bs lent_lists ≡ accepted
    takes = load-zero s cs bs lent_lists (sym number_is ∙ (omega arith))

    counts-are : r.value ≡ counts_of (tree_in bs)
    unfolding load_answer value_of
    counts-are = ap (λ (a : Answer Counts). a.value) w.answers ∙ rw takes

    lists-are : load_lists_lem s cs bs lent_lists ≡ tree_lists_after accepted (tree_in bs) lent_lists
    unfolding load_lists_lem
    lists-are = ap (λ (v : Verdict). tree_lists_after v (tree_in bs) lent_lists) takes

    tree-held : Holds s.dimension r.value new (tree_in bs)
    tree-held =
        let sound = tree-passes s cs bs lent_lists takes in
        rw (counts-are, w.level_points, w.internals, w.domains, w.boxes, w.borrowed, lists-are)
        (lists-hold s.dimension (tree_in bs) lent_lists sound.few sound.boxed)

    loaded-stands : Stands (packed new.internals new.domains new.boxes new.borrowed s.dimension) new.level_points r.value.rows r.value.domains
        r.value.levels
    loaded-stands =
        let sound = tree-passes s cs bs lent_lists takes in
        tree-stands ls (packed new.internals new.domains new.boxes new.borrowed s.dimension) new.level_points r.value tree-held limits.axes_few sound.some
        (sound.last (length ls - 1) (omega (arith, sound.some))).one-leaf

    load-tree-text : loaded_text s cs bs
        ≡ tree_text (read_levels (packed new.internals new.domains new.boxes new.borrowed s.dimension) new.level_points r.value.rows
        r.value.domains r.value.levels)
    unfolding reloaded_by
    load-tree-text =
        let lists = packed new.internals new.domains new.boxes new.borrowed s.dimension in
        text-is ∙ ap (λ (v : Verdict). reloaded_by v bs) takes
        ∙ ap tree_text (sym (ap (read_levels lists new.level_points r.value.rows r.value.domains) (levels-are ls lists new.level_points r.value tree-held)
        ∙ tree-back ls lists new.level_points r.value tree-held))

-- ---- by the answer: a refusal, or a tree that the lists hold
module _ (s : Settings) (cs : List Float) (bs : List ℕ) (limits : JobLimits s cs) (l : TreeRead) where
  pub answer-stands : (r : Result DDMTree Refusal) → Loaded s cs bs lent_lists (lists_read l) (tree_answer_lem r) → AnswerStands r l s.dimension
  answer-stands (Ok t) w = loaded-stands s cs bs limits (lists_read l) (tree_answer_lem (Ok t)) w (omega arith)
  answer-stands (Err x) w = tt

  pub answer-printed : (r : Result DDMTree Refusal) → Loaded s cs bs lent_lists (lists_read l) (tree_answer_lem r) → loaded_text s cs bs ≡ answer_text r l s.dimension
  answer-printed (Ok t) w = load-tree-text s cs bs limits (lists_read l) (tree_answer_lem (Ok t)) w (omega arith)
  answer-printed (Err x) w = load-refused s cs bs limits (lists_read l) (tree_answer_lem (Err x)) w (refusal-numbered x)
