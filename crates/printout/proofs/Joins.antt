-- From the build's outcome to the text of a job (`answer-stands`, `answer-printed`), and from the reader's answer to the printout
-- (`broken-printed`, `whole-printed`). Assumes nothing.
-- Holds: answer-stands, answer-printed, room_for, broken-printed, whole-printed
use mathlib.Core.Path.{◌≡◌, sym, ap, ◌∙◌}
use Prim.Native.Nat.{ℕ, ◌+◌, ◌-◌, ◌≤◌, ◌<◌}
use native.Mathlib.Omega.{arith}
use mathlib.Core.List.{List}
use lib.ListN.{length, drop}
use lib.Ieee.{Float}
use Rattle.std.specs.Prelude.{Result, Ok, Err}
use Rattle.lists.proofs.Map.{get_d-map-in}
use Rattle.definition.specs.Tree as tree
use Rattle.definition.specs.Packed.{Counts, BuildSizes, build_stated, counts_of, packed_level_points, packed_internals, packed_borrowed, packed_boxes, packed_domains}
use Rattle.definition.specs.Refusals.{Verdict, accepted, refused, build_verdict}
use Rattle.definition.specs.Outcome.{RecordLists, Answer, number_of, place_of, value_of, written, list_after, TreeLists, lent_sizes, build_call, build_answer, tree_lists_after, build_lists}
use Rattle.formats.specs.Stream.{job, stream_points, stream_neighbours, job_in}
use Rattle.formats.specs.Printout.{tree_text, refusal_text, built_text, job_text, printout}
use Rattle.definition_laws.proofs.Accepted.{build-zero}
use Rattle.stream_laws.specs.Sizes.{JobLimits, most_bytes}
use Rattle.stream_laws.proofs.Long.{job-long}
use Rattle.stream_laws.proofs.Shape.{tree-shaped}
use Rattle.bytes_out.specs.declared.writer.Writer.{Writer}
use Rattle.bytes_out.specs.Writing.{Takes}
use Rattle.packed.specs.Reading.{Packed, packed, Stands, read_levels}
use Rattle.packed.proofs.Counts.{no_level}
use Rattle.packed.proofs.Unpacked.{Packs, levels-are, tree-back, tree-stands}
use Rattle.refusal.specs.declared.Refusal.{Refusal}
use Rattle.refusal.specs.Refusals.{as_refusal}
use Rattle.stream_reader.specs.declared.job.Job.{Job}
use Rattle.stream_reader.specs.Reading.{job_is, job_of}
use Rattle.job_room.proofs.Lists.{build-as-stated}
use Rattle.job_room.proofs.JobRead.{broken-read, whole-read}
use Rattle.job_room.proofs.Printing.{text-room, refusal-numbered}
use Rattle.tree_lists.specs.declared.TreeRead.{TreeRead}
use Rattle.tree_lists.specs.Lent.{lists_read}
use Rattle.tree_answer.specs.declared.DDMTree.{DDMTree}
use Rattle.tree_answer.specs.Answers.{tree_answer_lem}
use Rattle.print_tree.specs.Unpack.{AnswerStands, answer_text}

-- ---- a build in the program's lists
module _ (s : tree.Settings) (cs : List Float) (old : TreeLists) (floats : List Float) (wholes : List ℕ) (records : RecordLists) where
  abbrev call : Verdict
  call = build_call s cs old floats wholes records

  abbrev stated : BuildSizes
  stated = build_stated s.dimension (tree.point_count s.dimension cs) s.neighbours

  -- its verdict is that of a build in lists of the stated sizes
  module _ (limits : JobLimits s cs) (rooms : lent_sizes old floats wholes records ≡ build_stated 3 stream_points stream_neighbours) where
    as-printed : call ≡ build_verdict s cs stated
    as-printed = rw rooms (build-as-stated s cs limits)

    -- by its answer
    module _ (r : Answer Counts) (e : r ≡ build_answer s cs old floats wholes records) where
      number_is : r.number ≡ number_of call
      unfolding build_answer
      number_is = ap (λ (a : Answer Counts). a.number) e

      place_is : r.place ≡ place_of call
      unfolding build_answer
      place_is = ap (λ (a : Answer Counts). a.place) e

      text-refused : (v : Verdict) → r.number ≡ number_of v → r.place ≡ place_of v → 0 < r.number → built_text v s cs ≡ refusal_text (record { number = r.number; place = r.place })
      unfolding built_text number_of place_of
      text-refused accepted en ep h = absurd (omega arith)
      text-refused (refused q) en ep h = rw (en, ep)

      job-refused : 0 < r.number → job_text (job s cs) ≡ refusal_text (record { number = r.number; place = r.place })
      unfolding job_text
      job-refused h = ap (λ (v : Verdict). built_text v s cs) (sym as-printed) ∙ text-refused call number_is place_is h

      job-accepted : r.number ≤ 0 → call ≡ accepted
      job-accepted h = build-zero s cs (lent_sizes old floats wholes records) (sym number_is ∙ (omega arith))

      text-accepted : r.number ≤ 0 → job_text (job s cs) ≡ tree_text (tree.levels s cs)
      unfolding job_text built_text
      text-accepted h = ap (λ (v : Verdict). built_text v s cs) (sym as-printed ∙ job-accepted h)

      -- the counts and the lists of an accepted build hold the tree
      module _ (h : r.number ≤ 0) (new : TreeLists) (f : new ≡ build_lists s cs old floats wholes records) where
        abbrev ls : List tree.Level
        ls = tree.levels s cs

        counts-are : r.value ≡ counts_of ls
        unfolding build_answer value_of
        counts-are = ap (λ (a : Answer Counts). a.value) e ∙ rw (job-accepted h)

        lists-are : new ≡ record {
          level_points = written (packed_level_points ls) old.level_points;
          internals = written (packed_internals ls) old.internals;
          domains = written (packed_domains ls) old.domains;
          boxes = written (packed_boxes ls) old.boxes;
          borrowed = written (packed_borrowed ls) old.borrowed;
        }
        unfolding build_lists tree_lists_after list_after
        lists-are = f ∙ rw (job-accepted h)

        abbrev lists : Packed
        lists = packed new.internals new.domains new.boxes new.borrowed s.dimension

        tree-packed : Packs ls lists new.level_points r.value
        unfolding written
        tree-packed =
            let shaped = tree-shaped s cs in
            record {
              few = shaped.few;
              boxed = shaped.wide;
              counts = counts-are;
              points-rest = drop (length (packed_level_points ls)) old.level_points;
              points-are = ap (λ (l : TreeLists). l.level_points) lists-are;
              internals-rest = drop (length (packed_internals ls)) old.internals;
              internals = ap (λ (l : TreeLists). l.internals) lists-are;
              domains-rest = drop (length (packed_domains ls)) old.domains;
              domains = ap (λ (l : TreeLists). l.domains) lists-are;
              boxes-rest = drop (length (packed_boxes ls)) old.boxes;
              boxes = ap (λ (l : TreeLists). l.boxes) lists-are;
              borrowed-rest = drop (length (packed_borrowed ls)) old.borrowed;
              borrowed = ap (λ (l : TreeLists). l.borrowed) lists-are;
            }

        tree-ready : Stands (packed new.internals new.domains new.boxes new.borrowed s.dimension) new.level_points r.value.rows r.value.domains
            r.value.levels
        tree-ready =
            let shaped = tree-shaped s cs in
            let last = length ls - 1 in
            tree-stands ls lists new.level_points r.value tree-packed limits.axes_few shaped.some
            (sym (get_d-map-in (λ (l : tree.Level). length l.leaves) ls last no_level 0 (omega (arith, shaped.some))) ∙ shaped.last)

        job-tree : job_text (job s cs)
            ≡ tree_text (read_levels (packed new.internals new.domains new.boxes new.borrowed s.dimension) new.level_points r.value.rows
            r.value.domains r.value.levels)
        job-tree =
            text-accepted h
            ∙ ap tree_text (sym (ap (read_levels lists new.level_points r.value.rows r.value.domains) (levels-are ls lists new.level_points r.value tree-packed)
            ∙ tree-back ls lists new.level_points r.value tree-packed))

-- ---- by the answer: a refusal, or a tree that the lists hold
module _ (s : tree.Settings) (cs : List Float) (old : TreeLists) (floats : List Float) (wholes : List ℕ) (records : RecordLists) (limits : JobLimits s cs) where
  module _ (rooms : lent_sizes old floats wholes records ≡ build_stated 3 stream_points stream_neighbours) (l : TreeRead) (f : lists_read l ≡ build_lists s cs old floats wholes records) where
    pub answer-stands : (r : Result DDMTree Refusal) → tree_answer_lem r ≡ build_answer s cs old floats wholes records → AnswerStands r l s.dimension
    answer-stands (Ok t) e = tree-ready s cs old floats wholes records limits rooms (tree_answer_lem (Ok t)) e (omega arith) (lists_read l) f
    answer-stands (Err x) e = tt

    pub answer-printed : (r : Result DDMTree Refusal) → tree_answer_lem r ≡ build_answer s cs old floats wholes records → job_text (job s cs) ≡ answer_text r l s.dimension
    answer-printed (Ok t) e = job-tree s cs old floats wholes records limits rooms (tree_answer_lem (Ok t)) e (omega arith) (lists_read l) f
    answer-printed (Err x) e = job-refused s cs old floats wholes records limits rooms (tree_answer_lem (Err x)) e (refusal-numbered x)

-- ---- room for the text
pub room_for : (s : tree.Settings) (cs : List Float) {w : Writer} → JobLimits s cs → w.at + most_bytes ≤ length w.bytes.now → Takes w (job_text (job s cs))
room_for s cs h g = text-room (job_text (job s cs)) (job-long (job s cs) h) g

-- ---- by the reader's answer
module _ (r : Result Job Refusal) (bs : List ℕ) (h : job_of r ≡ job_in bs) where
  pub broken-printed : (x : Refusal) → r ≡ Err x → refusal_text (as_refusal x) ≡ printout bs
  unfolding job_text printout
  broken-printed x e = ap job_text (broken-read r bs h x e)

  pub whole-printed : (j : Job) → r ≡ Ok j → job_text (job_is j) ≡ printout bs
  unfolding printout
  whole-printed j e = ap job_text (whole-read r bs h j e)
