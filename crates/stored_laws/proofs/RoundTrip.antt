-- Writing and loading undo each other, as whole calls: `load-of-write` and `write-of-load`. Assumes nothing.
-- Holds: written-file, load-of-write, loaded-counts, loaded-lists, write-of-load
use mathlib.Core.Path.{◌≡◌, sym, ap, subst, ◌∙◌}
use Prim.Native.Nat.{ℕ, ◌*◌, ◌≤◌}
use native.Mathlib.Nat.{mul-le-mul_left, le_trans}
use native.Mathlib.Omega.{arith}
use mathlib.Core.Bool.{true, false}
use mathlib.Core.List.{List, [], ◌∷◌, ◌++◌}
use lib.ListN.{length, take, drop, length-replicate}
use lib.Seq.{take-append_seam}
use lib.Ieee.{Float}
use Rattle.lists.specs.Lists.{joined}
use Rattle.lists.specs.Ascends.{All}
use Rattle.lists.proofs.All.{all-imp, all_append}
use Rattle.definition.specs.Points.{box_width_lem}
use Rattle.definition.specs.Tree.{Settings, Leaf, Level, point_count}
use Rattle.definition.specs.Packed.{most_levels, row_floats_lem, Counts, counts_of, tree_stated, leaves_in_lem}
use Rattle.definition.specs.Refusals.{Verdict, accepted}
use Rattle.definition.specs.Outcome.{answered, number_of, place_of, value_of, TreeLists, written, list_after, tree_lists_after, zero_counts}
use Rattle.stored.specs.File.{file_bytes}
use Rattle.stored.specs.Stored.{points_in, tree_in}
use Rattle.formats.specs.Stream.{settings_in}
use Rattle.stored.specs.Outcome.{lists_short_lem, load_verdict, load_answer, load_lists_lem, tree_held, write_verdict, write_output}
use Rattle.stored_built.proofs.Held.{Holds, lists-hold}
use Rattle.stored_built.proofs.Written.{write-passes, write-answers, write-fills, lists-still-long}
use Rattle.stored_laws.specs.Writable.{FloatFits, SettingsFit}
use Rattle.stored_laws.specs.RoundTrip.{LoadsBack, WritesBack}
use Rattle.stored_laws.proofs.Domains.{Boxed}
use Rattle.stored_laws.proofs.Levels.{StowedTree}
use Rattle.stored_laws.proofs.Stowed.{leaves-many}
use Rattle.stored_laws.proofs.Verdicts.{own-whole, own-long, own-boxes, own-takes, own-accepts}
use Rattle.stored_laws.proofs.Loaded.{load-answers, load-lists, loaded-own, loaded-well, loaded-settings, loaded-file, loaded-sound}
use Rattle.stored_laws.proofs.Writes.{writes-own, writes-packs, writes-sound, writes}
use Rattle.stored_laws.proofs.WellFormed.{well-formed-writable}
use Rattle.stored_laws.proofs.ReadBack.{tree-stowed}
use Rattle.stored_laws.proofs.Fronts.{boxes-held, packs-counts, packs-fronts}

-- ---- a load of what was written
module _ (s : Settings) (cs : List Float) (c : Counts) (l : TreeLists) (file : List ℕ) (ok : write_verdict s cs c l file ≡ accepted) where
  abbrev tree : List Level
  tree = tree_held s.dimension c l

  abbrev bytes_written : List ℕ
  bytes_written = take (length (file_bytes s cs tree)) (write_output s cs c l file)

  -- the front of the file list is the file
  pub written-file : bytes_written ≡ file_bytes s cs tree
  unfolding write_output list_after written
  written-file =
      ap (λ (v : Verdict). take (length (file_bytes s cs tree)) (list_after v (file_bytes s cs tree) file)) ok
      ∙ take-append_seam (file_bytes s cs tree) (drop (length (file_bytes s cs tree)) file)

  -- the box list holds the floats of each leaf
  boxes-long : row_floats_lem s.dimension * length (leaves_in_lem tree) ≤ length l.boxes
  unfolding tree_stated
  boxes-long =
      le_trans (mul-le-mul_left (row_floats_lem s.dimension) (leaves-many s (point_count s.dimension cs) tree (writes-sound s cs c l file ok)))
      (own-boxes s cs l (writes-own s cs c l file ok))

  pub load-of-write : SettingsFit s → All FloatFits cs → All FloatFits l.boxes → (old : TreeLists)
      → lists_short_lem old (tree_stated s.dimension (point_count s.dimension cs) s.neighbours) ≡ false → LoadsBack s cs c l bytes_written old
  load-of-write fit held boxes old long =
      let own = writes-own s cs c l file ok in
      let w = writes s cs c l file ok fit held boxes in
      let packed = writes-packs s cs c l file ok in
      let opened = own-accepts s cs old (own-takes s cs l own) (own-whole s cs l own) long in
      record {
        answer =
            ap (λ (bs : List ℕ). load_answer s cs bs old) written-file ∙ load-answers s cs tree old opened w
            ∙ ap (λ (k : Counts). answered accepted k zero_counts) (sym (packs-counts c l tree packed));
        lists =
            ap (λ (bs : List ℕ). load_lists_lem s cs bs old) written-file ∙ load-lists s cs tree old opened w
            ∙ packs-fronts c l tree packed (boxes-held s.dimension c l boxes-long) old;
      }

-- ---- a write of what was loaded

-- each box of a tree that its file holds is as wide as the dimension says
abbrev Wide : ℕ → Leaf → Type 0
Wide d f = length f.box ≡ box_width_lem d

boxes-wide : (d : ℕ) (ls : List Level) → StowedTree d ls → All (Wide d) (leaves_in_lem ls)
unfolding StowedTree leaves_in_lem joined All
boxes-wide d [] k = tt
boxes-wide d (l ∷ []) k = all_append (Wide d) l.leaves [] (all-imp (Boxed d true) (Wide d) l.leaves (λ f e. ap length e.0 ∙ simp length-replicate) k.boxed) tt
boxes-wide d (l ∷ m ∷ ls) k =
    all_append (Wide d) l.leaves (leaves_in_lem (m ∷ ls)) (all-imp (Boxed d false) (Wide d) l.leaves (λ f e. e.0) k.0.boxed) (boxes-wide d (m ∷ ls) k.1)

module _ (s : Settings) (cs : List Float) (bs : List ℕ) (old : TreeLists) (fit : SettingsFit s) (held : All FloatFits cs) (ok : load_verdict s cs bs old ≡ accepted) where
  abbrev d : ℕ
  d = s.dimension

  abbrev ls : List Level
  ls = tree_in bs

  abbrev c : Counts
  c = counts_of ls

  abbrev l : TreeLists
  l = tree_lists_after accepted ls old

  -- what was loaded
  pub loaded-counts : (load_answer s cs bs old).value ≡ c
  unfolding load_answer value_of
  loaded-counts = ap (λ (v : Verdict). value_of v c zero_counts) ok

  pub loaded-lists : load_lists_lem s cs bs old ≡ l
  unfolding load_lists_lem
  loaded-lists = ap (λ (v : Verdict). tree_lists_after v ls old) ok

  stowed : (length ls ≤ most_levels) × StowedTree d ls
  stowed =
      let t = tree-stowed (settings_in bs) (points_in bs) ls (well-formed-writable bs (loaded-well s cs bs old fit held ok)) in
      (t.0, subst (λ (k : Settings). StowedTree k.dimension ls) (loaded-settings s cs bs old fit held ok) t.1)

  holds : Holds d c l ls
  holds = lists-hold d ls old stowed.0 (boxes-wide d ls stowed.1)

  file-is : file_bytes s cs ls ≡ bs
  file-is = sym (loaded-file s cs bs old fit held ok)

  module _ (file : List ℕ) (room : length bs ≤ length file) where
    write-accepted : write_verdict s cs c l file ≡ accepted
    write-accepted =
        let own = loaded-own s cs bs old fit held ok in
        write-passes s cs c l file ls holds
        (own-accepts s cs l (own-takes s cs old own) (own-whole s cs old own) (lists-still-long ls old (tree_stated d (point_count d cs) s.neighbours) (own-long s cs old own)))
        (loaded-sound s cs bs old fit held ok)
        (omega (arith, room, ap length file-is))

    plain : WritesBack s cs c l bs file
    unfolding number_of place_of value_of written
    plain =
        record {
          answer = write-answers s cs c l file ls holds write-accepted ∙ ap (λ (xs : List ℕ). answered accepted (length xs) 0) file-is;
          output = write-fills s cs c l file ls holds write-accepted ∙ ap (λ (xs : List ℕ). xs ++ drop (length xs) file) file-is;
        }

    pub write-of-load : WritesBack s cs (load_answer s cs bs old).value (load_lists_lem s cs bs old) bs file
    write-of-load = subst (λ (k : Counts). WritesBack s cs k (load_lists_lem s cs bs old) bs file) (sym loaded-counts) (subst (λ (k : TreeLists). WritesBack s cs c k bs file) (sym loaded-lists) plain)
