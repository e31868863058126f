-- A tree that stands at the front of the five lists, with its counts: it is the tree that they hold, and they are its lists. So it is
-- with the tree that an accepted call writes. Assumes nothing.
-- Holds: Holds, held-is, held-packs, lists-hold, build-holds, built-held
use mathlib.Core.Path.{◌≡◌, refl, sym, ap}
use mathlib.Core.Bool.{true}
use mathlib.Core.List.{List, ◌++◌}
use Prim.Native.Nat.{ℕ, suc, ◌≤◌}
use borrow.Author.Tests.{eq-eqb}
use lib.ListN.{length, take, drop}
use lib.Seq.{take-append_seam}
use lib.Ieee.{Float}
use Rattle.lists.specs.Lists.{from}
use Rattle.lists.specs.Ascends.{All}
use Rattle.lists.proofs.Tests.{and-of}
use Rattle.definition.specs.Points.{box_width_lem}
use Rattle.definition.specs.Tree.{Settings, Leaf, Level, most_fine, levels, point_count}
use Rattle.definition.specs.Packed.{Counts, counts_of, leaves_in_lem, packed_level_points, packed_internals, packed_domains, packed_boxes, packed_borrowed}
use Rattle.definition.specs.Refusals.{accepted}
use Rattle.definition.specs.Outcome.{RecordLists, TreeLists, lent_sizes, written, list_after, value_of, tree_lists_after, build_call, build_answer, build_lists}
use Rattle.definition_laws.proofs.Accepted.{build-accepted}
use Rattle.definition_laws.proofs.Fit.{packed_fit}
use Rattle.packed.specs.Reading.{packed}
use Rattle.packed.proofs.Unpacked.{Packs, levels-are, tree-back}
use Rattle.stored.specs.Outcome.{tree_held, leads, packs}
use Rattle.tree_tests.proofs.AllRows.{same-equal}

-- the tree ls at the front of the lists, on d axes, with these counts: at most four levels, and boxes of two bounds on each axis
abbrev pub Holds : ℕ → Counts → TreeLists → List Level → Type 0
Holds d c l ls = Packs ls (packed l.internals l.domains l.boxes l.borrowed d) l.level_points c

-- numbers at the front of a list
leads-pass : (xs l rest : List ℕ) → l ≡ xs ++ rest → leads xs l ≡ true
leads-pass xs l rest e = rw e (same-equal xs (take (length xs) (xs ++ rest)) (sym (take-append_seam xs rest)))

module _ (d : ℕ) (c : Counts) (l : TreeLists) (ls : List Level) (h : Holds d c l ls) where
  -- THE LAWS: the lists hold that tree
  pub held-is : tree_held d c l ≡ ls
  unfolding tree_held
  held-is =
      let p = packed l.internals l.domains l.boxes l.borrowed d in
      rw (levels-are ls p l.level_points c h) (tree-back ls p l.level_points c h)

  -- and they and the counts are those of that tree
  pub held-packs : packs c l ls ≡ true
  unfolding packs
  held-packs =
      and-of
      (and-of
      (and-of
      (and-of
      (and-of
      (and-of
      (eq-eqb c.levels (counts_of ls).levels (ap (λ (x : Counts). x.levels) h.counts))
      (same-equal c.rows (counts_of ls).rows (ap (λ (x : Counts). x.rows) h.counts)))
      (same-equal c.domains (counts_of ls).domains (ap (λ (x : Counts). x.domains) h.counts)))
      (leads-pass (packed_level_points ls) l.level_points h.points-rest h.points-are))
      (leads-pass (packed_internals ls) l.internals h.internals-rest h.internals))
      (leads-pass (packed_domains ls) l.domains h.domains-rest h.domains))
      (leads-pass (packed_borrowed ls) l.borrowed h.borrowed-rest h.borrowed)

-- ---- the lists after an accepted call that writes the tree ls
pub lists-hold : (d : ℕ) (ls : List Level) (old : TreeLists) → length ls ≤ suc most_fine → All (λ (f : Leaf). length f.box ≡ box_width_lem d) (leaves_in_lem ls)
    → Holds d (counts_of ls) (tree_lists_after accepted ls old) ls
unfolding tree_lists_after list_after written
lists-hold d ls old few boxed = record {
  few = few;
  boxed = boxed;
  counts = refl;
  points-rest = drop (length (packed_level_points ls)) old.level_points;
  points-are = refl;
  internals-rest = drop (length (packed_internals ls)) old.internals;
  internals = refl;
  domains-rest = drop (length (packed_domains ls)) old.domains;
  domains = refl;
  boxes-rest = drop (length (packed_boxes ls)) old.boxes;
  boxes = refl;
  borrowed-rest = drop (length (packed_borrowed ls)) old.borrowed;
  borrowed = refl;
}

-- ---- a build that is accepted
module _ (s : Settings) (cs : List Float) (old : TreeLists) (floats : List Float) (wholes : List ℕ) (records : RecordLists) (e : build_call s cs old floats wholes records ≡ accepted) where
  -- its counts and lists hold its tree
  pub build-holds : Holds s.dimension (build_answer s cs old floats wholes records).value (build_lists s cs old floats wholes records) (levels s cs)
  unfolding build_answer build_lists value_of levels
  build-holds =
      let a = build-accepted s cs (lent_sizes old floats wholes records) e in
      let fit = packed_fit s cs (from 0 (point_count s.dimension cs)) a.passes-all.axes a.passes-all.leaf_some a.good in
      rw e (lists-hold s.dimension (levels s cs) old fit.few fit.bounds)

  pub built-held : tree_held s.dimension (build_answer s cs old floats wholes records).value (build_lists s cs old floats wholes records) ≡ levels s cs
  built-held = held-is s.dimension (build_answer s cs old floats wholes records).value (build_lists s cs old floats wholes records) (levels s cs) build-holds
