-- The whole tree in the lists: counts that do not stand, and levels that are checked. Assumes nothing.
use Rattle.std.specs.Prelude.{Option, Some, None}
use mathlib.Core.Path.{◌≡◌, refl, sym, ◌∙◌}
use mathlib.Core.Bool.{Bool, true, false, ◌&&◌}
use mathlib.Core.List.{List}
use Prim.Native.Nat.{ℕ, ◌+◌, ◌*◌, ◌≤◌}
use native.Mathlib.Omega.{arith}
use lib.ListN.{length}
use lib.Dec.{ltb}
use Rattle.lists.proofs.Tests.{three-pass}
use Rattle.definition.specs.Tree.{Settings}
use Rattle.definition.specs.Packed.{Counts, most_levels, tree_stated}
use Rattle.definition.specs.Refusals.{most_points}
use Rattle.definition.specs.Outcome.{TreeLists}
use Rattle.packed.specs.Reading.{Packed, packed}
use Rattle.stored.specs.Sound.{sound}
use Rattle.stored.specs.Outcome.{lists_short_lem, tree_held, packs}
use Rattle.marks.specs.Bits.{Marked}
use Rattle.list_levels.specs.InLists.{four_counts_lem, counts_stand_lem, held_levels_pass, held_tree_passes}
use Rattle.list_levels.specs.Passed.{Long, LevelsReady, LevelsPassed, TreePassed}
use Rattle.list_domains.specs.declared.ListsPassed.{ListsPassed}
use Rattle.list_levels.proofs.LongEnough.{long-enough}
use Rattle.list_levels.proofs.Tree.{four-counted, tree-passes, rows-total, domains-total, borrowed-total}

-- the lists that hold leaves, of all lists
abbrev held : TreeLists → ℕ → Packed
held l d = packed l.internals l.domains l.boxes l.borrowed d

module _ (s : Settings) (n : ℕ) (c : Counts) (l : TreeLists)
    (lent : lists_short_lem l (tree_stated s.dimension n s.neighbours) ≡ false) (x : Bool) (stand : x ≡ counts_stand_lem c) where
  long : Long (held l s.dimension) l.level_points n (6 * n * (s.neighbours + 1))
  long = long-enough s.dimension n s.neighbours l lent

  is : held_tree_passes s.dimension n s.neighbours c l ≡ counts_stand_lem c && held_levels_pass (held l s.dimension) l.level_points c n (6 * n * (s.neighbours + 1)) 0 n (λ i. ltb i n) 0 c.levels
  unfolding held_tree_passes tree_stated
  is = refl

  comes-to : held_tree_passes s.dimension n s.neighbours c l ≡ packs c l (tree_held s.dimension c l) && sound s n (tree_held s.dimension c l)
  comes-to = tree-passes s n c l long

  counts-off : x ≡ false → TreePassed s n c l None
  counts-off f = record { passed = sym (sym comes-to ∙ is ∙ rw (← stand, f)); rows = tt; domains = tt; borrowed = tt }

  levels-tell : x ≡ true → (r : Option ListsPassed) → LevelsPassed (held l s.dimension) l.level_points c n (6 * n * (s.neighbours + 1)) r → TreePassed s n c l r
  levels-tell t None h = record { passed = h.passed ∙ sym (is ∙ rw (← stand, t)) ∙ comes-to; rows = tt; domains = tt; borrowed = tt }
  levels-tell t (Some r) h =
      let e : true ≡ held_tree_passes s.dimension n s.neighbours c l = h.passed ∙ sym (is ∙ rw (← stand, t)) in
      record {
        passed = e ∙ comes-to;
        rows = h.rows ∙ rows-total s n c l long (sym e);
        domains = h.domains ∙ domains-total s n c l long (sym e);
        borrowed = h.borrowed ∙ borrowed-total s n c l long (sym e);
      }

-- ---- for any settings with this dimension and this neighbour count
module _ (d n neighbours : ℕ) (c : Counts) (l : TreeLists)
    (lent : lists_short_lem l (tree_stated d n neighbours) ≡ false) (x : Bool) (stand : x ≡ counts_stand_lem c) (s : Settings) (e : s.dimension ≡ d) (f : s.neighbours ≡ neighbours) where
  lent-there : lists_short_lem l (tree_stated s.dimension n s.neighbours) ≡ false
  lent-there = rw (e, f) lent

  pub tree-out : x ≡ false → TreePassed s n c l None
  tree-out = counts-off s n c l lent-there x stand

  pub tree-tell : x ≡ true → (r : Option ListsPassed) → LevelsPassed (packed l.internals l.domains l.boxes l.borrowed d) l.level_points c n (6 * n * (neighbours + 1)) r
      → TreePassed s n c l r
  tree-tell t r h = levels-tell s n c l lent-there x stand t r (rw (e, f) h)

-- counts of four levels, and at most four of them
counts-fit : (c : Counts) (x : Bool) → x ≡ counts_stand_lem c → x ≡ true
    → (length c.rows ≡ most_levels) × (length c.domains ≡ most_levels) × (c.levels ≤ most_levels)
unfolding counts_stand_lem
counts-fit c x e t =
    let a = ltb 0 c.levels in
    let f = three-pass a (four_counts_lem c.levels c.rows) (four_counts_lem c.levels c.domains) (sym e ∙ t) in
    let r = four-counted c.levels c.rows f.1 in
    (r.0, (four-counted c.levels c.domains f.2).0, r.1)

-- ---- what the levels ask for
pub levels-ready : (d n neighbours : ℕ) (c : Counts) (l : TreeLists) → d ≤ 3 → n ≤ most_points → lists_short_lem l (tree_stated d n neighbours) ≡ false
    → (x : Bool) → x ≡ counts_stand_lem c → x ≡ true → (listed : List ℕ)
    → Marked listed (λ i. ltb i n)
    → LevelsReady (packed l.internals l.domains l.boxes l.borrowed d) l.level_points c n (6 * n * (neighbours + 1)) listed
levels-ready d n neighbours c l axes many lent x stand t listed all =
    let four = counts-fit c x stand t in
    record {
      axes = axes;
      few = four.2;
      rows = omega (arith, four.0, four.2);
      domains = omega (arith, four.1, four.2);
      many = many;
      long = long-enough d n neighbours l lent;
      all = all;
    }
