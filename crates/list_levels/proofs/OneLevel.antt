-- A level that stands in packed lists passes exactly where it passes in turn and its domain rows are those of packing. Assumes nothing.
-- Holds: level_there, LevelHeld, level-held, held-count, held-level, level-own
use mathlib.Core.Path.{◌≡◌, sym, ap, ◌∙◌}
use mathlib.Core.Bool.{Bool, true}
use mathlib.Core.List.{List}
use Prim.Native.Nat.{ℕ, ◌+◌, ◌*◌, ◌≤◌}
use lib.ListN.{length}
use Rattle.lists.specs.Lists.{part}
use Rattle.lists.proofs.Tests.{and-of, and-fst, and-snd, three-pass}
use Rattle.lists.proofs.Put.{length_part}
use Rattle.definition.specs.Tree.{Level}
use Rattle.definition.specs.Packed.{row_numbers}
use Rattle.packed.specs.Reading.{Packed, read_leaves}
use Rattle.tree_tests.specs.InTurn.{among, in_order_lem, fitted, leaves_pass, level_passes}
use Rattle.tree_tests.proofs.Lengths.{own_total, borrowed_total}
use Rattle.list_domains.specs.InLists.{domains_pass}
use Rattle.list_domains.proofs.AsPacked.{AsPacked}
use Rattle.list_domains.proofs.Held.{domains-held, held-domains, own-all}
use Rattle.list_levels.specs.InLists.{held_level_passes}

-- the level whose rows stand at a, with m domain rows from the row number j on
abbrev pub level_there : Packed → List ℕ → ℕ → ℕ → ℕ → ℕ → Level
level_there p level_points j a rows m = record { points = part level_points a rows; leaves = read_leaves p j m }

pub record LevelHeld (coarse : Bool) (p : Packed) (level_points : List ℕ) (most : ℕ) (counts above : ℕ → Bool) (j a b rows m : ℕ) : Type 0 where
  pub pass : level_passes p.dimension coarse counts above (level_there p level_points j a rows m) ≡ true
  pub size : length (part level_points a rows) ≡ rows
  pub packed : AsPacked p j m a b
  pub within : b + borrowed_total (read_leaves p j m) ≤ most

module _ (coarse : Bool) (p : Packed) (level_points : List ℕ) (most : ℕ) (counts above : ℕ → Bool) (j a b rows m : ℕ) (lent : most ≤ length p.borrowed)
    (fit : row_numbers * (j + m) ≤ length p.domains) where
  abbrev points : List ℕ
  points = part level_points a rows

  abbrev inside : Bool
  inside = in_order_lem 0 above points

  pub level-held : a + rows ≤ length level_points → a + rows ≤ length p.internals → b ≤ most → counts rows ≡ true
      → held_level_passes coarse p level_points most above j a b rows m ≡ true → LevelHeld coarse p level_points most counts above j a b rows m
  unfolding held_level_passes level_passes
  level-held there room low c h =
      let y = domains_pass coarse p most rows (among points) (among points) j a b rows 0 m in
      let e : length points ≡ rows = length_part level_points a rows there in
      let g = domains-held coarse p most rows (among points) lent m (among points) j a b rows 0 fit room low (and-snd inside y h) in
      record {
        pass = rw e (and-of (and-of c (and-fst inside y h)) g.pass);
        size = e;
        packed = g.as-packed;
        within = g.within;
      }

  module _ (h : LevelHeld coarse p level_points most counts above j a b rows m) where
    abbrev leaves : Bool
    leaves = leaves_pass (fitted p.dimension coarse (length points)) (among points) (among points) (length points) 0 (read_leaves p j m)

    tests : (counts (length points) ≡ true) × (inside ≡ true) × (leaves ≡ true)
    unfolding level_passes
    tests = three-pass (counts (length points)) inside leaves h.pass

    pub held-count : counts rows ≡ true
    held-count = ap counts (sym h.size) ∙ tests.0

    pub held-level : held_level_passes coarse p level_points most above j a b rows m ≡ true
    unfolding held_level_passes
    held-level =
        let g = rw h.size at tests.2 in
        and-of tests.1 (held-domains coarse p most rows (among points) lent m (among points) j a b rows 0 fit (record { pass = g; as-packed = h.packed; within = h.within }))

    -- each row of the level is internal once
    pub level-own : own_total (read_leaves p j m) ≡ rows
    level-own = own-all (fitted p.dimension coarse (length points)) (among points) (among points) (length points) 0 (read_leaves p j m) tests.2 ∙ h.size
