-- Runs of records, and the file, as the parts that the code writes one after the other. Assumes nothing.
-- Holds: domain_at_lem, domain-run, level-run, file-run
use mathlib.Core.Path.{◌≡◌, refl, sym, ap, ◌∙◌}
use Prim.Native.Nat.{ℕ, ◌+◌, ◌-◌}
use native.Mathlib.Nat.{add-zero}
use mathlib.Core.Bool.{Bool}
use mathlib.Core.List.{List, ◌++◌, map, map-map}
use lib.Ieee.{Float}
use Rattle.lists.specs.Lists.{joined, from}
use Rattle.lists.proofs.From.{length-map-from}
use Rattle.definition.specs.Tree.{Settings}
use Rattle.definition.specs.Packed.{Counts}
use Rattle.definition.specs.Outcome.{TreeLists}
use Rattle.packed.specs.Reading.{Packed, read_leaf, read_leaves, packed, read_levels}
use Rattle.stored.specs.File.{level_bytes, front_bytes_lem, tree_records, file_bytes}
use Rattle.stored.specs.Outcome.{tree_held}
use Rattle.store_records.specs.Records.{counts_bytes, level_record, domain_record}
use Rattle.store_bytes.specs.Runs.{domain_records, level_of, level_records}
use Rattle.store_bytes.proofs.Turns.{first-turn}

-- ---- domains
module _ (coarse : Bool) (p : Packed) where
  abbrev pub domain_at_lem : ℕ → List ℕ
  domain_at_lem k = domain_record coarse (read_leaf p k)

  pub domain-run : (j m : ℕ) → domain_records coarse (read_leaves p j m) ≡ joined (map domain_at_lem (from (j + 0) (m - 0)))
  unfolding domain_records read_leaves
  domain-run j m =
      ap joined (map-map (domain_record coarse) (read_leaf p) (from j m) ∙ first-turn domain_at_lem j m)
      ∙ ap (λ (k : ℕ). joined (map domain_at_lem (from k (m - 0)))) (sym (add-zero j))

  -- a level's own record, then its domains
  pub level-run : (rows : List ℕ) (j m : ℕ)
      → level_records coarse (level_of rows (read_leaves p j m)) ≡ level_record rows m ++ domain_records coarse (read_leaves p j m)
  unfolding level_records level_record level_bytes counts_bytes read_leaves
  level-run rows j m = rw (length-map-from (read_leaf p) j m)

-- ---- the file
pub file-run : (s : Settings) (cs : List Float) (d : ℕ) (c : Counts) (l : TreeLists)
    → file_bytes s cs (tree_held d c l)
    ≡ front_bytes_lem s cs ++ joined (tree_records (read_levels (packed l.internals l.domains l.boxes l.borrowed d) l.level_points c.rows c.domains c.levels))
unfolding file_bytes tree_held
file-run s cs d c l = refl
