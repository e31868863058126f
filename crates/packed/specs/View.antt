-- A tree's packed lists that are lent together, a leaf in them, and the own rows of a level's leaves, as the definition reads them.
-- Definitions only.
use Rattle.std.specs.Prelude.{ℕ, List}
use Rattle.definition.specs.Tree as tree
use Rattle.packed.specs.Reading as reading
use Rattle.packed.specs.Reading.{packed, read_own}
use Rattle.packed.specs.declared.Packed.{Packed}
use Rattle.packed.specs.declared.Leaf.{Leaf}
use Rattle.packed.specs.declared.LevelLeaves.{LevelLeaves}

abbrev pub packed_of : Packed → reading.Packed
packed_of p = packed p.internals.now p.domains.now p.boxes.now p.borrowed.now p.dimensions

abbrev pub leaf_of : Leaf → tree.Leaf
leaf_of l = record { own = l.own.now; borrowed = l.borrowed.now; box = l.bounds.now; cover = l.cover; depth = l.depth }

abbrev pub own_of : LevelLeaves → List (List ℕ)
own_of l = read_own l.internals.now l.domains.now l.first l.count
