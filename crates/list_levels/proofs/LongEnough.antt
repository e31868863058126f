-- Lists that are not shorter than a build states are as long as the tests ask. Assumes nothing.
use mathlib.Core.Path.{◌≡◌}
use mathlib.Core.Bool.{false}
use Prim.Native.Nat.{ℕ, ◌+◌, ◌*◌}
use borrow.Author.Tests.{ltb-false}
use lib.Dec.{ltb}
use lib.ListN.{length}
use Rattle.lists.proofs.Tests.{or-none}
use Rattle.definition.specs.Packed.{row_numbers, row_floats_lem, most_rows, tree_stated}
use Rattle.definition.specs.Outcome.{TreeLists}
use Rattle.packed.specs.Reading.{packed}
use Rattle.definition.specs.Refusals.{tree_short}
use Rattle.stored.specs.Outcome.{lists_short_lem}
use Rattle.list_levels.specs.Passed.{Long}

pub long-enough : (d n neighbours : ℕ) (l : TreeLists) → lists_short_lem l (tree_stated d n neighbours) ≡ false
    → Long (packed l.internals l.domains l.boxes l.borrowed d) l.level_points n (6 * n * (neighbours + 1))
unfolding lists_short_lem tree_short tree_stated
long-enough d n neighbours l h =
    let a = ltb (length l.level_points) (4 * n) in
    let b = ltb (length l.internals) (4 * n) in
    let e = ltb (length l.domains) (row_numbers * most_rows n) in
    let f = ltb (length l.boxes) (row_floats_lem d * most_rows n) in
    let g = ltb (length l.borrowed) (6 * n * (neighbours + 1)) in
    let h4 = or-none _ g h in
    let h3 = or-none _ f h4.0 in
    let h2 = or-none _ e h3.0 in
    let h1 = or-none a b h2.0 in
    record {
      points = ltb-false (length l.level_points) (4 * n) h1.0;
      internals = ltb-false (length l.internals) (4 * n) h1.1;
      domains = ltb-false (length l.domains) (row_numbers * most_rows n) h2.1;
      boxes = ltb-false (length l.boxes) (row_floats_lem d * most_rows n) h3.1;
      borrowed = ltb-false (length l.borrowed) (6 * n * (neighbours + 1)) h4.1;
    }
