-- `list_levels::next_level` meets its contract. Assumes nothing.
use Prim.Native.Nat.{◌+◌}
use lib.Dec.{eqb}
use Rattle.packed.specs.View.{packed_of}
use Rattle.list_levels.proofs.NextLevel.{rows-most, level-ready}
use borrow.Author.Rules.{rules}
use Rattle.list_levels.proofs.next_level.Goals as goal

pub check_level-requires : goal.check_level-requires
check_level-requires c =
    level-ready (eqb (c.args.t + 1) c.args.tree.levels) (packed_of c.args.tree.leaves) _ _ _ c.args.t _ _ _ _ c.args.sets.now.listed.now c.requires.ready _ c.count_fits.ensures _ (rw c.most_domains.ensures at c.domains_fit.ensures) c.if-not-count_fits.false c.if-not-domains_fit.false

pub overflow_add-result : goal.overflow_add-result
overflow_add-result c =
    let few = rows-most (eqb (c.args.t + 1) c.args.tree.levels) (packed_of c.args.tree.leaves) _ _ _ c.args.t _ _ _ _ c.args.sets.now.listed.now c.requires.ready _ c.count_fits.ensures _ (rw c.most_domains.ensures at c.domains_fit.ensures) c.if-not-count_fits.false c.if-not-domains_fit.false in
    let room = c.requires.ready.room in
    let many = c.requires.ready.many in
    search rules
