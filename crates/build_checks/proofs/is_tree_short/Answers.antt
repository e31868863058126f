-- `build_checks::is_tree_short` meets its contract: the lengths are compared pair by pair. Assumes nothing.
use mathlib.Core.Path.{ap, ◌∙◌}
use Rattle.std.proofs.Common.{rules, nat_lt}
use Rattle.std.proofs.lemmas.Iterator.{YieldsList-from_slice, YieldsList-from_zip}
use Rattle.std.proofs.lemmas.Iterator.Search.{any_from_yields_List}
use Rattle.definition.specs.Packed.{tree_stated}
use Rattle.build_sizes.specs.Sizes.{tree_sizes_of, tree_lengths_of}
use Rattle.build_checks.proofs.Laws.{short-pairs}
use Rattle.build_checks.proofs.is_tree_short.Goals as goal

pub returns : goal.returns
returns c = let a = c.args in
    let has = YieldsList-from_slice {s = c.zip.result.a} (tree_lengths_of (tree_sizes_of a.lent)) (rw (c.zip.ensures.first, c.iter.ensures.rest) c.lengths-lengths.ensures) in
    let asked = YieldsList-from_slice {s = c.zip.result.b} (tree_lengths_of (tree_stated a.dimensions a.n a.neighbours)) (rw (c.zip.ensures.second, c.iter-2.ensures.rest) (c.lengths-stated.ensures ∙ ap tree_lengths_of c.tree_sizes.ensures)) in
    any_from_yields_List (λ p. nat_lt p.0 p.1) c.any.new.self _ c.any.result c.any.ensures.ran (YieldsList-from_zip has asked) (λ x b q k. search rules) ∙ short-pairs (tree_sizes_of a.lent) (tree_stated a.dimensions a.n a.neighbours)
