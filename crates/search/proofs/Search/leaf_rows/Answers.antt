-- `search::Search::leaf_rows` meets its contract. Assumes nothing.
use mathlib.Core.Path.{ap₂, ◌∙◌}
use Prim.Native.Nat.{ℕ, ◌-◌}
use Rattle.lists.specs.Lists.{part}
use Rattle.lists.proofs.Put.{part-lent}
use Rattle.search.proofs.Search.leaf_rows.Goals as goal

pub returns : goal.returns
returns c rows k =
    let l = c.args.self.filed.positions.now in
    let from = c.args.self.filed.from in
    let r = c.row-row in (
      c.own.ensures ∙ k.own,
      part-lent l (r.result.internal_start - from) r.result.internal_count
          ∙ ap₂ (λ (a n : ℕ). part l (a - from) n) r.ensures.own_start r.ensures.own_count
          ∙ k.places,
    )
