-- `cut_index::CutRecord::least_of` meets its contract. Assumes nothing.
use mathlib.Core.Path.{ap, ap₂, ◌∙◌}
use mathlib.Core.List.{List}
use Prim.Native.Nat.{ℕ, ◌+◌, ◌-◌}
use lib.ListN.{get_or, take, drop}
use Rattle.std.specs.Prelude.{Option}
use Rattle.std.specs.Option.{unwrap_or}
use Rattle.std.proofs.lemmas.Option.{unwrap_or-slice_get}
use Rattle.lists.specs.Lists.{part}
use Rattle.lists.proofs.Put.{part-lent}
use Rattle.cut_index.specs.Recorded.{most_whole}
use Rattle.cut_index.proofs.CutRecord.least_of.Goals as goal

pub returns : goal.returns
returns c =
    let s = c.args.self in
    let row = c.row-row.result in
    let is = c.row-row.ensures in
    let start = row.internal_start - s.from in
    c.unwrap_or.ensures ∙ ap (λ (o : Option ℕ). unwrap_or o most_whole) (c.copied.ensures ∙ c.first.ensures.value)
    ∙ unwrap_or-slice_get (take (start + row.internal_count - start) (drop start s.positions.now)) 0 most_whole
    ∙ ap (λ (l : List ℕ). get_or l 0 most_whole)
    (part-lent s.positions.now start row.internal_count ∙ ap₂ (λ (x n : ℕ). part s.positions.now (x - s.from) n) is.own_start is.own_count)
