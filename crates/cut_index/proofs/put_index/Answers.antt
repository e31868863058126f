-- `cut_index::put_index` meets its contract. Assumes nothing.
use mathlib.Core.Path.{ap, ◌∙◌}
use mathlib.Core.List.{List}
use Prim.Native.Nat.{ℕ, ◌+◌, ◌*◌, ◌≤◌}
use native.Mathlib.Omega.{arith}
use lib.ListN.{length}
use Rattle.lists.specs.Lists.{part}
use Rattle.lists.proofs.Put.{part-put-same}
use Rattle.record_laws.specs.Table.{node_count}
use Rattle.cut_index.specs.Filed.{index_width}
use Rattle.cut_index.specs.Recorded.{index_of}
use Rattle.cut_index.proofs.Makes.{recorded-fits, index-length}
use Rattle.cut_index.proofs.Files.{recorded-filed}
use Rattle.cut_index.proofs.put_index.Goals as goal

pub returns-clause-filed : goal.returns-clause-filed
returns-clause-filed c = λ active t h.
    let s = c.args in
    let new = c.put_under.new.index in
    let fits : 0 + node_count t ≤ length s.cuts.now =
    recorded-fits active s.cuts.now s.planes.now s.leaves.internals.now s.leaves.domains.now s.leaves.first s.leaves.count s.from s.positions.now t 0 h in
    recorded-filed active s.cuts.now s.planes.now s.leaves.internals.now s.leaves.domains.now s.leaves.first s.leaves.count s.from s.positions.now new t 0 h
    (omega (arith, fits, c.requires.room, c.put_under.auto.index))
    (ap (λ (l : List ℕ). part l (index_width * 0) (index_width * node_count t)) (c.put_under.ensures active t h).2
    ∙ part-put-same s.index.now (index_width * 0) (index_of active t 0) (index_width * node_count t) (omega arith) (index-length active t 0))
