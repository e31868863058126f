-- `list_levels::count_fits` meets its contract. Assumes nothing.
use mathlib.Core.Path.{◌∙◌}
use native.Mathlib.Omega.{arith}
use borrow.Author.Tests.{le-ltb}
use Rattle.list_levels.proofs.LevelCounts.{first_count, no_rows, some-rows}
use Rattle.list_levels.proofs.count_fits.Goals as goal

pub returns-then-t-eq0 : goal.returns-then-t-eq0
returns-then-t-eq0 c = first_count _ _ _ _ c.if-t-eq0.true

pub returns-else-rows-gt0 : goal.returns-else-rows-gt0
returns-else-rows-gt0 c = le-ltb _ _ c.if-rows-gt0.false ∙ no_rows _ _ _ _ c.if-t-eq0.false (omega arith)

pub returns-then-rows-gt0 : goal.returns-then-rows-gt0
returns-then-rows-gt0 c = some-rows _ _ _ _ c.if-t-eq0.false (λ e. omega arith)
