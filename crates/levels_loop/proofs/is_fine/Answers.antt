-- `levels_loop::is_fine` meets its contract. Assumes nothing.
use borrow.Author.Tests.{lt-ltb, le-ltb}
use Rattle.definition.specs.Tree.{most_fine}
use Rattle.levels_loop.proofs.is_fine.Goals as goal

pub returns-then-built-lt-MOST_FINE : goal.returns-then-built-lt-MOST_FINE
returns-then-built-lt-MOST_FINE c = rw (lt-ltb c.args.built most_fine c.if-built-lt-MOST_FINE.true)

pub returns-else-built-lt-MOST_FINE : goal.returns-else-built-lt-MOST_FINE
returns-else-built-lt-MOST_FINE c = rw (le-ltb c.args.built most_fine c.if-built-lt-MOST_FINE.false)
