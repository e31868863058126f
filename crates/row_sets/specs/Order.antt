-- The order of rows. Definitions only.
use Rattle.std.specs.Prelude.{ℕ, ◌+◌, Option, Some, None}

-- the least row that may stand behind the last one, if there is one
unfoldable pub least_after : Option ℕ → ℕ
least_after None = 0
least_after (Some last) = last + 1
