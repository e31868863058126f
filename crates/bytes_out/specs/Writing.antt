-- A writer that appends bytes. Definitions only.
use Rattle.std.specs.Prelude.{◌≡◌, ℕ, ◌+◌, ◌≤◌, List, length}
use Rattle.lists.specs.Lists.{put}
use Rattle.bytes_out.specs.declared.writer.Writer.{Writer}

-- there is room for the bytes
pub record Takes (w : Writer) (bytes : List ℕ) : Type 0 where
  pub fits : w.at + length bytes ≤ length w.bytes.now

-- w became v: it holds the same list, in which the bytes stand from its place on, and the place is now behind them
pub record Appends (w v : Writer) (bytes : List ℕ) : Type 0 where
  pub list : v.bytes.ghost_name ≡ w.bytes.ghost_name
  pub long : length v.bytes.now ≡ length w.bytes.now
  pub place : v.at ≡ w.at + length bytes
  pub within : v.at ≤ length v.bytes.now
  pub same : v.bytes.now ≡ put w.bytes.now w.at bytes
