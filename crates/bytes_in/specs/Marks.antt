-- A mark as the code has it. Definitions only.
use Rattle.std.specs.Prelude.{ℕ, List, get_or}
use Rattle.formats.specs.Bytes.{Mark, mark_of}

-- its two bytes
abbrev pub mark_read : List ℕ → Mark
mark_read bytes = mark_of (get_or bytes 0 0) (get_or bytes 1 0)
