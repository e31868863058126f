-- The sizes that suffice for every file. Definitions only.
use Rattle.std.specs.Prelude.{ℕ}

-- the size of the file list that always suffices for the tree of a job
abbrev pub most_file_bytes : ℕ
most_file_bytes = 32768
