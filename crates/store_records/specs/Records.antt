-- The records of a stored tree, as the code writes them. Definitions only.
use Rattle.std.specs.Prelude.{ℕ, Bool, cond, List, [], ◌++◌, length, Float}
use Rattle.definition.specs.Tree.{Leaf}
use Rattle.formats.specs.Bytes.{Mark, mark_bytes, number_bytes, numbers_bytes}
use Rattle.stored.specs.File.{level_mark, domain_bytes}

-- how a level's record, and a domain's, begins: its mark and two counts
unfoldable pub counts_bytes : Mark → ℕ → ℕ → List ℕ
counts_bytes m a b = mark_bytes m ++ number_bytes a ++ number_bytes b

-- the record of a level with these rows and so many domains
unfoldable pub level_record : List ℕ → ℕ → List ℕ
level_record rows m = counts_bytes level_mark (length rows) m ++ numbers_bytes rows

-- the bounds that a domain's record has: those of its box; the coarse domain has none
unfoldable pub bounds_given : Bool → List Float → List Float
bounds_given coarse box = cond coarse [] box

-- a domain's record
unfoldable pub domain_record : Bool → Leaf → List ℕ
domain_record coarse f = domain_bytes (bounds_given coarse f.box) f
