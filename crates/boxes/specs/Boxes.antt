-- A box by value as the definition has it. Definitions only.
use Rattle.std.specs.Prelude.{List, ◌++◌, take, Float}
use Rattle.boxes.specs.declared.Extents.{Extents}

-- the lower bound on each axis in use, then the upper bound on each
unfoldable pub floats_of : Extents → List Float
floats_of b = take b.dimensions b.lower ++ take b.dimensions b.upper
