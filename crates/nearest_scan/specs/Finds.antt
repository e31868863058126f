-- What a scan finds. It stands apart from what is found of plain lists, since `Scan` itself cites that. Definitions only.
use Rattle.std.specs.Prelude.{ℕ, List, Float}
use Rattle.nearest_scan.specs.Near.{Found}
use Rattle.nearest_scan.specs.declared.Scan.{Scan}

-- what a scan finds for the row
abbrev pub FoundBy : Scan → ℕ → List ℕ → List Float → Type 0
FoundBy s row near far = Found s.points.dimensions s.points.coordinates.now s.active.now row s.neighbours near far
