-- The bytes of a stored tree: the writer's. This is the one statement of the format. Definitions only.
use Rattle.std.specs.Prelude.{ℕ, List, [], ◌∷◌, ◌++◌, map, length, Float}
use Rattle.lists.specs.Lists.{from, joined}
use Rattle.definition.specs.Points.{coordinate}
use Rattle.definition.specs.Tree.{Settings, Leaf, Level, point_count}
use Rattle.formats.specs.Bytes.{Mark, mark_of, mark_bytes, number_bytes, numbers_bytes, floats_bytes}
use Rattle.formats.specs.Stream.{settings_bytes}

-- ---- marks

abbrev pub head_mark : Mark
head_mark = mark_of 0x54 0x48

abbrev pub file_point_mark : Mark
file_point_mark = mark_of 0x54 0x50

abbrev pub level_mark : Mark
level_mark = mark_of 0x54 0x4c

abbrev pub domain_mark : Mark
domain_mark = mark_of 0x54 0x44

-- ---- head and points

-- the settings as a job stream has them, and the point count
unfoldable pub head_bytes_lem : Settings → ℕ → List ℕ
head_bytes_lem s n = mark_bytes head_mark ++ settings_bytes s ++ number_bytes n

-- the coordinates of row i
unfoldable pub point_bytes : ℕ → List Float → ℕ → List ℕ
point_bytes d cs i = mark_bytes file_point_mark ++ floats_bytes (map (coordinate d cs i) (from 0 d))

-- what stands before the levels
unfoldable pub front_bytes_lem : Settings → List Float → List ℕ
front_bytes_lem s cs =
    let d = s.dimension in
    let n = point_count d cs in
    head_bytes_lem s n ++ joined (map (point_bytes d cs) (from 0 n))

-- ---- levels and domains

-- row count, domain count, rows
unfoldable pub level_bytes : Level → List ℕ
level_bytes l =
    mark_bytes level_mark ++ number_bytes (length l.points) ++ number_bytes (length l.leaves) ++ numbers_bytes l.points

-- internal count, borrowed count, internal rows, borrowed rows, the bounds given, the cover, and the depth
unfoldable pub domain_bytes : List Float → Leaf → List ℕ
domain_bytes bounds f =
    mark_bytes domain_mark ++ number_bytes (length f.own) ++ number_bytes (length f.borrowed) ++ numbers_bytes f.own ++ numbers_bytes f.borrowed
    ++ floats_bytes (bounds ++ f.cover ∷ []) ++ number_bytes f.depth

-- The records of the levels, each with those of its domains after it. The last level is the coarse one, whose domain has no box.
unfoldable pub tree_records : List Level → List (List ℕ)
tree_records [] = []
tree_records (l ∷ []) = level_bytes l ∷ map (domain_bytes []) l.leaves
tree_records (l ∷ m ∷ ls) = level_bytes l ∷ map (λ f. domain_bytes f.box f) l.leaves ++ tree_records (m ∷ ls)

-- the file
unfoldable pub file_bytes : Settings → List Float → List Level → List ℕ
file_bytes s cs ls = front_bytes_lem s cs ++ joined (tree_records ls)
