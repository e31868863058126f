-- Whether each record of a file stands whole at its place. Inner contracts cite it; `file-is-whole` says that it comes to `same bs (file_bytes ..)`
-- where the build takes what stands in the file and its tree is sound. Definitions only.
use Rattle.std.specs.Prelude.{ℕ, zero, suc, Bool, true, false, ◌&&◌, cond, List, length, drop, eqb}
use Rattle.formats.specs.Bytes.{whole}
use Rattle.formats.specs.Stream.{policy_fits_lem, settings_in, point_size_lem}
use Rattle.stored.specs.File.{head_mark, file_point_mark, level_mark, domain_mark}
use Rattle.stored.specs.Stored.{head_size, count_in, leaf_size, one_domain, second_count, domains_place, after_level}

-- ---- the head and the points

-- n point records one after another
unfoldable pub points_whole : ℕ → ℕ → List ℕ → Bool
points_whole d zero bs = true
points_whole d (suc n) bs = whole file_point_mark (point_size_lem d) bs && points_whole d n (drop (point_size_lem d) bs)

unfoldable pub front_whole : List ℕ → Bool
front_whole bs = whole head_mark head_size bs && policy_fits_lem bs && points_whole (settings_in bs).dimension (count_in bs) (drop head_size bs)

-- ---- levels and domains

-- m domain records one after another
unfoldable pub leaves_whole : ℕ → Bool → ℕ → List ℕ → Bool
leaves_whole d coarse zero bs = true
leaves_whole d coarse (suc m) bs =
    whole domain_mark (leaf_size d coarse bs) bs && leaves_whole d coarse m (drop (leaf_size d coarse bs) bs)

-- a level's record, and its domains'
unfoldable pub level_whole : ℕ → List ℕ → Bool
level_whole d bs = whole level_mark (domains_place bs) bs && leaves_whole d (one_domain bs) (second_count bs) (drop (domains_place bs) bs)

-- The levels to the coarse one, at most `fuel` of them, and nothing after it.
unfoldable pub levels_whole : ℕ → ℕ → List ℕ → Bool
levels_whole d zero bs = false
levels_whole d (suc fuel) bs =
    let more = levels_whole d fuel (after_level d bs) in
    level_whole d bs && cond (one_domain bs) (eqb (length (after_level d bs)) 0) more
