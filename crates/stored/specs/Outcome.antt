-- The complete outcome of the loader and of the writer. Definitions only.
use Rattle.std.specs.Prelude.{ℕ, Bool, not, ◌&&◌, ◌||◌, List, [], ◌∷◌, ◌++◌, length, take, ltb, eqb, Float}
use Rattle.lists.specs.Lists.{part}
use Rattle.definition.specs.Tree.{Settings, Level, point_count}
use Rattle.definition.specs.Packed.{Counts, counts_of, TreeSizes, tree_stated, packed_level_points, packed_internals, packed_domains, packed_borrowed}
use Rattle.definition.specs.Refusals.{Verdict, Test, on, verdict, coordinates_missing, tree_short, build_tests, not_finite_lem}
use Rattle.definition.specs.Outcome.{Answer, answered, list_after, TreeLists, lent_tree, zero_counts, tree_lists_after}
use Rattle.packed.specs.Reading.{packed, read_levels}
use Rattle.formats.specs.Bytes.{mark_size}
use Rattle.formats.specs.Stream.{settings_bytes}
use Rattle.stored.specs.File.{front_bytes_lem, file_bytes}
use Rattle.stored.specs.Sound.{same, sound}
use Rattle.stored.specs.Stored.{tree_in, well_formed}

-- ---- the build's own refusals for the present settings and points, and the five lists alone: 1 to 9, 11, 10

unfoldable pub lists_short_lem : TreeLists → TreeSizes → Bool
lists_short_lem l stated = tree_short (lent_tree l) stated

unfoldable pub own_tests : Settings → List Float → TreeLists → List Test
own_tests s cs lists =
    let d = s.dimension in
    let n = point_count d cs in
    build_tests s n (coordinates_missing d cs) (lists_short_lem lists (tree_stated d n s.neighbours)) (not_finite_lem cs)

-- ---- the loader: the build's own, then 20, 18, 19

-- the settings in the file are these, as given
abbrev pub same_settings_lem : Settings → List ℕ → Bool
same_settings_lem s bs = same (settings_bytes s) (part bs mark_size (length (settings_bytes s)))

-- and the points, bit for bit
abbrev pub same_points_lem : Settings → List Float → List ℕ → Bool
same_points_lem s cs bs = same (front_bytes_lem s cs) (take (length (front_bytes_lem s cs)) bs)

unfoldable pub load_verdict : Settings → List Float → List ℕ → TreeLists → Verdict
load_verdict s cs bs old =
    verdict (own_tests s cs old ++ on (not (well_formed bs)) 20 ∷ on (not (same_settings_lem s bs)) 18 ∷ on (not (same_points_lem s cs bs)) 19 ∷ [])

unfoldable pub load_answer : Settings → List Float → List ℕ → TreeLists → Answer Counts
load_answer s cs bs old = answered (load_verdict s cs bs old) (counts_of (tree_in bs)) zero_counts

unfoldable pub load_lists_lem : Settings → List Float → List ℕ → TreeLists → TreeLists
load_lists_lem s cs bs old = tree_lists_after (load_verdict s cs bs old) (tree_in bs) old

-- ---- the writer: the build's own, then 20, then 11 for the file list

-- the tree that stands in lists with these counts
unfoldable pub tree_held : ℕ → Counts → TreeLists → List Level
tree_held d c l = read_levels (packed l.internals l.domains l.boxes l.borrowed d) l.level_points c.rows c.domains c.levels

-- the numbers stand at the front of the list
abbrev pub leads : List ℕ → List ℕ → Bool
leads xs l = same xs (take (length xs) l)

-- The lists and counts are those of the tree: each stretch starts where the last one of its list ended and ends inside it, and counts
-- are 0 beyond the last level.
unfoldable pub packs : Counts → TreeLists → List Level → Bool
packs c l ls =
    eqb c.levels (counts_of ls).levels && same c.rows (counts_of ls).rows && same c.domains (counts_of ls).domains
    && leads (packed_level_points ls) l.level_points && leads (packed_internals ls) l.internals && leads (packed_domains ls) l.domains
    && leads (packed_borrowed ls) l.borrowed

unfoldable pub write_verdict : Settings → List Float → Counts → TreeLists → List ℕ → Verdict
write_verdict s cs c l file =
    let d = s.dimension in
    let ls = tree_held d c l in
    verdict (own_tests s cs l ++ on (not (packs c l ls && sound s (point_count d cs) ls)) 20 ∷ on (ltb (length file) (length (file_bytes s cs ls))) 11 ∷ [])

-- the number of bytes written
unfoldable pub write_answer : Settings → List Float → Counts → TreeLists → List ℕ → Answer ℕ
write_answer s cs c l file = answered (write_verdict s cs c l file) (length (file_bytes s cs (tree_held s.dimension c l))) 0

unfoldable pub write_output : Settings → List Float → Counts → TreeLists → List ℕ → List ℕ
write_output s cs c l file = list_after (write_verdict s cs c l file) (file_bytes s cs (tree_held s.dimension c l)) file
