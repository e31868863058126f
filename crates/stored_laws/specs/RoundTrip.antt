-- What a load of a written file, and a write of a loaded tree, come to. Definitions only.
use Rattle.std.specs.Prelude.{ℕ, ◌≡◌, List, ◌++◌, length, take, drop, Float}
use Rattle.definition.specs.Tree.{Settings, Level}
use Rattle.definition.specs.Packed.{Counts, packed_level_points, packed_internals, packed_domains, packed_boxes, packed_borrowed}
use Rattle.definition.specs.Refusals.{accepted}
use Rattle.definition.specs.Outcome.{answered, written, TreeLists, zero_counts}
use Rattle.stored.specs.Outcome.{load_answer, load_lists_lem, tree_held, write_answer, write_output}

-- the first k of l, then what stands past k in the old list
abbrev pub front_over : {A : Type 0} → ℕ → List A → List A → List A
front_over k l old = take k l ++ drop k old

-- the five lists, each with as much of l's front as the tree fills
unfoldable pub fronts_over : List Level → TreeLists → TreeLists → TreeLists
fronts_over ls l old =
    record {
      level_points = front_over (length (packed_level_points ls)) l.level_points old.level_points;
      internals = front_over (length (packed_internals ls)) l.internals old.internals;
      domains = front_over (length (packed_domains ls)) l.domains old.domains;
      boxes = front_over (length (packed_boxes ls)) l.boxes old.boxes;
      borrowed = front_over (length (packed_borrowed ls)) l.borrowed old.borrowed;
    }

-- ---- the calls

-- The load of an accepted write's bytes, with the same settings and points, into lists that are long enough: it is accepted, reports
-- the counts that were written, and fills the lists from the fronts of those written, whatever stands past the tree in either.
pub record LoadsBack (s : Settings) (cs : List Float) (c : Counts) (l : TreeLists) (bs : List ℕ) (old : TreeLists) : Type 0 where
  pub answer : load_answer s cs bs old ≡ answered accepted c zero_counts
  pub lists : load_lists_lem s cs bs old ≡ fronts_over (tree_held s.dimension c l) l old

-- The write of an accepted load's counts and lists, with the same settings and points, into a file list that is long enough: it is
-- accepted, reports the file's length, and writes the file to the front.
pub record WritesBack (s : Settings) (cs : List Float) (c : Counts) (l : TreeLists) (bs file : List ℕ) : Type 0 where
  pub answer : write_answer s cs c l file ≡ answered accepted (length bs) 0
  pub output : write_output s cs c l file ≡ written bs file
