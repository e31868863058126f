-- The lists that a caller lends, as the definition has them, and that the same ones are lent on. Definitions only.
use Rattle.std.specs.Prelude.{◌≡◌, ℕ, length, replicate, Float}
use Rattle.definition.specs.Outcome as outcome
use Rattle.definition.specs.Outcome.{RecordLists}
use Rattle.tree_lists.specs.declared.TreeLists.{TreeLists}
use Rattle.tree_lists.specs.declared.LeafLists.{LeafLists}
use Rattle.tree_lists.specs.declared.TreeRead.{TreeRead}
use Rattle.tree_lists.specs.declared.TreeArrays.{TreeArrays}
use Rattle.tree_lists.specs.declared.Room.{Room}
use Rattle.tree_lists.specs.declared.Records.{Records}

-- the lists of a tree
abbrev pub lists_in : TreeLists → outcome.TreeLists
lists_in l =
    record {
      level_points = l.level_points.now;
      internals = l.internals.now;
      domains = l.domains.now;
      boxes = l.boxes.now;
      borrowed = l.borrowed.now;
    }

-- the lists of a tree that is only read
abbrev pub lists_read : TreeRead → outcome.TreeLists
lists_read l =
    record {
      level_points = l.level_points.now;
      internals = l.internals.now;
      domains = l.domains.now;
      boxes = l.boxes.now;
      borrowed = l.borrowed.now;
    }

-- the lists that arrays hold
abbrev pub arrays_held : {P D B O : ℕ} → TreeArrays P D B O → outcome.TreeLists
arrays_held a =
    record { level_points = a.level_points; internals = a.internals; domains = a.domains; boxes = a.boxes; borrowed = a.borrowed }

-- lists of these lengths that hold this number and this float everywhere
abbrev pub all_filled : ℕ → ℕ → ℕ → ℕ → ℕ → Float → outcome.TreeLists
all_filled p d b o n x =
    record {
      level_points = replicate p n;
      internals = replicate p n;
      domains = replicate d n;
      boxes = replicate b x;
      borrowed = replicate o n;
    }

-- the two lists of the records
abbrev pub records_in : Records → RecordLists
records_in r = record { cuts = r.cuts.now; planes = r.planes.now }

-- both hold the same five lists, each as long as it was
pub record SameLists (l m : TreeLists) : Type 0 where
  pub level_points : m.level_points.ghost_name ≡ l.level_points.ghost_name
  pub level_points_len : length m.level_points.now ≡ length l.level_points.now
  pub internals : m.internals.ghost_name ≡ l.internals.ghost_name
  pub internals_len : length m.internals.now ≡ length l.internals.now
  pub domains : m.domains.ghost_name ≡ l.domains.ghost_name
  pub domains_len : length m.domains.now ≡ length l.domains.now
  pub boxes : m.boxes.ghost_name ≡ l.boxes.ghost_name
  pub boxes_len : length m.boxes.now ≡ length l.boxes.now
  pub borrowed : m.borrowed.ghost_name ≡ l.borrowed.ghost_name
  pub borrowed_len : length m.borrowed.now ≡ length l.borrowed.now

-- both hold the same three lists, each as long as it was
pub record SameLeafLists (l m : LeafLists) : Type 0 where
  pub internals : m.internals.ghost_name ≡ l.internals.ghost_name
  pub internals_len : length m.internals.now ≡ length l.internals.now
  pub domains : m.domains.ghost_name ≡ l.domains.ghost_name
  pub domains_len : length m.domains.now ≡ length l.domains.now
  pub boxes : m.boxes.ghost_name ≡ l.boxes.ghost_name
  pub boxes_len : length m.boxes.now ≡ length l.boxes.now

-- both hold the same room, as long as it was
pub record SameRoom (r s : Room) : Type 0 where
  pub floats : s.floats.ghost_name ≡ r.floats.ghost_name
  pub floats_len : length s.floats.now ≡ length r.floats.now
  pub wholes : s.wholes.ghost_name ≡ r.wholes.ghost_name
  pub wholes_len : length s.wholes.now ≡ length r.wholes.now

-- both hold the same two lists, each as long as it was
pub record SameRecords (r s : Records) : Type 0 where
  pub cuts : s.cuts.ghost_name ≡ r.cuts.ghost_name
  pub cuts_len : length s.cuts.now ≡ length r.cuts.now
  pub planes : s.planes.ghost_name ≡ r.planes.ghost_name
  pub planes_len : length s.planes.now ≡ length r.planes.now
