-- A build after closing is the build before it: the same refusal, or the same tree with its rows renamed by the list that closing wrote;
-- and the same records of its cuts. Assumes nothing.
-- Holds: close-verdict, close-levels, close-records, closed-keeps
use mathlib.Core.Path.{◌≡◌, ap, ◌∙◌}
use mathlib.Core.List.{List, map}
use Prim.Native.Nat.{ℕ, ◌*◌, min}
use lib.ListN.{length}
use lib.Dec.{ltb}
use lib.Ieee.{Float}
use Rattle.definition.specs.Tree.{Settings}
use Rattle.definition.specs.Packed.{BuildSizes}
use Rattle.definition.specs.Refusals.{accepted, most_points}
use Rattle.definition.specs.Record.{nodes_in}
use Rattle.definition.specs.Outcome.{TreeLists, RecordLists}
use Rattle.definition.specs.Table.{Table, unsound, coordinates_short}
use Rattle.definition.specs.Slots.{slots_verdict, slot_levels}
use Rattle.definition.specs.Closing.{close_verdict, closed, close_table}
use Rattle.renaming_laws.specs.Renaming.{renamed_level, renamed_verdict}
use Rattle.table_laws.proofs.Closing.{Closes, closes, closed-flags-length, closed-sound, closed-length, new_slot, closed_is, rows-renamed, close-renames}
use Rattle.table_laws.proofs.Renamed.{TablesRenamed, SlotsRenamed, verdict-renamed, slot-levels-renamed, slot-records-renamed, slots-renamed}

module _ (s : Settings) (t : Table) (rename : List ℕ) (e : close_verdict s.dimension t (length rename) ≡ accepted) where
  abbrev d : ℕ
  d = s.dimension

  has : Closes s.dimension t (length rename)
  has = closes d t (length rename) e

  -- flags and coordinates keep their lengths
  same-short : coordinates_short s.dimension (closed s.dimension t) ≡ coordinates_short s.dimension t
  same-short =
      ap (λ (k : ℕ). ltb (length (closed d t).coordinates) (min most_points k * d)) (closed-flags-length t has.sound d)
      ∙ ap (λ (k : ℕ). ltb k (min most_points (length t.flags) * d)) (closed-length d t has.sound has.covered)

  close-tables : TablesRenamed s.dimension t (close_table s.dimension t rename) (new_slot s.dimension t rename)
  close-tables =
      record {
        some = has.axes;
        sound = has.sound;
        sound-too = ap (λ (u : Table). unsound u.head u.flags) (closed_is d t rename e) ∙ closed-sound t has.sound d;
        short = ap (coordinates_short d) (closed_is d t rename e) ∙ same-short;
        rows = rows-renamed d t rename e;
        renames = close-renames d t rename e;
      }

  -- the refusals: the same number, and with 10 the renamed place
  pub close-verdict : (lent : BuildSizes) → slots_verdict s (close_table s.dimension t rename) lent ≡ renamed_verdict s.dimension (new_slot s.dimension t rename) (slots_verdict s t lent)
  close-verdict lent = verdict-renamed s t (close_table d t rename) (new_slot d t rename) close-tables lent

  -- the tree
  pub close-levels : slot_levels s (close_table s.dimension t rename) ≡ map (renamed_level (new_slot s.dimension t rename)) (slot_levels s t)
  close-levels = slot-levels-renamed s t (close_table d t rename) (new_slot d t rename) close-tables

  -- the records of its cuts
  pub close-records : nodes_in s (close_table s.dimension t rename).coordinates (slot_levels s (close_table s.dimension t rename)) ≡ nodes_in s t.coordinates (slot_levels s t)
  close-records = slot-records-renamed s t (close_table d t rename) (new_slot d t rename) close-tables

  -- THE LAW: the answer, every list and the records
  pub closed-keeps : (old : TreeLists) (floats : List Float) (wholes : List ℕ) (records : RecordLists)
      → SlotsRenamed s t (close_table s.dimension t rename) (new_slot s.dimension t rename) old floats wholes records
  closed-keeps old floats wholes records = slots-renamed s t (close_table d t rename) (new_slot d t rename) close-tables old floats wholes records
