-- Tables that are edited, builds over their live slots, and gaps that are closed, worked out: each row is computed. Assumes nothing.
-- Holds: Tables, tables, Closings, closings
use Prim.Native.Nat.{ℕ}
use mathlib.Core.Path.{◌≡◌, refl}
use mathlib.Core.List.{List, [], ◌∷◌, ◌++◌}
use lib.ListN.{replicate}
use lib.Ieee.{Float, nan, inf, binary64, of_bits}
use mathlib.Core.Bool.{true, false}
use Rattle.definition.specs.Number.{plus_zero}
use Rattle.definition.specs.Levels.{fixed}
use Rattle.definition.specs.Tree.{Settings}
use Rattle.definition.specs.Outcome.{Answer, RecordLists, zero_counts}
use Rattle.definition.specs.Record.{cuts_of, level_cuts, leaves_under, leaf_number, nodes_from, record_of, fine_levels, nodes_in, packed_cuts, packed_planes}
use Rattle.definition.specs.Table.{Table, live_slots_lem, next_slot, unsound, add_verdict, added, add_answer_lem, add_table, retire_verdict, retired, retire_answer_lem, retire_table}
use Rattle.definition.specs.Closing.{rename_list, live_coordinates, close_verdict, closed, close_answer, close_table, close_rename}
use Rattle.definition.specs.Edits.{adding, retiring, closing, edited, after_all}
use Rattle.definition.specs.Slots.{places_of_rows, slots_verdict, slot_levels, slots_answer, slots_lists, slots_records}
use Rattle.definition.proofs.WorkedSamples.{opened, line, on_line, nines, float_room, whole_room, record_nines, record_room}

-- ---- tables

abbrev table : ℕ → ℕ → List ℕ → List Float → Table
table slots live flags cs = record { head = record { slots = slots; live = live }; flags = flags; coordinates = cs }

-- three slots of five given out, the second retired; two axes. What stands in the retired slot and past the slot count is anything.
abbrev flags_of5 : List ℕ
flags_of5 = 1 ∷ 0 ∷ 255 ∷ 7 ∷ 0 ∷ []

abbrev five : Table
five = table 3 2 flags_of5 (line (1 ∷ 2 ∷ []) ++ nan ∷ nan ∷ line (5 ∷ 6 ∷ []) ++ inf true ∷ nan ∷ line (9 ∷ 9 ∷ []))

-- all slots of two are live
abbrev full_table : Table
full_table = table 2 2 (1 ∷ 1 ∷ []) (line (3 ∷ 4 ∷ []))

abbrev answers : ℕ → ℕ → ℕ → Answer ℕ
answers number place slot = record { number = number; place = place; value = slot }

-- a refused edit: its number and place, and the table as it was
abbrev AddRefused : ℕ → Table → List Float → ℕ → ℕ → Type 0
AddRefused d t point number place = (add_answer_lem d t point ≡ answers number place 0) × (add_table d t point ≡ t)

abbrev RetireRefused : ℕ → Table → ℕ → ℕ → Type 0
RetireRefused d t slot number = (retire_answer_lem d t slot ≡ answers number 0 0) × (retire_table d t slot ≡ t)

-- ---- a build over the live slots 1, 2, 4 and 6 of eight, whose points are 0, 1, 3 and 7: document 01's example, with slots as rows
abbrev eight : Table
eight = table 7 4 (0 ∷ 1 ∷ 2 ∷ 0 ∷ 255 ∷ 0 ∷ 1 ∷ 9 ∷ []) (nan ∷ line (0 ∷ 1 ∷ []) ++ inf false ∷ line (3 ∷ []) ++ nan ∷ line (7 ∷ []) ++ nan ∷ [])

-- live, a coordinate of the last live slot that is not a number
abbrev spoiled : Table
spoiled = table 7 4 (0 ∷ 1 ∷ 2 ∷ 0 ∷ 255 ∷ 0 ∷ 1 ∷ 9 ∷ []) (nan ∷ line (0 ∷ 1 ∷ []) ++ inf false ∷ line (3 ∷ []) ++ nan ∷ nan ∷ nan ∷ [])

-- a refused build, with lists as long as stated for four points but for the record's: zero counts, and each list as found
abbrev SlotsRefusedWith : RecordLists → Settings → Table → ℕ → ℕ → Type 0
SlotsRefusedWith records s t number place =
    (slots_answer s t (nines 4) (float_room 4) (whole_room 4) records ≡ record { number = number; place = place; value = zero_counts })
    × (slots_lists s t (nines 4) (float_room 4) (whole_room 4) records ≡ nines 4)
    × (slots_records s t (nines 4) (float_room 4) (whole_room 4) records ≡ records)

abbrev SlotsRefused : Settings → Table → ℕ → ℕ → Type 0
SlotsRefused = SlotsRefusedWith (record_room 4)

-- the records of a build over the slots of this table, in lists that held nines
abbrev records_over : Table → RecordLists
records_over t = slots_records (on_line 2 2) t (nines 4) (float_room 4) (whole_room 4) (record_room 4)

-- the record of document 01's example
abbrev example_cuts : List ℕ
example_cuts = (0 ∷ 0 ∷ 3 ∷ 4 ∷ 0 ∷ 5 ∷ 6 ∷ []) ++ replicate 41 9

abbrev example_planes : List Float
example_planes = line (3 ∷ 1 ∷ []) ++ (plus_zero ∷ plus_zero ∷ []) ++ line (7 ∷ []) ++ (plus_zero ∷ plus_zero ∷ []) ++ line (replicate 41 9)

pub record Tables : Type 0 where
  -- adding: the lowest retired slot, though 255 and 2 are live too; then the next new one, over what stood there
  reuse : (add_answer_lem 2 five (line (7 ∷ 8 ∷ [])) ≡ answers 0 0 1)
      × (add_table 2 five (line (7 ∷ 8 ∷ [])) ≡ table 3 3 (1 ∷ 1 ∷ 255 ∷ 7 ∷ 0 ∷ []) (line (1 ∷ 2 ∷ 7 ∷ 8 ∷ 5 ∷ 6 ∷ []) ++ inf true ∷ nan ∷ line (9 ∷ 9 ∷ [])))
  new : (add_answer_lem 1 (table 1 1 (2 ∷ 9 ∷ []) (line (4 ∷ 5 ∷ []))) (line (6 ∷ [])) ≡ answers 0 0 1)
      × (add_table 1 (table 1 1 (2 ∷ 9 ∷ []) (line (4 ∷ 5 ∷ []))) (line (6 ∷ [])) ≡ table 2 2 (2 ∷ 1 ∷ []) (line (4 ∷ 6 ∷ [])))
  first : (add_answer_lem 1 (table 0 0 (9 ∷ []) (nan ∷ [])) (line (6 ∷ [])) ≡ answers 0 0 0) × (add_table 1 (table 0 0 (9 ∷ []) (nan ∷ [])) (line (6 ∷ [])) ≡ table 1 1 (1 ∷ []) (line (6 ∷ [])))
  -- its refusals: 1, 11, 27, 7, 10, 21, each before the next
  add-1 : AddRefused 0 (table 9 9 [] []) (nan ∷ []) 1 0
  add-4 : AddRefused 4 (table 9 9 [] []) (nan ∷ []) 1 0
  add-11 : AddRefused 2 (table 9 9 (1 ∷ 1 ∷ []) (line (3 ∷ 4 ∷ 5 ∷ []))) (nan ∷ []) 11 0
  add-27-slots : AddRefused 1 (table 3 3 (1 ∷ 1 ∷ []) (line (3 ∷ 4 ∷ []))) [] 27 0
  add-27-more : AddRefused 1 (table 2 1 (1 ∷ 2 ∷ []) (line (3 ∷ 4 ∷ []))) [] 27 0
  add-27-fewer : AddRefused 1 (table 1 2 (1 ∷ 1 ∷ []) (line (3 ∷ 4 ∷ []))) [] 27 0
  add-7-short : AddRefused 2 (table 0 0 (1 ∷ []) (line (3 ∷ 4 ∷ []))) (nan ∷ []) 7 0
  add-7-long : AddRefused 1 full_table (nan ∷ nan ∷ []) 7 0
  add-10 : AddRefused 2 five (line (7 ∷ []) ++ inf false ∷ []) 10 1
  add-10-full : AddRefused 1 full_table (nan ∷ []) 10 0
  add-21 : AddRefused 1 full_table (line (5 ∷ [])) 21 0
  add-21-none : AddRefused 1 (table 0 0 [] []) (line (5 ∷ [])) 21 0
  -- retiring: the flag alone; slot count and coordinates stay, also for the last slot
  ends : (retire_answer_lem 2 five 2 ≡ answers 0 0 0) × (retire_table 2 five 2 ≡ table 3 1 (1 ∷ 0 ∷ 0 ∷ 7 ∷ 0 ∷ []) five.coordinates)
  retire-1 : RetireRefused 4 (table 9 9 [] []) 9 1
  retire-11 : RetireRefused 1 (table 9 9 (1 ∷ 1 ∷ []) (line (3 ∷ []))) 9 11
  retire-27 : RetireRefused 1 (table 2 1 (1 ∷ 1 ∷ []) (line (3 ∷ 4 ∷ []))) 9 27
  retire-22-retired : RetireRefused 2 five 1 22
  retire-22-above : RetireRefused 2 five 3 22
  -- one after the other: retire 0, add at 0, add at 1, add at 3; each call with coordinates of its own
  sequence : after_all five (retiring 2 five.coordinates 0 ∷ adding 1 (line (0 ∷ 0 ∷ 0 ∷ 0 ∷ 0 ∷ [])) (line (5 ∷ [])) ∷ adding 1 (line (1 ∷ 2 ∷ 3 ∷ 4 ∷ 5 ∷ [])) (nan ∷ [])
      ∷ adding 1 (line (1 ∷ 2 ∷ 3 ∷ 4 ∷ 5 ∷ [])) (line (6 ∷ [])) ∷ adding 1 (line (1 ∷ 2 ∷ 3 ∷ 4 ∷ 5 ∷ [])) (line (8 ∷ [])) ∷ [])
      ≡ table 4 4 (1 ∷ 1 ∷ 255 ∷ 1 ∷ 0 ∷ []) (line (1 ∷ 2 ∷ 3 ∷ 8 ∷ 5 ∷ []))
  -- the build: document 01's example, with slots as rows
  built-counts : slots_answer (on_line 2 2) eight (nines 4) (float_room 4) (whole_room 4) (record_room 4)
      ≡ record { number = 0; place = 0; value = record { levels = 2; rows = 4 ∷ 2 ∷ 0 ∷ 0 ∷ []; domains = 4 ∷ 1 ∷ 0 ∷ 0 ∷ [] } }
  built-points : (slots_lists (on_line 2 2) eight (nines 4) (float_room 4) (whole_room 4) (record_room 4)).level_points ≡ 1 ∷ 2 ∷ 4 ∷ 6 ∷ 1 ∷ 2 ∷ replicate 10 9
  built-own : (slots_lists (on_line 2 2) eight (nines 4) (float_room 4) (whole_room 4) (record_room 4)).internals ≡ 1 ∷ 2 ∷ 4 ∷ 6 ∷ 1 ∷ 2 ∷ replicate 10 9
  built-borrowed : (slots_lists (on_line 2 2) eight (nines 4) (float_room 4) (whole_room 4) (record_room 4)).borrowed ≡ 2 ∷ 1 ∷ 4 ∷ 2 ∷ 6 ∷ 4 ∷ replicate 42 9
  built-cuts : (records_over eight).cuts ≡ example_cuts
  built-planes : (records_over eight).planes ≡ example_planes
  -- its refusals: 27 before 1; no live slot is 6; n in the level rule is the live count; short coordinates are 11, and short lists of the
  -- record, before 10; 10 at the slot's place
  slots-27 : SlotsRefused (record { dimension = 0; leaf = 0; neighbours = 0; factor = 0; policy = fixed 0 }) (table 7 5 eight.flags eight.coordinates) 27 0
  slots-1 : SlotsRefused (record { dimension = 0; leaf = 0; neighbours = 0; factor = 0; policy = fixed 0 }) eight 1 0
  slots-6 : SlotsRefused (on_line 2 2) (table 2 0 (0 ∷ 0 ∷ 1 ∷ []) []) 6 0
  slots-9 : SlotsRefused (record { dimension = 1; leaf = 1; neighbours = 1; factor = 2; policy = fixed 1 }) (table 9 9 (replicate 9 1) []) 9 0
  slots-11 : SlotsRefused (on_line 2 2) (table 7 4 eight.flags (line (0 ∷ 1 ∷ 2 ∷ 3 ∷ 4 ∷ 5 ∷ 6 ∷ []))) 11 0
  slots-11-cuts : SlotsRefusedWith (record_nines 47 48) (on_line 2 2) spoiled 11 0
  slots-11-planes : SlotsRefusedWith (record_nines 48 47) (on_line 2 2) spoiled 11 0
  slots-10 : SlotsRefused (on_line 2 2) spoiled 10 6

-- the definitions yield every row
pub tables : Tables
unfolding opened live_slots_lem next_slot unsound add_verdict added add_answer_lem add_table retire_verdict retired retire_answer_lem retire_table edited after_all places_of_rows slots_verdict slot_levels slots_answer slots_lists slots_records cuts_of level_cuts leaves_under leaf_number nodes_from record_of fine_levels nodes_in packed_cuts packed_planes
tables =
    record {
      reuse = (refl, refl);
      new = (refl, refl);
      first = (refl, refl);
      add-1 = (refl, refl);
      add-4 = (refl, refl);
      add-11 = (refl, refl);
      add-27-slots = (refl, refl);
      add-27-more = (refl, refl);
      add-27-fewer = (refl, refl);
      add-7-short = (refl, refl);
      add-7-long = (refl, refl);
      add-10 = (refl, refl);
      add-10-full = (refl, refl);
      add-21 = (refl, refl);
      add-21-none = (refl, refl);
      ends = (refl, refl);
      retire-1 = (refl, refl);
      retire-11 = (refl, refl);
      retire-27 = (refl, refl);
      retire-22-retired = (refl, refl);
      retire-22-above = (refl, refl);
      sequence = refl;
      built-counts = refl;
      built-points = refl;
      built-own = refl;
      built-borrowed = refl;
      built-cuts = refl;
      built-planes = refl;
      slots-27 = (refl, refl, refl);
      slots-1 = (refl, refl, refl);
      slots-6 = (refl, refl, refl);
      slots-9 = (refl, refl, refl);
      slots-11 = (refl, refl, refl);
      slots-11-cuts = (refl, refl, refl);
      slots-11-planes = (refl, refl, refl);
      slots-10 = (refl, refl, refl);
    }

-- ---- closing the gaps

-- the new slot count, the table and the rename list after an accepted call
abbrev ClosedTo : ℕ → Table → List ℕ → ℕ → Table → List ℕ → Type 0
ClosedTo d t rename slots after new = (close_answer d t rename ≡ answers 0 0 slots) × (close_table d t rename ≡ after) × (close_rename d t rename ≡ new)

-- a refused call: its number, and table and rename list as they were
abbrev CloseRefused : ℕ → Table → List ℕ → ℕ → Type 0
CloseRefused d t rename number = (close_answer d t rename ≡ answers number 0 0) × (close_table d t rename ≡ t) × (close_rename d t rename ≡ rename)

abbrev minus_zero : Float
minus_zero = of_bits binary64 0x8000000000000000

pub record Closings : Type 0 where
  -- no gap, with a slot not given out behind; no slot; no live slot
  no-gap : ClosedTo 1 (table 2 2 (1 ∷ 255 ∷ 0 ∷ []) (line (3 ∷ 4 ∷ 5 ∷ []))) (9 ∷ 9 ∷ []) 2 (table 2 2 (1 ∷ 1 ∷ 0 ∷ []) (line (3 ∷ 4 ∷ 5 ∷ []))) (0 ∷ 1 ∷ [])
  no-slot : ClosedTo 1 (table 0 0 [] []) [] 0 (table 0 0 [] []) []
  no-live : ClosedTo 1 (table 2 0 (0 ∷ 0 ∷ 7 ∷ []) (line (3 ∷ []) ++ nan ∷ line (5 ∷ []))) (9 ∷ 9 ∷ []) 0 (table 0 0 (0 ∷ 0 ∷ 7 ∷ []) (plus_zero ∷ plus_zero ∷ line (5 ∷ []))) (2 ∷ 2 ∷ [])
  -- gaps in front, between and at the end; a retired NaN goes, a live NaN and a live -0 stay; each list is kept past the slot count
  gaps : ClosedTo 2
      (table 6 3 (0 ∷ 2 ∷ 0 ∷ 255 ∷ 1 ∷ 0 ∷ 9 ∷ []) (nan ∷ nan ∷ minus_zero ∷ line (1 ∷ 2 ∷ []) ++ nan ∷ nan ∷ line (5 ∷ 6 ∷ []) ++ inf true ∷ line (7 ∷ 8 ∷ 9 ∷ []) ++ nan ∷ line (4 ∷ []))) (replicate 8 9) 3
      (table 3 3 (1 ∷ 1 ∷ 1 ∷ 0 ∷ 0 ∷ 0 ∷ 9 ∷ []) (minus_zero ∷ line (1 ∷ []) ++ nan ∷ line (5 ∷ 6 ∷ []) ++ inf true ∷ replicate 6 plus_zero ++ line (9 ∷ []) ++ nan ∷ line (4 ∷ [])))
      (6 ∷ 0 ∷ 6 ∷ 1 ∷ 2 ∷ 6 ∷ 9 ∷ 9 ∷ [])
  axes-3 : ClosedTo 3 (table 2 1 (0 ∷ 1 ∷ []) (line (1 ∷ 2 ∷ 3 ∷ 4 ∷ 5 ∷ 6 ∷ []))) (9 ∷ 9 ∷ []) 1 (table 1 1 (1 ∷ 0 ∷ []) (line (4 ∷ 5 ∷ 6 ∷ []) ++ replicate 3 plus_zero)) (2 ∷ 0 ∷ [])
  -- its refusals: 1, 11 for coordinates and for the rename list, 27, each before the next
  close-1 : CloseRefused 0 (table 9 9 (1 ∷ []) []) [] 1
  close-4 : CloseRefused 4 (table 9 9 (1 ∷ []) []) [] 1
  close-11-coordinates : CloseRefused 2 (table 9 9 (1 ∷ 1 ∷ []) (line (3 ∷ 4 ∷ 5 ∷ []))) (replicate 9 0) 11
  close-11-rename : CloseRefused 1 (table 2 1 (0 ∷ 1 ∷ []) (line (3 ∷ 4 ∷ []))) (7 ∷ []) 11
  close-11-first : CloseRefused 1 (table 2 2 (0 ∷ 1 ∷ []) (line (3 ∷ 4 ∷ []))) (7 ∷ []) 11
  close-27-live : CloseRefused 1 (table 2 2 (0 ∷ 1 ∷ []) (line (3 ∷ 4 ∷ []))) (7 ∷ 7 ∷ []) 27
  close-27-slots : CloseRefused 1 (table 3 1 (0 ∷ 1 ∷ []) (line (3 ∷ 4 ∷ []))) (7 ∷ 7 ∷ 7 ∷ []) 27
  -- retire 0, close, a closing that is refused for its rename list, add at 1
  among-edits : after_all five (retiring 2 five.coordinates 0 ∷ closing 1 (line (1 ∷ 2 ∷ 3 ∷ 4 ∷ 5 ∷ [])) (9 ∷ 9 ∷ 9 ∷ []) ∷ closing 1 (line (1 ∷ 2 ∷ 3 ∷ 4 ∷ 5 ∷ [])) []
      ∷ adding 1 (line (6 ∷ 7 ∷ 8 ∷ 9 ∷ 10 ∷ [])) (line (5 ∷ [])) ∷ [])
      ≡ table 2 2 (1 ∷ 1 ∷ 0 ∷ 7 ∷ 0 ∷ []) (line (6 ∷ 5 ∷ 8 ∷ 9 ∷ 10 ∷ []))
  -- a build afterwards: document 01's example, with its rows and its record; 10 at the new slot's place
  built-after : (slots_lists (on_line 2 2) (close_table 1 eight (replicate 7 9)) (nines 4) (float_room 4) (whole_room 4) (record_room 4)).level_points ≡ 0 ∷ 1 ∷ 2 ∷ 3 ∷ 0 ∷ 1 ∷ replicate 10 9
  after-cuts : (records_over (close_table 1 eight (replicate 7 9))).cuts ≡ example_cuts
  after-planes : (records_over (close_table 1 eight (replicate 7 9))).planes ≡ example_planes
  after-10 : SlotsRefused (on_line 2 2) (close_table 1 spoiled (replicate 7 9)) 10 3

-- the definitions yield every row
pub closings : Closings
unfolding opened live_slots_lem next_slot unsound add_verdict added add_table retire_verdict retired retire_table rename_list live_coordinates close_verdict closed close_answer close_table close_rename edited after_all places_of_rows slots_verdict slot_levels slots_answer slots_lists slots_records cuts_of level_cuts leaves_under leaf_number nodes_from record_of fine_levels nodes_in packed_cuts packed_planes
closings =
    record {
      no-gap = (refl, refl, refl);
      no-slot = (refl, refl, refl);
      no-live = (refl, refl, refl);
      gaps = (refl, refl, refl);
      axes-3 = (refl, refl, refl);
      close-1 = (refl, refl, refl);
      close-4 = (refl, refl, refl);
      close-11-coordinates = (refl, refl, refl);
      close-11-rename = (refl, refl, refl);
      close-11-first = (refl, refl, refl);
      close-27-live = (refl, refl, refl);
      close-27-slots = (refl, refl, refl);
      among-edits = refl;
      built-after = refl;
      after-cuts = refl;
      after-planes = refl;
      after-10 = (refl, refl, refl);
    }
