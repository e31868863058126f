-- Laws of the table of wells, of the build over its live slots, and of closing its gaps.
-- Ranks: numbers that pass a test, each with its rank; stretches laid one after the other. Outcomes: what a verdict makes of a value, of a lent list and of the records.
-- Live: how many slots are live, and which; a table that 27 passes (Sound, SoundTable).
-- Slots: what an accepted build over slots has (slots-accepted), and two numbers that never come (slots-never-7, slots-never-8).
-- Closing: what closing leaves (closed-rows, closed-sound, closed-full, closed-twice), and that its list renames (close-renames).
-- Edits: what adding, retiring and closing leave, one by one and in sequence (refused-edit, edits-sound, add-live, add-lowest, retire-live).
-- AllLive: where all slots are live, the build over slots is the build (same-verdicts, same-answers, same_lists, same-records).
-- Renamed: two tables with the same wells live under other slots (verdict-renamed, packed-renamed, slot-records-renamed, slots-renamed).
-- RowCounts: the row counts of an answer add up to what is written (slots-counts).
-- Kept: a build after closing is the build before it, renamed, with the same records (close-verdict, close-levels, close-records, closed-keeps).
-- OnlyLive: a build over slots is that over the coordinates of the live slots (slots-compacted), and sees no others (slots-only-live).
-- WorkedTables: edits, builds over slots and closings, computed (tables, closings).
pub mod Ranks
pub mod Outcomes
pub mod Live
pub mod Slots
pub mod Closing
pub mod Edits
pub mod AllLive
pub mod Renamed
pub mod RowCounts
pub mod Kept
pub mod OnlyLive
pub mod WorkedTables
