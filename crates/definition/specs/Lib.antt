-- Document 01 in antt, in its order.
pub mod Number
pub mod Points
pub mod Keys
pub mod Levels
pub mod Quotas
pub mod Sampling
pub mod Cut
pub mod Overlaps
pub mod Tree
pub mod Packed
pub mod Refusals
pub mod Outcome
-- The cut record, which every build writes (document 02, requests 2 and 9).
pub mod Record
-- The table of wells, and the build over its live slots (document 02, request 7).
pub mod Table
pub mod Slots
-- Closing the gaps of the table (request 8), and sequences of edits.
pub mod Closing
pub mod Edits
-- What the laws of level sizes and quotas say.
pub mod SeatCut
pub mod Fair
pub mod LevelLaws
-- The gap to a box, by which a search passes over a half of the cut record (request 9).
pub mod Gap
