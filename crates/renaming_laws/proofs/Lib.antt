-- That a tree does not depend on what its rows are called (levels-renamed in Renaming), one small law for each word of the definition.
-- RenamedLists: tests, counts and choices over the image of a list.
-- RenamedKeys: rows ordered by value and then by row, the first of them, the nearest and the farthest.
-- RenamedPoints: distances, extents, the axis that is cut.
-- RenamedCuts: the cut's halves and the queue's leaves.
-- RenamedOverlaps: neighbours and borrowed rows.
-- RenamedSamples: seed, picks, what a leaf sends up, its cover.
-- Renaming: one level, and all levels.
-- RenamedRecords: the record of the cuts of a level, and of a tree.
pub mod RenamedLists
pub mod RenamedKeys
pub mod RenamedPoints
pub mod RenamedCuts
pub mod RenamedOverlaps
pub mod RenamedSamples
pub mod Renaming
pub mod RenamedRecords
