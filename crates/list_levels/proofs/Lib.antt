-- Laws of the levels of a tree that stands in lists.
pub mod OneLevel
pub mod Levels
pub mod PerLevel
mod Fronts
pub mod LongEnough
pub mod Tree
mod LevelCounts
mod LevelRows
mod NextLevel
mod BetweenLevels
mod WholeTree
