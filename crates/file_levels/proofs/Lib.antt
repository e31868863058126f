-- Laws of levels that are tested.
pub mod LevelHeads
pub mod OneLevel
pub mod LevelsInTurn
pub mod WholeTree
