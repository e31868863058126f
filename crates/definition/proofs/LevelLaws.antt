-- The laws of the levels and their quotas hold. Assumes nothing.
use Rattle.definition.proofs.Sizes.{sized, ends}
use Rattle.definition.specs.LevelLaws.{LevelLaws}
use Rattle.definition.proofs.Fairness.{fair}

pub level-laws : LevelLaws
level-laws = record { sized = sized; ends = ends; fair = fair }
