-- The lists of the stored calls as they are lent. Definitions only.
use Rattle.std.specs.Float.{binary64}
use Rattle.std.specs.Float.Ieee.{of_bits}
use Rattle.definition.specs.Outcome.{TreeLists}
use Rattle.tree_lists.specs.Lent.{all_filled}

-- they hold 9
abbrev pub nine_lists : TreeLists
nine_lists = all_filled 64 485 679 1560 9 (of_bits binary64 0x4022000000000000)
