-- The settings of a build, from the numbers of the call. Definitions only.
use Rattle.std.specs.Prelude.{ℕ}
use Rattle.definition.specs.Levels.{policy_from}
use Rattle.definition.specs.Tree.{Settings}

abbrev pub settings_from : ℕ → ℕ → ℕ → ℕ → ℕ → ℕ → Settings
settings_from d leaf neighbours factor policy c =
    record {
      dimension = d;
      leaf = leaf;
      neighbours = neighbours;
      factor = factor;
      policy = policy_from policy c;
    }
