-- The settings of the code as those of the definition. Definitions only.
use Rattle.std.specs.Prelude.{ℕ}
use Rattle.definition.specs.Levels.{Policy, auto, fixed}
use Rattle.definition.specs.Tree as tree
use Rattle.config.specs.declared.SizePolicy.{SizePolicy}
use Rattle.config.specs.declared.SizePolicy.TheVariants.{Auto, Fixed}
use Rattle.config.specs.declared.DDMParams.{DDMParams}
use Rattle.config.specs.declared.Settings.{Settings}

-- the policy of the coarse threshold
abbrev pub threshold_policy : SizePolicy → Policy
threshold_policy Auto = auto
threshold_policy (Fixed c) = fixed c

-- the settings of a build on d axes
abbrev pub settings_of_lem : ℕ → DDMParams → tree.Settings
settings_of_lem d p =
    record {
      dimension = d;
      leaf = p.leaf_threshold;
      neighbours = p.overlap_knn;
      factor = p.coarse_reduction_factor;
      policy = threshold_policy p.coarse_threshold;
    }

-- the same, where the axes and the settings are one value
abbrev pub settings_are : Settings → tree.Settings
settings_are s = settings_of_lem s.dimensions s.params
