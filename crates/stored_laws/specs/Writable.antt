-- What a file can hold: settings, points and a tree that read back as they were. Definitions only.
use Rattle.std.specs.Prelude.{ℕ, ◌^◌, ◌<◌, ◌≡◌, true, false, List, T, Float}
use Rattle.std.specs.Float.{binary64}
use Rattle.std.specs.Float.Ieee as ieee
use Rattle.lists.specs.Ascends.{All}
use Rattle.definition.specs.Levels.{Policy, auto, fixed}
use Rattle.definition.specs.Tree.{Settings, Level, point_count}
use Rattle.definition.specs.Packed.{leaf_floats}
use Rattle.definition.specs.Refusals.{coordinates_missing}
use Rattle.formats.specs.Bytes.{number_size}
use Rattle.stored.specs.File.{file_bytes}
use Rattle.stored.specs.Sound.{sound}
use Rattle.stored.specs.Stored.{buildable}

-- ---- numbers, floats and bytes

-- a number that its field of 4 bytes holds
abbrev pub NumberFits : ℕ → Type 0
NumberFits n = n < 256 ^ number_size

-- a value of the format: the logic's floats are wider
abbrev pub FloatFits : Float → Type 0
FloatFits x = T (ieee.fits binary64 x)

abbrev pub IsByte : ℕ → Type 0
IsByte b = b < 256

-- ---- settings and trees

-- the number that stands for a policy, and the threshold with it
abbrev pub policy_number : Policy → ℕ
policy_number auto = 0
policy_number (fixed c) = 1

abbrev pub policy_threshold : Policy → ℕ
policy_threshold auto = 0
policy_threshold (fixed c) = c

-- the bounds and the covers of a level's leaves are values of the format
abbrev pub BoxesFit : Level → Type 0
BoxesFit l = All (λ f. All FloatFits (leaf_floats f)) l.leaves

-- settings that their fields hold (dimension and neighbour count are small where the build takes them)
pub record SettingsFit (s : Settings) : Type 0 where
  pub leaf : NumberFits s.leaf
  pub factor : NumberFits s.factor
  pub threshold : NumberFits (policy_threshold s.policy)

pub record Writable (s : Settings) (cs : List Float) (ls : List Level) : Type 0 where
  pub settings_fit : SettingsFit s
  -- the build takes them with these points: values of the format, none short of a coordinate
  pub takes : buildable s cs ≡ true
  pub whole : coordinates_missing s.dimension cs ≡ false
  pub points_fit : All FloatFits cs
  -- a tree that passes the tests, with bounds and covers of the format
  pub passes : sound s (point_count s.dimension cs) ls ≡ true
  pub boxes_fit : All BoxesFit ls

-- the bytes are the file of these settings, points and tree, which can be written
pub record Stores (bs : List ℕ) (s : Settings) (cs : List Float) (ls : List Level) : Type 0 where
  pub writable : Writable s cs ls
  pub file : file_bytes s cs ls ≡ bs
