-- The text of a load. Definitions only.
use Rattle.std.specs.Prelude.{ℕ, List, Float}
use Rattle.definition.specs.Tree.{Settings}
use Rattle.stored.specs.Outcome.{load_verdict}
use Rattle.stored.specs.Programs.{blank_lists, reloaded_by}

-- what is printed of a file that is loaded for these settings and points
unfoldable pub loaded_text : Settings → List Float → List ℕ → List ℕ
loaded_text s cs bs = reloaded_by (load_verdict s cs bs (blank_lists s cs)) bs
