-- The tree of document 01's four points is one that `read_back` speaks of. Computed. Assumes nothing.
use mathlib.Core.Path.{refl}
use native.Mathlib.Omega.{arith}
use mathlib.Core.List.{[], ◌∷◌}
use lib.Ieee.{fits}
use Rattle.lists.specs.Ascends.{All}
use Rattle.definition.specs.Tree.{levels}
use Rattle.definition.proofs.WorkedSamples.{line, on_line}
use Rattle.stored.proofs.WorkedFiles.{everything}
use Rattle.stored_laws.specs.Writable.{Writable}

pub four-writable : Writable (on_line 2 2) (line (0 ∷ 1 ∷ 3 ∷ 7 ∷ [])) (levels (on_line 2 2) (line (0 ∷ 1 ∷ 3 ∷ 7 ∷ [])))
unfolding everything All fits
four-writable =
    record {
      settings_fit = record { leaf = omega arith; factor = omega arith; threshold = omega arith };
      takes = refl;
      whole = refl;
      points_fit = (tt, (tt, (tt, (tt, tt))));
      passes = refl;
      boxes_fit = (((tt, (tt, (tt, tt))), ((tt, (tt, (tt, tt))), ((tt, (tt, (tt, tt))), ((tt, (tt, (tt, tt))), tt)))), (((tt, (tt, (tt, tt))), tt), tt));
    }
