-- `boxes::Extents::halves` meets its contract. Assumes nothing.
use mathlib.Core.Path.{refl}
use Rattle.boxes.proofs.Boxed.{lower-changed, upper-changed}
use Rattle.boxes.proofs.Extents.halves.Goals as goal

pub returns : goal.returns
returns c = let s = c.args.self in
    let e = c.well_formed.0.1.1.0.1.0.1 in
    record {
      left = (refl, upper-changed s.lower s.upper s.dimensions c.args.axis c.args.plane e c.requires.0 c.requires.1);
      right = (refl, lower-changed s.lower s.upper s.dimensions c.args.axis c.args.plane e c.requires.0 c.requires.1);
    }
