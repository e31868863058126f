-- `bytes_in::finite_at` meets its contract. Assumes nothing.
use Rattle.bytes_in.proofs.Turns.{any-map}
use Rattle.bytes_in.proofs.Floats.{not-finite-above}
use mathlib.Core.Path.{ap, ◌∙◌}
use mathlib.Core.Bool.{not}
use Prim.Native.Nat.{◌+◌, ◌*◌}
use Rattle.lists.specs.Lists.{from}
use Rattle.formats.specs.Bytes.{float_at, floats_at, float_size}
use lib.Ieee.Scale.{finite}
use Rattle.bytes_in.proofs.finite_at.Goals as goal

pub returns : goal.returns
unfolding floats_at
returns c = let a = c.args in
    c.bits_below.ensures ∙ ap not (any-map _ (λ x. not (finite x)) (λ i. float_at (a.at + float_size * i) a.input.now) (from 0 a.count) (λ i. not-finite-above _))
