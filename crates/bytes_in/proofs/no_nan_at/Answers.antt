-- `bytes_in::no_nan_at` meets its contract. Assumes nothing.
use Rattle.bytes_in.proofs.Turns.{any-map}
use Rattle.bytes_in.proofs.Floats.{nan-above}
use mathlib.Core.Path.{ap, ◌∙◌}
use mathlib.Core.Bool.{not}
use Prim.Native.Nat.{◌+◌, ◌*◌}
use Rattle.lists.specs.Lists.{from}
use Rattle.formats.specs.Bytes.{float_at, floats_at, float_size}
use lib.Ieee.{is_nan}
use Rattle.bytes_in.proofs.no_nan_at.Goals as goal

pub returns : goal.returns
unfolding floats_at
returns c = let a = c.args in
    c.bits_below.ensures ∙ ap not (any-map _ is_nan (λ i. float_at (a.at + float_size * i) a.input.now) (from 0 a.count) (λ i. nan-above _))
