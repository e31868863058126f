-- `Writer::byte` meets its contract. Assumes nothing.
use mathlib.Core.Path.{refl}
use Rattle.lists.proofs.Put.{set-put}
use Rattle.bytes_out.proofs.Writing.{appended}
use native.Mathlib.Omega.{arith}
use Rattle.bytes_out.proofs.writer.Writer.byte.Goals as goal

pub returns : goal.returns
returns c = let w = c.args.self.now in appended w _ _ c.requires refl refl (set-put w.bytes.now w.at c.args.b (omega (arith, c.requires.fits)))
