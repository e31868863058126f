-- `Writer::text` meets its contract. Assumes nothing.
use mathlib.Core.Path.{refl}
use Rattle.lists.proofs.Put.{part-back}
use Rattle.bytes_out.proofs.Writing.{appended}
use Rattle.bytes_out.proofs.writer.Writer.text.Goals as goal

pub returns : goal.returns
returns c =
    let w = c.args.self.now in
    appended w _ _ c.requires refl refl (rw c.copy_from_slice.ensures.after (part-back w.bytes.now w.at _ c.args.text.now refl))
