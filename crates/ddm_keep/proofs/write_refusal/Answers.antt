-- `ddm_keep::write_refusal` meets its contract. Assumes nothing.
use mathlib.Core.Path.{refl, sym}
use native.Mathlib.Omega.{arith}
use lib.Seq.{length-take-le}
use borrow.Author.Rules.{rules}
use Rattle.ddm_keep.proofs.Decided.{line-room, line-fits, line-tells, told}
use Rattle.ddm_keep.proofs.write_refusal.Goals as goal

pub write_refusal-requires : goal.write_refusal-requires
write_refusal-requires g c = line-room _ _ refl refl (omega arith)

pub slice_bounds-line-end : goal.slice_bounds-line-end
slice_bounds-line-end g c = line-fits _ _ refl refl c.write_refusal.ensures _ (search rules)

pub slice_bounds-write_text-end : goal.slice_bounds-write_text-end
slice_bounds-write_text-end g c = sym (length-take-le _ _ (line-fits _ _ refl refl c.write_refusal.ensures _ (search rules)))

pub write_text-requires : goal.write_text-requires
write_text-requires g c = line-tells _ _ refl refl c.write_refusal.ensures _ (search rules) c.args.input.front c.args.input.bytes.now c.requires

pub returns : goal.returns
returns g c = told _ _ _ _ _ _ (line-tells _ _ refl refl c.write_refusal.ensures _ (search rules) c.args.input.front c.args.input.bytes.now c.requires) c.write_text.ensures
