-- `file_front::floats_are` meets its contract: before float i, the floats before it agree. Assumes nothing.
use native.Mathlib.Omega.{arith}
use borrow.Author.Rules.{rules}
use Rattle.formats.specs.Bytes.{float_size}
use Rattle.bytes_in.proofs.Turns.{none-tested, none_more}
use Rattle.file_front.proofs.Compared.{differs, float_of, floats-found, floats-end, float-differs, float-agrees}
use Rattle.file_front.proofs.floats_are.Goals as goal

pub loop-i-init : goal.loop-i-init
loop-i-init c = none-tested _

pub returns-then-bits-bits_at : goal.returns-then-bits-bits_at
returns-then-bits-bits_at c =
    let a = c.args in
    let i = c.loop-i.i in
    let fit = c.type_inv.xs i in
    let here = float-differs a.xs.now a.at i a.bytes.now fit (λ k. omega (arith, c.type_inv.bytes k)) (search rules) c.bits_of-bits.result c.bits_at.result c.bits_of-bits.ensures c.bits_at.ensures c.if-bits-bits_at.true in
    floats-found a.xs.now a.at a.bytes.now (search rules) i (search rules) here

pub loop-i-preserved : goal.loop-i-preserved
loop-i-preserved c =
    let a = c.args in
    let i = c.loop-i.i in
    let fit = c.type_inv.xs i in
    let here = float-agrees a.xs.now a.at i a.bytes.now fit (λ k. omega (arith, c.type_inv.bytes k)) (search rules) c.bits_of-bits.result c.bits_at.result c.bits_of-bits.ensures c.bits_at.ensures c.if-bits-bits_at.false in
    none_more (differs (float_of a.xs.now) float_size a.at a.bytes.now) i c.loop-i.invariant here

pub returns : goal.returns
returns c = let a = c.args in
    floats-end a.xs.now a.at a.bytes.now (search rules) c.loop-i.i (search rules) c.loop-i.invariant
