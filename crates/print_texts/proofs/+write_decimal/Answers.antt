-- `print_texts::write_decimal` meets its contract. Assumes nothing.
use Rattle.print_texts.proofs.Digits.{decimal-one, decimal_step}
use Rattle.bytes_out.proofs.Writing.{spelt_as, takes_as, takes_first, takes_next, ◌▸◌}
use mathlib.Core.Path.{sym}
use native.Mathlib.Omega.{arith}
use Rattle.print_texts.proofs.+write_decimal.Goals as goal

pub byte-requires : goal.byte-requires
byte-requires t c = takes_as (decimal-one _ _ c.if-n-lt10.true c.digit_of-low.ensures) c.requires

pub returns-then-n-lt10 : goal.returns-then-n-lt10
returns-then-n-lt10 t c = spelt_as (sym (decimal-one _ _ c.if-n-lt10.true c.digit_of-low.ensures)) c.byte.ensures

pub write_decimal-requires : goal.write_decimal-requires
write_decimal-requires t c =
    let e = decimal_step _ _ c.if-n-lt10.false c.ranges.n.fits c.digit_of-low.ensures in
    (omega arith, takes_first _ _ (takes_as e c.requires))

pub byte-requires-2 : goal.byte-requires-2
byte-requires-2 t c =
    let e = decimal_step _ _ c.if-n-lt10.false c.ranges.n.fits c.digit_of-low.ensures in
    takes_next c.write_decimal.ensures (takes_as e c.requires)

pub returns : goal.returns
returns t c =
    let e = decimal_step _ _ c.if-n-lt10.false c.ranges.n.fits c.digit_of-low.ensures in
    spelt_as (sym e) (c.write_decimal.ensures ▸ c.byte-2.ensures)
