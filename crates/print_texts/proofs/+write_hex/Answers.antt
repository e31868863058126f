-- `print_texts::write_hex` meets its contract. Assumes nothing.
use Rattle.print_texts.proofs.Digits.{hex-none, hex-step}
use Rattle.bytes_out.proofs.Writing.{spelt_as, takes_as, takes_first, takes_next, nothing_yet, ◌▸◌}
use mathlib.Core.Path.{sym}
use native.Mathlib.Omega.{arith}
use Rattle.print_texts.proofs.+write_hex.Goals as goal

pub returns-then-k-eq0 : goal.returns-then-k-eq0
returns-then-k-eq0 t c = spelt_as (sym (hex-none _ _ c.if-k-eq0.true)) (nothing_yet _ (omega (arith, c.requires.fits)))

pub write_hex-requires : goal.write_hex-requires
write_hex-requires t c =
    let e = hex-step _ _ _ c.if-k-eq0.false c.digit_of-low.ensures in
    (omega arith, takes_first _ _ (takes_as e c.requires))

pub byte-requires : goal.byte-requires
byte-requires t c =
    let e = hex-step _ _ _ c.if-k-eq0.false c.digit_of-low.ensures in
    takes_next c.write_hex.ensures (takes_as e c.requires)

pub returns : goal.returns
returns t c =
    let e = hex-step _ _ _ c.if-k-eq0.false c.digit_of-low.ensures in
    spelt_as (sym e) (c.write_hex.ensures ▸ c.byte.ensures)
