-- `load_lists::put_row_floats` meets its contract. Assumes nothing.
use native.Mathlib.Omega.{arith}
use borrow.Author.Rules.{rules}
use Rattle.bytes_in.proofs.Fields.{lent_many, floats-back}
use Rattle.load_lists.proofs.Domain.{all_read, cover-read}
use Rattle.load_lists.proofs.put_row_floats.Goals as goal

pub read_fields-requires : goal.read_fields-requires
read_fields-requires c =
    let inside = rw c.if-coarse.true at c.requires.1 in
    omega (arith, inside, lent_many c.put_zeros.new.boxes c.box_width-width.result 1 (search rules))

pub read_fields-requires-else-coarse : goal.read_fields-requires-else-coarse
read_fields-requires-else-coarse c =
    let inside = rw c.if-coarse.false at c.requires.1 in
    omega (arith, inside, c.requires.2)

pub returns-then-coarse : goal.returns-then-coarse
returns-then-coarse c = let a = c.args in
    cover-read a.dimensions a.coarse a.at a.bytes.now a.row.now _ c.requires.2 _ _ c.if-coarse.true c.box_width-width.ensures c.put_zeros.ensures
    (floats-back _ 1 _ _ c.put_zeros.new.boxes (search rules) c.read_fields.ensures)

pub returns-else-coarse : goal.returns-else-coarse
returns-else-coarse c = let a = c.args in
    all_read a.dimensions a.coarse a.at a.bytes.now a.row.now _ c.requires.2 c.if-coarse.false c.read_fields-else-coarse.ensures
