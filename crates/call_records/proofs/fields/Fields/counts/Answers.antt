-- `call_records::Fields::counts` meets its contract. Assumes nothing.
use Rattle.formats.specs.Bytes.{numbers_at}
use Rattle.lists.specs.Lists.{from}
use Rattle.call_records.proofs.Widths.{read-on}
use Rattle.call_records.proofs.fields.Fields.counts.Goals as goal

pub returns : goal.returns
unfolding numbers_at from
returns c =
    let bs = c.args.self.now.rest.now in
    let (room, first, rest) = c.in_ok-number.ensures.number in
    let (room-2, second, rest-2) = read-on 4 4 bs _ _ _ room rest c.in_ok-number-2.ensures.number in
    let (room-3, third, rest-3) = read-on 4 8 bs _ _ _ room-2 rest-2 c.in_ok-number-3.ensures.number in
    let (room-4, fourth, rest-4) = read-on 4 12 bs _ _ _ room-3 rest-3 c.in_ok-number-4.ensures.number in
    (room-4, rw (first, second, third, fourth), rest-4)
