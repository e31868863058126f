-- `Writer::fields` meets its contract. Assumes nothing.
use Rattle.bytes_out.proofs.Each.{each_none, each_all, each_room}
use Rattle.lists.proofs.Joined.{joined-map-more}
use Rattle.bytes_out.proofs.Writing.{spelt_as, takes_as, takes_next, nothing_yet, ◌▸◌}
use mathlib.Core.Path.{sym, ap}
use native.Mathlib.Omega.{arith}
use Rattle.bytes_out.proofs.writer.Writer.fields.Goals as goal

pub loop-x-init : goal.loop-x-init
loop-x-init g c = spelt_as (sym (each_none g.T.Field.bytes c.args.xs.now)) (nothing_yet _ (omega (arith, c.requires.fits)))

pub append-requires : goal.append-requires
append-requires g c =
    let f = g.T.Field.bytes in
    takes_as (ap f (sym c.x-item.is)) (takes_next c.loop-x.invariant (each_room f c.args.xs.now c.loop-x.x-index c.x-item.result c.loop-x-test.true c.requires))

pub loop-x-preserved : goal.loop-x-preserved
loop-x-preserved g c =
    let f = g.T.Field.bytes in
    spelt_as (sym (joined-map-more f c.args.xs.now c.loop-x.x-index c.x-item.result c.loop-x-test.true)) (c.loop-x.invariant ▸ spelt_as (ap f c.x-item.is) c.append.ensures)

pub returns : goal.returns
returns g c = spelt_as (each_all g.T.Field.bytes _ _ c.loop-x-test.false) c.loop-x.invariant
