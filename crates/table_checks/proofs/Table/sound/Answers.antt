-- `table_checks::Table::sound` meets its contract. Assumes nothing.
use native.Mathlib.Omega.{arith}
use Rattle.table_checks.specs.Tables.{head_in}
use Rattle.table_checks.proofs.Heads.{unsound-high, unsound-live, sound-live, next-is}
use Rattle.table_checks.proofs.Table.sound.Goals as goal

pub returns-then-capacity-self : goal.returns-then-capacity-self
returns-then-capacity-self c = let a = c.args in
    unsound-high (head_in a.self.head) a.self.flags.now (omega (arith, c.if-capacity-self.true, c.capacity.ensures))

pub returns-then-self-found : goal.returns-then-self-found
returns-then-self-found c = let a = c.args in
    unsound-live (head_in a.self.head) a.self.flags.now (omega (arith, c.if-capacity-self.false, c.capacity.ensures)) _ c.survey-found.ensures.live c.if-self-found.true

pub returns : goal.returns
returns c = let a = c.args in
    let h = head_in a.self.head in
    let found = c.survey-found.ensures in
    (sound-live h a.self.flags.now (omega (arith, c.if-capacity-self.false, c.capacity.ensures)) _ found.live c.if-self-found.false, next-is h a.self.flags.now _ found.next)
