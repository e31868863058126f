-- What is asked for, as the definition has it. Definitions only.
use Rattle.definition.specs.Outcome as outcome
use Rattle.leaf_rows.specs.declared.Which.{Which}
use Rattle.leaf_rows.specs.declared.Which.TheVariants.{Own, Borrowed}

abbrev pub which_of : Which → outcome.Which
which_of Own = outcome.own_rows
which_of Borrowed = outcome.borrowed_rows
