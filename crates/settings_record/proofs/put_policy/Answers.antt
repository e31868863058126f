-- `settings_record::put_policy` meets its contract. Assumes nothing.
use mathlib.Core.Path.{◌≡◌, refl, sym}
use mathlib.Core.List.{◌++◌}
use Rattle.config.specs.Params.{threshold_policy}
use Rattle.formats.specs.Bytes.{bytes_of, number_bytes}
use Rattle.formats.specs.Stream.{policy_bytes}
use Rattle.bytes_out.proofs.Writing.{spelt_as, ◌▸◌}
use Rattle.settings_record.proofs.put_policy.Goals as goal
use Rattle.settings_record.proofs.put_policy.Goals.{in-Auto, in-Fixed}

pub returns : goal.returns
returns c =
    let fields = c.match-policy.kind in
    let e : policy_bytes (threshold_policy c.args.policy) ≡ bytes_of 1 fields.0 ++ number_bytes fields.1 = elim c.match-policy.branch [
      | in-Auto w ↦ rw (w.in-Auto.is, w.kind-is) refl
      | in-Fixed w ↦ rw (w.in-Fixed.is, w.kind-is) refl
    ] in
    spelt_as (sym e) (c.low_byte.ensures ▸ c.field.ensures)
