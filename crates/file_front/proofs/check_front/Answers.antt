-- `file_front::check_front` meets its contract. Assumes nothing.
use mathlib.Core.Path.{◌≡◌, sym, ◌∙◌}
use mathlib.Core.Bool.{true, false}
use Rattle.formats.specs.Bytes.{whole}
use Rattle.formats.specs.Stream.{policy_fits_lem}
use Rattle.stored.specs.File.{head_mark}
use Rattle.stored.specs.Stored.{head_size}
use Rattle.config.specs.Params.{settings_are}
use Rattle.file_front.proofs.Takes.{head-axes}
use Rattle.file_front.proofs.Tested.{head-broken, head-inside, policy-broken, head-refused, points-decide, front_read}
use Rattle.file_front.proofs.check_front.Goals as goal

pub returns-then-not-record_at-clause-good : goal.returns-then-not-record_at-clause-good
returns-then-not-record_at-clause-good c = let bs = c.args.bytes.now in
    let stands : whole head_mark head_size bs ≡ false = sym c.record_at.ensures ∙ c.if-not-record_at.true in
    head-broken bs stands

pub returns-then-not-policy_fits-clause-good : goal.returns-then-not-policy_fits-clause-good
returns-then-not-policy_fits-clause-good c = let bs = c.args.bytes.now in
    let stands : whole head_mark head_size bs ≡ true = sym c.record_at.ensures ∙ c.if-not-record_at.false in
    let fits : policy_fits_lem bs ≡ false = sym c.policy_fits.ensures ∙ c.if-not-policy_fits.true in
    policy-broken bs stands fits

pub returns-then-not-head_passes-clause-good : goal.returns-then-not-head_passes-clause-good
returns-then-not-head_passes-clause-good c = let bs = c.args.bytes.now in
    let stands : whole head_mark head_size bs ≡ true = sym c.record_at.ensures ∙ c.if-not-record_at.false in
    let fits : policy_fits_lem bs ≡ true = sym c.policy_fits.ensures ∙ c.if-not-policy_fits.false in
    let settings = c.settings_of-settings in
    let n = c.number_at-n in
    let refused = sym c.head_passes.ensures ∙ c.if-not-head_passes.true in
    head-refused bs stands fits (settings_are settings.result) n.result settings.ensures n.ensures.0 refused

pub points_pass-requires : goal.points_pass-requires
points_pass-requires c = let bs = c.args.bytes.now in
    let stands : whole head_mark head_size bs ≡ true = sym c.record_at.ensures ∙ c.if-not-record_at.false in
    let axes = head-axes (settings_are c.settings_of-settings.result) c.number_at-n.result (sym c.head_passes.ensures ∙ c.if-not-head_passes.false) in
    (head-inside bs stands, axes.1, c.number_at-n.ensures.1)

pub row_place-next-requires : goal.row_place-next-requires
row_place-next-requires c =
    let axes = head-axes (settings_are c.settings_of-settings.result) c.number_at-n.result (sym c.head_passes.ensures ∙ c.if-not-head_passes.false) in
    (axes.1, c.number_at-n.ensures.1)

pub returns-then-not-points_pass-clause-good : goal.returns-then-not-points_pass-clause-good
returns-then-not-points_pass-clause-good c = let bs = c.args.bytes.now in
    let stands : whole head_mark head_size bs ≡ true = sym c.record_at.ensures ∙ c.if-not-record_at.false in
    let fits : policy_fits_lem bs ≡ true = sym c.policy_fits.ensures ∙ c.if-not-policy_fits.false in
    let settings = c.settings_of-settings in
    let n = c.number_at-n in
    let takes = sym c.head_passes.ensures ∙ c.if-not-head_passes.false in
    points-decide bs stands fits (settings_are settings.result) n.result settings.ensures n.ensures.0 takes false (sym c.if-not-points_pass.true ∙ c.points_pass.ensures)

pub returns : goal.returns
returns c = let bs = c.args.bytes.now in
    let stands : whole head_mark head_size bs ≡ true = sym c.record_at.ensures ∙ c.if-not-record_at.false in
    let fits : policy_fits_lem bs ≡ true = sym c.policy_fits.ensures ∙ c.if-not-policy_fits.false in
    let settings = c.settings_of-settings in
    let n = c.number_at-n in
    let takes = sym c.head_passes.ensures ∙ c.if-not-head_passes.false in
    let good = points-decide bs stands fits (settings_are settings.result) n.result settings.ensures n.ensures.0 takes true (sym c.if-not-points_pass.false ∙ c.points_pass.ensures) in
    record { good = good; read = front_read settings.result n.result c.row_place-next.result bs settings.ensures n.ensures.0 c.row_place-next.ensures good }
