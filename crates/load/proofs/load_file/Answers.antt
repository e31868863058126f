-- `load::load_file` meets its contract: each way out has its law. Assumes nothing.
use mathlib.Core.Path.{◌≡◌, refl, sym, ap, ◌∙◌}
use mathlib.Core.Bool.{true, false}
use Prim.Native.Nat.{ℕ}
use Rattle.std.proofs.lemmas.Result.{err_from_is_err_and}
use Rattle.definition.specs.Packed.{Counts}
use Rattle.definition.specs.Outcome.{zero_counts}
use Rattle.refusal.specs.Refusals.{answer_of}
use Rattle.stored.specs.Stored.{well_formed}
use Rattle.stored.specs.Outcome.{same_settings_lem, same_points_lem}
use Rattle.config.specs.Params.{settings_of_lem}
use Rattle.tree_lists.specs.Lent.{lists_in}
use Rattle.load.proofs.SameFile.{front-stands, settings-inside, taken-with, its-dimension, levels-here, can-hold-it}
use Rattle.load.proofs.Outcomes.{loaded-refused, refused-20, refused-18, refused-19, loaded-accepted}
use Rattle.load.proofs.load_file.Goals as goal

pub returns-in_err-place-clause-loaded : goal.returns-in_err-place-clause-loaded
returns-in_err-place-clause-loaded c = let start = c in
    let s = settings_of_lem start.args.points.dimensions start.args.params in
    let cs = start.args.points.coordinates.now in
    let bs = start.args.bytes.now in
    let old = lists_in start.args.lists.now in
    let none = c.in_err-place.ensures.ok_part in
    let bad = rw none at c.check_file.ensures.good in
    let number = ap (answer_of (λ (n : ℕ). zero_counts) zero_counts) (rw none at c.in_err-place.ensures.value) in
    let p = err_from_is_err_and c.from_residual.result c.from_residual.ensures.1 in
    rw (p.1, p.2) (loaded-refused s cs bs old _ (refused-20 s cs bs old start.requires (sym bad)) number)

pub same_settings-requires : goal.same_settings-requires
same_settings-requires c = settings-inside c.args.bytes.now (sym (rw c.in_ok-place.ensures.ok_part at c.check_file.ensures.good))

pub returns-then-not-same_settings-clause-loaded : goal.returns-then-not-same_settings-clause-loaded
returns-then-not-same_settings-clause-loaded c = let start = c in
    let s = settings_of_lem start.args.points.dimensions start.args.params in
    let cs = start.args.points.coordinates.now in
    let bs = start.args.bytes.now in
    let old = lists_in start.args.lists.now in
    let well : well_formed bs ≡ true = sym (rw c.in_ok-place.ensures.ok_part at c.check_file.ensures.good) in
    let out : same_settings_lem s bs ≡ false = sym c.same_settings.ensures ∙ c.if-not-same_settings.true in
    loaded-refused s cs bs old _ (refused-18 s cs bs old start.requires well out) refl

pub same_points-requires : goal.same_points-requires
same_points-requires c = let start = c in
    let s = settings_of_lem start.args.points.dimensions start.args.params in
    let cs = start.args.points.coordinates.now in
    let bs = start.args.bytes.now in
    let old = lists_in start.args.lists.now in
    let well : well_formed bs ≡ true = sym (rw c.in_ok-place.ensures.ok_part at c.check_file.ensures.good) in
    let settings : same_settings_lem s bs ≡ true = sym c.same_settings.ensures ∙ c.if-not-same_settings.false in
    let has = taken-with s cs old start.requires in
    (front-stands bs well, its-dimension s cs old start.requires bs well settings, has.axes, has.axes_few, has.rows_few)

pub returns-then-not-same_points-clause-loaded : goal.returns-then-not-same_points-clause-loaded
returns-then-not-same_points-clause-loaded c = let start = c in
    let s = settings_of_lem start.args.points.dimensions start.args.params in
    let cs = start.args.points.coordinates.now in
    let bs = start.args.bytes.now in
    let old = lists_in start.args.lists.now in
    let well : well_formed bs ≡ true = sym (rw c.in_ok-place.ensures.ok_part at c.check_file.ensures.good) in
    let settings : same_settings_lem s bs ≡ true = sym c.same_settings.ensures ∙ c.if-not-same_settings.false in
    let out : same_points_lem s cs bs ≡ false = sym (c.same_points.ensures s refl settings) ∙ c.if-not-same_points.true in
    loaded-refused s cs bs old _ (refused-19 s cs bs old start.requires well settings out) refl

pub put_levels-requires : goal.put_levels-requires
put_levels-requires c = let start = c in
    let s = settings_of_lem start.args.points.dimensions start.args.params in
    let cs = start.args.points.coordinates.now in
    let bs = start.args.bytes.now in
    let old = lists_in start.args.lists.now in
    let well : well_formed bs ≡ true = sym (rw c.in_ok-place.ensures.ok_part at c.check_file.ensures.good) in
    let settings : same_settings_lem s bs ≡ true = sym c.same_settings.ensures ∙ c.if-not-same_settings.false in
    let points : same_points_lem s cs bs ≡ true = sym (c.same_points.ensures s refl settings) ∙ c.if-not-same_points.false in
    let place = rw c.in_ok-place.ensures.ok_part at c.check_file.ensures.place in
    record {
      dimensions_bound = ((taken-with s cs old start.requires).axes_few, levels-here s cs old start.requires bs well settings points c.in_ok-place.place place);
      can_hold = can-hold-it s cs old start.requires bs well settings points c.in_ok-place.place place;
    }

pub returns-clause-loaded : goal.returns-clause-loaded
returns-clause-loaded c = let start = c in
    let s = settings_of_lem start.args.points.dimensions start.args.params in
    let cs = start.args.points.coordinates.now in
    let bs = start.args.bytes.now in
    let old = lists_in start.args.lists.now in
    let well : well_formed bs ≡ true = sym (rw c.in_ok-place.ensures.ok_part at c.check_file.ensures.good) in
    let settings : same_settings_lem s bs ≡ true = sym c.same_settings.ensures ∙ c.if-not-same_settings.false in
    let points : same_points_lem s cs bs ≡ true = sym (c.same_points.ensures s refl settings) ∙ c.if-not-same_points.false in
    let place = rw c.in_ok-place.ensures.ok_part at c.check_file.ensures.place in
    let w = c.put_levels.ensures in
    loaded-accepted s cs bs old start.requires well settings points c.in_ok-place.place place (ap (λ (n : Counts). record { number = 0; place = 0; value = n }) w.counts) w.level_points w.internals w.domains w.boxes w.borrowed
