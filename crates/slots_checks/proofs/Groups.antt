-- The tests of a build over slots, group by group. Assumes nothing.
-- Holds: slot-inside, is-sound, is-unsound, refused-27, refused-9, refused-11, judged-last
use mathlib.Core.Path.{◌≡◌, sym, ◌∙◌}
use mathlib.Core.Bool.{Bool, true, false, ◌||◌}
use mathlib.Core.List.{[], ◌∷◌, ◌++◌}
use Prim.Native.Nat.{ℕ, suc, ◌+◌, ◌*◌, ◌≤◌, ◌<◌}
use native.Mathlib.Omega.{arith}
use native.Mathlib.Nat.{mul-le-mul_right, suc-mul}
use Rattle.std.specs.Prelude.{Ok, Err, Option, Some, None, MatchOption}
use Rattle.std.specs.Option.{ok_or}
use Rattle.lists.specs.Lists.{keep, from}
use Rattle.definition.specs.Tree.{Settings}
use Rattle.definition.specs.Packed.{BuildSizes, build_stated}
use Rattle.definition.specs.Refusals.{Refusal, accepted, refused, on, verdict, settings_tests, points_tests, build_short}
use Rattle.definition.specs.Table.{Table, flagged, live_slots_lem, next_slot, unsound, coordinates_short}
use Rattle.definition.specs.Slots.{rows_not_finite, rows_of, slots_verdict}
use Rattle.definition_laws.proofs.Accepted.{decides, pass}
use Rattle.build_checks.proofs.Laws.{tests-stop, tests-pass}

-- the coordinates of slot i stand before those of slot n
pub slot-inside : (i n d : ℕ) → i < n → i * d + d ≤ n * d
slot-inside i n d h = let s : suc i ≤ n = omega arith in omega (arith, mul-le-mul_right d s, suc-mul i d)

-- ---- the test of the head, and what is refused where it fails
module _ {R : Type 0} (t : Table) (o : Option ℕ) (r : R)
    (tested : MatchOption o (unsound t.head t.flags ≡ true) (λ next. (unsound t.head t.flags ≡ false) × (next ≡ next_slot t.head t.flags))) where
  pub is-sound : (next : ℕ) → ok_or o r ≡ Ok next → unsound t.head t.flags ≡ false
  is-sound next e = go o e tested
    where
      go : (o : Option ℕ) → ok_or o r ≡ Ok next → MatchOption o (unsound t.head t.flags ≡ true) (λ next. (unsound t.head t.flags ≡ false) × (next ≡ next_slot t.head t.flags)) → unsound t.head t.flags ≡ false
      go None e h = let z : ◌≡◌ {A = ℕ} 0 1 = cc in absurd (omega arith)
      go (Some m) e h = h.0

  pub is-unsound : (x : R) → ok_or o r ≡ Err x → (unsound t.head t.flags ≡ true) × (x ≡ r)
  is-unsound x e = go o e tested
    where
      go : (o : Option ℕ) → ok_or o r ≡ Err x → MatchOption o (unsound t.head t.flags ≡ true) (λ next. (unsound t.head t.flags ≡ false) × (next ≡ next_slot t.head t.flags)) → (unsound t.head t.flags ≡ true) × (x ≡ r)
      go None e h = let z : x ≡ r = cc in (h, z)
      go (Some m) e h = let z : ◌≡◌ {A = ℕ} 0 1 = cc in absurd (omega arith)

-- ---- the whole verdict
module _ (s : Settings) (t : Table) (lent : BuildSizes) where
  abbrev lacking : Bool
  lacking = build_short lent (build_stated s.dimension t.head.live s.neighbours) || coordinates_short s.dimension t

  pub refused-27 : unsound t.head t.flags ≡ true → refused (record { number = 27; place = 0 }) ≡ slots_verdict s t lent
  unfolding slots_verdict
  refused-27 e = sym (decides (on (unsound t.head t.flags) 27) _ e)

  module _ (sound : unsound t.head t.flags ≡ false) where
    pub refused-9 : (r : Refusal) → refused r ≡ verdict (settings_tests s ++ points_tests s t.head.live false) → refused r ≡ slots_verdict s t lent
    unfolding slots_verdict
    refused-9 r e = tests-stop s t.head.live false _ _ r e ∙ sym (pass (on (unsound t.head t.flags) 27) _ sound)

    module _ (e : accepted ≡ verdict (settings_tests s ++ points_tests s t.head.live false)) where
      last-two : slots_verdict s t lent ≡ verdict (on lacking 11 ∷ rows_not_finite s.dimension t.coordinates (rows_of t) ∷ [])
      unfolding slots_verdict
      last-two = pass (on (unsound t.head t.flags) 27) _ sound ∙ sym (tests-pass s t.head.live false _ _ e)

      pub refused-11 : lacking ≡ true → refused (record { number = 11; place = 0 }) ≡ slots_verdict s t lent
      refused-11 l = sym (last-two ∙ decides (on lacking 11) _ l)

      pub judged-last : lacking ≡ false → verdict (rows_not_finite s.dimension t.coordinates (keep (flagged t.flags) (from 0 t.head.slots)) ∷ []) ≡ slots_verdict s t lent
      unfolding live_slots_lem
      judged-last l = sym (last-two ∙ pass (on lacking 11) _ l)
