-- The outcome of an accepted call of `get_domain_coarse_quotas`: answer, output and working room. Assumes nothing.
use Prim.Native.Nat.{ℕ, ◌≤◌}
use mathlib.Core.Path.{◌≡◌, ap, ◌∙◌}
use mathlib.Core.List.{List}
use lib.ListN.{length}
use borrow.Author.Tests.{le-ltb}
use Rattle.lists.specs.Lists.{total}
use Rattle.definition.specs.Quotas.{held_seats, quotas, quotas_for}
use Rattle.definition.specs.Packed.{quota_stated}
use Rattle.definition.specs.Refusals.{accepted, verdict, most_points, quota_short, quota_verdict}
use Rattle.definition.specs.Outcome.{Answer, Shared, number_of, place_of, value_of, written, list_after, RoomAfter, quota_call, quota_answer, quota_output}
use Rattle.std.specs.Prelude.{Ok}
use Rattle.quotas.specs.Answers.{quota_report_lem}
use Rattle.quotas.specs.Outcome.{SeatsShared}

-- the outcome, by what the call answers and leaves
abbrev pub Outcome : List ℕ → ℕ → List ℕ → List ℕ → Answer Shared → List ℕ → List ℕ → Type 0
Outcome sizes s out wholes answer out' wholes' = SeatsShared sizes s out out' wholes wholes' answer

module _ (sizes : List ℕ) (s : ℕ) (out wholes : List ℕ) where
  passed : total sizes ≤ most_points → length sizes ≤ length out → length sizes ≤ length wholes → quota_call sizes out wholes ≡ accepted
  unfolding quota_verdict verdict quota_short quota_stated
  passed h l m = simp (le-ltb _ _ h, le-ltb _ _ l, le-ltb _ _ m)

  -- an accepted call: the quotas stand at the front of the output
  pub seated : (n t : ℕ) (out' wholes' : List ℕ) → total sizes ≤ most_points → length sizes ≤ length out → length sizes ≤ length wholes
      → n ≡ length sizes → t ≡ held_seats sizes s → out' ≡ written (quotas_for sizes t) out → length wholes' ≡ length wholes
      → Outcome sizes s out wholes (quota_report_lem (Ok (record { leaves = n; seats = t }))) out' wholes'
  unfolding quota_answer quota_output number_of place_of value_of list_after RoomAfter quotas
  seated n t out' wholes' h l m en et eo er =
      let e = passed h l m in
      record {
        answers = simp (e, en, et);
        output = simp e (eo ∙ ap (λ (x : ℕ). written (quotas_for sizes x) out) et);
        wholes_free = simp e er;
      }
