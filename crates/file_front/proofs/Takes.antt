-- What the build takes, group by group: the settings, the count of the points, and their coordinates. Assumes nothing.
-- Holds: ok-taken, head_is, head-axes, buildable-is
use Rattle.std.specs.Prelude.{Result, Ok, Err, is_ok, OnOk}
use mathlib.Core.Path.{◌≡◌, refl, sym, ap, ap₂, ◌∙◌}
use mathlib.Core.Bool.{Bool, true, false, not, ◌&&◌, cond}
use Prim.Native.Nat.{ℕ, ◌*◌, ◌/◌, ◌%◌, ◌≤◌}
use native.Mathlib.Nat.{mul-mod_left, mul-div_cancel}
use mathlib.Core.List.{List, [], ◌∷◌, ◌++◌}
use lib.Dec.{eqb}
use borrow.Author.Tests.{eq-eqb}
use lib.Ieee.{Float}
use lib.Ieee.Scale.{finite}
use Rattle.lists.specs.Lists.{any_of}
use Rattle.lists.proofs.Tests.{clash, and-fst}
use Rattle.definition.specs.Tree.{Settings, point_count}
use Rattle.definition.specs.Refusals.{Test, Verdict, accepted, refused, on, verdict, not_finite_lem, settings_tests, points_tests, build_tests}
use Rattle.definition_laws.proofs.Accepted.{passes, right-dimension}
use Rattle.refusal.specs.declared.Refusal.{Refusal}
use Rattle.refusal.specs.Refusals.{verdict_of}
use Rattle.build_checks.proofs.Laws.{and_then, verdict-append}
use Rattle.stored.specs.Stored.{taken, buildable}
use Rattle.stored_laws.proofs.ReadBack.{taken_is}
use Rattle.file_front.specs.Fronts.{head_taken}

-- ---- verdicts that are taken
taken_then : (v w : Verdict) → taken (and_then v w) ≡ taken v && taken w
unfolding taken
taken_then accepted w = refl
taken_then (refused r) w = refl

taken-one : (t : Test) → taken (verdict (t ∷ [])) ≡ not t.holds
unfolding taken verdict
taken-one t = go t.holds
  where
    go : (b : Bool) → taken (cond b (refused t.refusal) accepted) ≡ not b
    go true = refl
    go false = refl

-- tests that follow one another
taken-append : (ts us : List Test) → taken (verdict (ts ++ us)) ≡ taken (verdict ts) && taken (verdict us)
taken-append ts us = ap taken (verdict-append ts us) ∙ taken_then (verdict ts) (verdict us)

-- a verdict that an answer stands for
pub ok-taken : {A : Type 0} (r : Result A Refusal) (v : Verdict) → verdict_of r ≡ v → is_ok r ≡ taken v
unfolding taken
ok-taken (Ok x) v e = ap taken e
ok-taken (Err x) v e = ap taken e

-- ---- settings and count
module _ {A : Type 0} (s : Settings) (n : ℕ) where
  pub head_is : (r : Result A Refusal) → verdict_of r ≡ verdict (settings_tests s ++ points_tests s n false) → is_ok r ≡ head_taken s n
  unfolding head_taken
  head_is r e = ok-taken r (verdict (settings_tests s ++ points_tests s n false)) e ∙ taken-append (settings_tests s) (points_tests s n false)

axes-taken : (s : Settings) → verdict (settings_tests s) ≡ accepted → (1 ≤ s.dimension) × (s.dimension ≤ 3)
axes-taken s e = right-dimension s.dimension (passes _ _ e).0

pub head-axes : (s : Settings) (n : ℕ) → head_taken s n ≡ true → (1 ≤ s.dimension) × (s.dimension ≤ 3)
unfolding head_taken
head-axes s n h =
    let v = verdict (settings_tests s) in
    axes-taken s (taken_is v (and-fst (taken v) (taken (verdict (points_tests s n false))) h))

-- ---- the whole of it

last_taken : (cs : List Float) → taken (verdict (on false 11 ∷ not_finite_lem cs ∷ [])) ≡ not (any_of (λ x. not (finite x)) cs)
unfolding verdict
last_taken cs = taken-one (not_finite_lem cs)

pub buildable-is : (s : Settings) (cs : List Float) (n : ℕ) → (1 ≤ s.dimension → point_count s.dimension cs ≡ n) → buildable s cs ≡ head_taken s n && not (any_of (λ x. not (finite x)) cs)
unfolding buildable build_tests head_taken taken
buildable-is s cs n h =
    taken-append (settings_tests s ++ points_tests s m false) (on false 11 ∷ not_finite_lem cs ∷ [])
    ∙ ap₂ ◌&&◌ (taken-append (settings_tests s) (points_tests s m false) ∙ go (verdict (settings_tests s)) refl) (last_taken cs)
  where
    m : ℕ
    m = point_count s.dimension cs

    go : (v : Verdict) → verdict (settings_tests s) ≡ v → taken v && taken (verdict (points_tests s m false)) ≡ taken v && taken (verdict (points_tests s n false))
    go accepted e = ap (λ (k : ℕ). taken accepted && taken (verdict (points_tests s k false))) (h (axes-taken s e).0)
    go (refused r) e = refl
