-- What an accepted call has: no refusal that it tries has its condition met. Assumes nothing.
-- Holds: passes, decides, pass, accepted-iff, both-accept, first-accepts, second-accepts, right-dimension, number-zero,
--   build-zero, Passed, passed, TreeEnough, LentEnough, tree-enough, lent-enough, whole-points, finite-at, all-good, Accepted,
--   build-accepted
use mathlib.Core.Path.{◌≡◌, refl, ◌∙◌}
use mathlib.Core.Logic.{◌↔◌}
use mathlib.Core.Bool.{Bool, true, false, not, ◌&&◌, cond}
use mathlib.Core.List.{List, [], ◌∷◌, ◌++◌}
use Prim.Native.Nat.{ℕ, suc, ◌+◌, ◌*◌, ◌/◌, ◌%◌, ◌^◌, ◌≤◌, ◌<◌}
use native.Mathlib.Omega.{arith}
use native.Mathlib.Nat.{mul-le-mul_right, suc-mul, div-mul-le_self, div-add-mod'}
use borrow.Author.Tests.{leb-true, ltb-false, eqb-true, eqb-false, not-false}
use lib.Dec.{leb, eqb}
use lib.ListN.{length, get_or}
use lib.Ieee.{Float, nan}
use lib.Ieee.Scale.{finite}
use Rattle.lists.specs.Lists.{from}
use Rattle.lists.specs.Ascends.{All}
use Rattle.lists.proofs.Tests.{clash, and-fst, and-snd, or-none}
use Rattle.lists.proofs.All.{all_append, all_left, all_right}
use Rattle.lists.proofs.Members.{none_any, mem-at}
use Rattle.lists.proofs.From.{from-mem}
use Rattle.lists.proofs.Ascends.{ascends-from, ascends-once}
use Rattle.lists.proofs.Times.{times-mem}
use Rattle.definition.specs.Levels.{Policy, auto, fixed, threshold}
use Rattle.definition.specs.Tree.{Settings, most_fine, point_count}
use Rattle.definition.specs.Packed.{TreeSizes, BuildSizes, build_stated}
use Rattle.definition.specs.Refusals.{Refusal, Test, Verdict, accepted, refused, verdict, most_points, most_neighbours, coordinates_missing, zero_threshold_lem, not_finite_lem, tree_short, build_short, build_tests, build_verdict, wrong_dimension_lem}
use Rattle.definition.specs.Outcome.{number_of}
use Rattle.definition.proofs.Cuts.{Good}

-- ---- tests
stop : (b : Bool) (r : Refusal) (v : Verdict) → cond b (refused r) v ≡ accepted → (b ≡ false) × (v ≡ accepted)
stop true r v e = let z : ◌≡◌ {A = ℕ} 0 1 = cc in absurd (omega arith)
stop false r v e = (refl, e)

pub passes : (t : Test) (ts : List Test) → verdict (t ∷ ts) ≡ accepted → (t.holds ≡ false) × (verdict ts ≡ accepted)
unfolding verdict
passes t ts e = stop t.holds t.refusal (verdict ts) e

-- a test whose condition is met decides, and one whose condition is not met is passed by
pub decides : (t : Test) (ts : List Test) → t.holds ≡ true → verdict (t ∷ ts) ≡ refused t.refusal
unfolding verdict
decides t ts e = rw e

pub pass : (t : Test) (ts : List Test) → t.holds ≡ false → verdict (t ∷ ts) ≡ verdict ts
unfolding verdict
pass t ts e = rw e

none : verdict [] ≡ accepted
unfolding verdict
none = refl

-- a call is accepted where no refusal that it tries has its condition met, and only there
pub accepted-iff : (ts : List Test) → (verdict ts ≡ accepted) ↔ All (λ (t : Test). t.holds ≡ false) ts
unfolding All
accepted-iff ts = (to ts, back ts)
  where
    to : (ts : List Test) → verdict ts ≡ accepted → All (λ (t : Test). t.holds ≡ false) ts
    to [] e = tt
    to (t ∷ ts) e = ((passes t ts e).0, to ts (passes t ts e).1)

    back : (ts : List Test) → All (λ (t : Test). t.holds ≡ false) ts → verdict ts ≡ accepted
    back [] h = none
    back (t ∷ ts) h = pass t ts h.0 ∙ back ts h.1

-- ---- two lists of tests
abbrev Fails : Test → Type 0
Fails t = t.holds ≡ false

module _ (xs ys : List Test) where
  pub both-accept : verdict xs ≡ accepted → verdict ys ≡ accepted → verdict (xs ++ ys) ≡ accepted
  both-accept e f = (accepted-iff (xs ++ ys)).1 (all_append Fails xs ys ((accepted-iff xs).0 e) ((accepted-iff ys).0 f))

  pub first-accepts : verdict (xs ++ ys) ≡ accepted → verdict xs ≡ accepted
  first-accepts e = (accepted-iff xs).1 (all_left Fails xs ys ((accepted-iff (xs ++ ys)).0 e))

  pub second-accepts : verdict (xs ++ ys) ≡ accepted → verdict ys ≡ accepted
  second-accepts e = (accepted-iff ys).1 (all_right Fails xs ys ((accepted-iff (xs ++ ys)).0 e))

-- a dimension that is not refused
pub right-dimension : (d : ℕ) → wrong_dimension_lem d ≡ false → (1 ≤ d) × (d ≤ 3)
right-dimension d e =
    let h = not-false (leb 1 d && leb d 3) e in
    (leb-true 1 d (and-fst (leb 1 d) (leb d 3) h), leb-true d 3 (and-snd (leb 1 d) (leb d 3) h))

-- a call whose answer has the number 0 is accepted, where no refusal has that number
pub number-zero : (ts : List Test) → All (λ (t : Test). 1 ≤ t.refusal.number) ts → number_of (verdict ts) ≡ 0 → verdict ts ≡ accepted
unfolding All verdict number_of
number-zero [] h e = refl
number-zero (t ∷ ts) h e = go t.holds (number-zero ts h.1) e
  where
    go : (b : Bool) → (number_of (verdict ts) ≡ 0 → verdict ts ≡ accepted) → number_of (cond b (refused t.refusal) (verdict ts)) ≡ 0
        → cond b (refused t.refusal) (verdict ts) ≡ accepted
    go true rest e = absurd (omega (arith, h.0))
    go false rest e = rest e

-- so it is with a build
pub build-zero : (s : Settings) (cs : List Float) (lent : BuildSizes) → number_of (build_verdict s cs lent) ≡ 0 → build_verdict s cs lent ≡ accepted
unfolding build_verdict build_tests All
build-zero s cs lent e =
    number-zero _
    (omega arith, (omega arith, (omega arith, (omega arith, (omega arith, (omega arith, (omega arith, (omega arith, (omega arith, (omega arith, (omega arith, tt)))))))))))
    e

-- ---- what a failed test says
and_none : (b c : Bool) → b && not c ≡ false → c ≡ false → b ≡ false
and_none true true e f = clash refl f
and_none true false e f = clash refl e
and_none false c e f = refl

not-zero : (n : ℕ) → eqb n 0 ≡ false → 1 ≤ n
not-zero n e = let h = eqb-false n 0 e in omega arith

threshold-some : (p : Policy) (n : ℕ) → zero_threshold_lem p ≡ false → 1 ≤ threshold p n
unfolding threshold
threshold-some auto n h = omega arith
threshold-some (fixed c) n h = not-zero c h

-- ---- a build over n rows whose tests all fail
pub record Passed (s : Settings) (n : ℕ) (missing lacking : Bool) (judged : Test) : Type 0 where
  pub axes : 1 ≤ s.dimension
  pub axes_few : s.dimension ≤ 3
  pub leaf_some : 1 ≤ s.leaf
  pub factor-two : 2 ≤ s.factor
  pub coarse-some : 1 ≤ threshold s.policy n
  pub neighbours_few : s.neighbours ≤ most_neighbours
  pub rows_some : 1 ≤ n
  pub rows_few : n ≤ most_points
  pub reaches : n ≤ threshold s.policy n * s.factor ^ most_fine
  pub none-missing : missing ≡ false
  pub none-short : lacking ≡ false
  pub judged-passes : judged.holds ≡ false

pub passed : (s : Settings) (n : ℕ) (missing lacking : Bool) (judged : Test) → verdict (build_tests s n missing lacking judged) ≡ accepted → Passed s n missing lacking judged
unfolding build_tests
passed s n missing lacking judged e =
    let t1 = passes _ _ e in
    let t2 = passes _ _ t1.1 in
    let t3 = passes _ _ t2.1 in
    let t4 = passes _ _ t3.1 in
    let t5 = passes _ _ t4.1 in
    let t6 = passes _ _ t5.1 in
    let t7 = passes _ _ t6.1 in
    let t8 = passes _ _ t7.1 in
    let t9 = passes _ _ t8.1 in
    let t11 = passes _ _ t9.1 in
    let t10 = passes _ _ t11.1 in
    let d = not-false (leb 1 s.dimension && leb s.dimension 3) t1.0 in
    record {
      axes = leb-true 1 s.dimension (and-fst (leb 1 s.dimension) (leb s.dimension 3) d);
      axes_few = leb-true s.dimension 3 (and-snd (leb 1 s.dimension) (leb s.dimension 3) d);
      leaf_some = not-zero s.leaf t2.0;
      factor-two = ltb-false s.factor 2 t3.0;
      coarse-some = threshold-some s.policy n t4.0;
      neighbours_few = ltb-false most_neighbours s.neighbours t5.0;
      rows_some = not-zero n (and_none (eqb n 0) missing t6.0 t7.0);
      rows_few = ltb-false most_points n t8.0;
      reaches = ltb-false (threshold s.policy n * s.factor ^ most_fine) n t9.0;
      none-missing = t7.0;
      none-short = t11.0;
      judged-passes = t10.0;
    }

-- ---- lists that are not shorter than stated
pub record TreeEnough (lent stated : TreeSizes) : Type 0 where
  pub level_points : stated.level_points ≤ lent.level_points
  pub internals : stated.internals ≤ lent.internals
  pub domains : stated.domains ≤ lent.domains
  pub boxes : stated.boxes ≤ lent.boxes
  pub borrowed : stated.borrowed ≤ lent.borrowed

pub record LentEnough (lent stated : BuildSizes) : Type 0 where
  pub tree : TreeEnough lent.tree stated.tree
  pub floats : stated.floats ≤ lent.floats
  pub wholes : stated.wholes ≤ lent.wholes
  pub cuts : stated.cuts ≤ lent.cuts
  pub planes : stated.planes ≤ lent.planes

pub tree-enough : (lent stated : TreeSizes) → tree_short lent stated ≡ false → TreeEnough lent stated
unfolding tree_short
tree-enough lent stated e =
    let borrowed-fail = or-none _ _ e in
    let boxes-fail = or-none _ _ borrowed-fail.0 in
    let domains-fail = or-none _ _ boxes-fail.0 in
    let internals-fail = or-none _ _ domains-fail.0 in
    record {
      level_points = ltb-false lent.level_points stated.level_points internals-fail.0;
      internals = ltb-false lent.internals stated.internals internals-fail.1;
      domains = ltb-false lent.domains stated.domains domains-fail.1;
      boxes = ltb-false lent.boxes stated.boxes boxes-fail.1;
      borrowed = ltb-false lent.borrowed stated.borrowed borrowed-fail.1;
    }

pub lent-enough : (lent stated : BuildSizes) → build_short lent stated ≡ false → LentEnough lent stated
unfolding build_short
lent-enough lent stated e =
    let planes-fail = or-none _ _ e in
    let cuts-fail = or-none _ _ planes-fail.0 in
    let wholes-fail = or-none _ _ cuts-fail.0 in
    let floats-fail = or-none _ _ wholes-fail.0 in
    record {
      tree = tree-enough lent.tree stated.tree floats-fail.0;
      floats = ltb-false lent.floats stated.floats floats-fail.1;
      wholes = ltb-false lent.wholes stated.wholes wholes-fail.1;
      cuts = ltb-false lent.cuts stated.cuts cuts-fail.1;
      planes = ltb-false lent.planes stated.planes planes-fail.1;
    }

-- ---- coordinates
pub whole-points : (d : ℕ) (cs : List Float) → coordinates_missing d cs ≡ false → length cs ≡ point_count d cs * d
whole-points d cs h = let z = eqb-true (length cs % d) 0 (not-false (eqb (length cs % d) 0) h) in omega (arith, div-add-mod' (length cs) d)

pub finite-at : (cs : List Float) → (not_finite_lem cs).holds ≡ false → (i : ℕ) → i < length cs → finite (get_or cs i nan) ≡ true
finite-at cs h i l = not-false (finite (get_or cs i nan)) (none_any (λ x. not (finite x)) cs h (mem-at cs i nan l))

-- all points of a list of finite coordinates
pub all-good : (d : ℕ) (cs : List Float) → ((i : ℕ) → i < length cs → finite (get_or cs i nan) ≡ true) → Good d cs (from 0 (point_count d cs))
all-good d cs f = record {
  once = ascends-once (from 0 (length cs / d)) (ascends-from 0 (length cs / d));
  finite-at = λ r m a l. f (r * d + a) (within r a (from-mem 0 (length cs / d) (times-mem (from 0 (length cs / d)) r m)).1 l);
}
  where
    within : (r a : ℕ) → r < 0 + length cs / d → a < d → r * d + a < length cs
    within r a k l =
        let n = length cs / d in
        let q : suc r ≤ n = omega arith in
        let m : suc r * d ≤ n * d = mul-le-mul_right d q in
        omega (arith, suc-mul r d, div-mul-le_self (length cs) d)

-- ---- an accepted build over all points
pub record Accepted (s : Settings) (cs : List Float) (lent : BuildSizes) : Type 0 where
  pub passes-all : Passed s (point_count s.dimension cs) (coordinates_missing s.dimension cs)
      (build_short lent (build_stated s.dimension (point_count s.dimension cs) s.neighbours)) (not_finite_lem cs)
  pub whole : length cs ≡ point_count s.dimension cs * s.dimension
  pub finite-all : (i : ℕ) → i < length cs → finite (get_or cs i nan) ≡ true
  pub good : Good s.dimension cs (from 0 (point_count s.dimension cs))
  pub enough : LentEnough lent (build_stated s.dimension (point_count s.dimension cs) s.neighbours)

pub build-accepted : (s : Settings) (cs : List Float) (lent : BuildSizes) → build_verdict s cs lent ≡ accepted → Accepted s cs lent
unfolding build_verdict
build-accepted s cs lent e =
    let d = s.dimension in
    let n = point_count d cs in
    let stated = build_stated d n s.neighbours in
    let p = passed s n (coordinates_missing d cs) (build_short lent stated) (not_finite_lem cs) e in
    let f = finite-at cs p.judged-passes in
    record {
      passes-all = p;
      whole = whole-points d cs p.none-missing;
      finite-all = f;
      good = all-good d cs f;
      enough = lent-enough lent stated p.none-short;
    }
