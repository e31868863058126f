-- The refusals of a sampling, and what holds where it is accepted. Assumes nothing.
-- Holds: SampleAccepted, call-accepted, rows-numbered, call-ready, call-written, call-covered, call-refused, call-sampled
use mathlib.Core.Path.{◌≡◌, refl, sym, ap, ap₂, ◌∙◌}
use mathlib.Core.Bool.{true, not, ◌||◌}
use mathlib.Core.List.{List, ◌++◌}
use Prim.Native.Nat.{ℕ, zero, suc, ◌*◌, ◌/◌, ◌≤◌, ◌<◌}
use native.Mathlib.Nat.{zero-add, div-mul-le_self}
use native.Mathlib.Omega.{arith}
use borrow.Author.Tests.{ltb-false, leb-false, eqb-false, not-false}
use lib.Dec.{ltb, leb, eqb}
use lib.ListN.{length, get_or, take, drop}
use lib.Seq.{take_at}
use lib.Ieee.{Float, nan}
use lib.Ieee.Scale.{finite}
use Rattle.lists.specs.Lists.{from, put}
use Rattle.lists.specs.Ascends.{All}
use Rattle.lists.proofs.All.{all-of, all-at}
use Rattle.lists.proofs.From.{length_from, get_d-from}
use Rattle.lists.proofs.Put.{put-zero}
use Rattle.lists.proofs.Members.{none_any}
use Rattle.lists.proofs.Tests.{or-none}
use Rattle.definition.specs.Packed.{sample_stated}
use Rattle.definition.specs.Refusals.{on, accepted, refused, wrong_dimension_lem, coordinates_missing, not_finite_lem, most_points, sample_short, sample_verdict}
use Rattle.definition.specs.Sampling.{sample, cover_of}
use Rattle.definition.specs.Outcome.{number_of, place_of, value_of, written, list_after, RoomAfter, sample_call, sample_of, sample_cover_lem, sample_answer, sample_output}
use Rattle.rows.specs.Rows.{GoodRows}
use Rattle.rows.proofs.AllRows.{all-rows-good}
use Rattle.definition_laws.proofs.Accepted.{passes, right-dimension}
use Rattle.std.specs.Prelude.{Ok, Err}
use Rattle.refusal.specs.declared.Refusal.{Refusal}
use Rattle.refusal.specs.Refusals.{as_refusal}
use Rattle.sampling.specs.Answers.{sample_lent, sample_report_lem}
use Rattle.sampling.specs.Outcome.{RowsSampled}

-- ---- an accepted call
above_zero : (n : ℕ) → (n ≡ 0 → ⊥) → 0 < n
above_zero zero h = absurd (h refl)
above_zero (suc n) h = omega arith

pub record SampleAccepted (d : ℕ) (cs : List Float) (wanted seed o f w : ℕ) : Type 0 where
  pub axes : (1 ≤ d) × (d ≤ 3)
  pub few : length cs / d ≤ most_points
  pub some-wanted : 0 < wanted
  pub wanted-in : wanted ≤ length cs / d
  pub seed-in : seed < length cs / d
  pub output : wanted ≤ o
  pub floats : 2 * (length cs / d) ≤ f
  pub wholes : length cs / d ≤ w
  pub finites : All (λ x. finite x ≡ true) cs

pub call-accepted : (d : ℕ) (cs : List Float) (wanted seed o f w : ℕ) → sample_verdict d cs wanted seed (sample_lent o f w) ≡ accepted → SampleAccepted d cs wanted seed o f w
unfolding sample_verdict sample_short sample_stated
call-accepted d cs wanted seed o f w e =
    let n = length cs / d in
    let p1 = passes (on (wrong_dimension_lem d) 1) _ e in
    let p2 = passes (on (eqb (length cs) 0) 6) _ p1.1 in
    let p3 = passes (on (coordinates_missing d cs) 7) _ p2.1 in
    let p4 = passes (on (ltb most_points n) 8) _ p3.1 in
    let p5 = passes (on (eqb wanted 0 || ltb n wanted || leb n seed) 13) _ p4.1 in
    let p6 = passes (on (ltb o wanted || ltb f (2 * n) || ltb w n) 11) _ p5.1 in
    let p7 = passes (not_finite_lem cs) _ p6.1 in
    let a = or-none (eqb wanted 0 || ltb n wanted) (leb n seed) p5.0 in
    let b = or-none (eqb wanted 0) (ltb n wanted) a.0 in
    let s = or-none (ltb o wanted || ltb f (2 * n)) (ltb w n) p6.0 in
    let t = or-none (ltb o wanted) (ltb f (2 * n)) s.0 in
    record {
      axes = right-dimension d p1.0;
      few = ltb-false most_points n p4.0;
      some-wanted = above_zero wanted (eqb-false wanted 0 b.0);
      wanted-in = ltb-false n wanted b.1;
      seed-in = leb-false n seed a.1;
      output = ltb-false o wanted t.0;
      floats = ltb-false f (2 * n) t.1;
      wholes = ltb-false w n s.1;
      finites = all-of (λ x. finite x ≡ true) cs (λ x m. not-false (finite x) (none_any (λ x. not (finite x)) cs p7.0 m));
    }

-- ---- all rows of the point list

-- their numbers stand at the front of the list that they were written to
pub rows-numbered : (n : ℕ) (w l : List ℕ) → l ≡ put w 0 (from 0 n) → take n l ≡ from 0 n
rows-numbered n w l e = ap (take n) (e ∙ put-zero w (from 0 n)) ∙ take_at (from 0 n) (drop (length (from 0 n)) w) n (length_from 0 n)

module _ (d : ℕ) (cs : List Float) (wanted seed o f w : ℕ) (a : SampleAccepted d cs wanted seed o f w) (rows : List ℕ) (r : rows ≡ from 0 (length cs / d)) where
  -- what the sampling of a list of rows asks
  pub call-ready : GoodRows d cs rows × (((0 < wanted) × (wanted ≤ length rows) × (seed < length rows)) × ((wanted ≤ o) × (length rows ≤ f)))
  call-ready =
      let n : length rows ≡ length cs / d = ap length r ∙ length_from 0 (length cs / d) in (
        rw r
            (all-rows-good d cs (length cs / d) a.few (div-mul-le_self (length cs) d)
            (λ i h. all-at (λ x. finite x ≡ true) cs i nan a.finites h)),
        (
          (a.some-wanted, omega (arith, a.wanted-in), omega (arith, a.seed-in)),
          (omega (arith, a.output), omega (arith, a.floats)),
        ),
      )

  -- which sample that is
  called : sample d cs rows wanted (get_or rows seed 0) ≡ sample_of d cs wanted seed
  called =
      let s : get_or (from 0 (length cs / d)) seed 0 ≡ seed = get_d-from 0 (length cs / d) seed 0 a.seed-in ∙ zero-add seed in
      rw (r, s)

  -- what it writes, to the first `wanted` places
  pub call-written : (old front : List ℕ) → front ≡ sample d cs rows wanted (get_or rows seed 0) → length front ≡ wanted
      → front ++ drop wanted old ≡ written (sample_of d cs wanted seed) old
  unfolding written
  call-written old front h n =
      let e : front ≡ sample_of d cs wanted seed = h ∙ called in
      ap (λ (k : ℕ). front ++ drop k old) (sym n) ∙ ap (λ (l : List ℕ). l ++ drop (length l) old) e

  -- its cover
  pub call-covered : (x : Float) → x ≡ cover_of d cs rows (sample d cs rows wanted (get_or rows seed 0)) → x ≡ sample_cover_lem d cs wanted seed
  call-covered x h = h ∙ ap₂ (cover_of d cs) r called

-- ---- the outcome of a call
module _ (d : ℕ) (cs : List Float) (wanted seed : ℕ) (out : List ℕ) (floats : List Float) (wholes : List ℕ) where
  -- a refusal leaves each list as it was
  pub call-refused : (r : Refusal) → refused (as_refusal r) ≡ sample_call d cs wanted seed out floats wholes
      → RowsSampled d cs wanted seed out out floats floats wholes wholes (sample_report_lem (Err r))
  unfolding sample_answer sample_output number_of place_of value_of list_after RoomAfter
  call-refused r h =
      let e = sym h in
      record { answers = simp e; output = simp e; floats_free = simp e refl; wholes_free = simp e refl }

  -- an accepted call writes the sample, tells its cover, and keeps the lengths of its working room
  pub call-sampled : (cover : Float) → sample_call d cs wanted seed out floats wholes ≡ accepted → cover ≡ sample_cover_lem d cs wanted seed
      → (new : List ℕ) → new ≡ written (sample_of d cs wanted seed) out
      → (floats' : List Float) → length floats' ≡ length floats → (wholes' : List ℕ) → length wholes' ≡ length wholes
      → RowsSampled d cs wanted seed out new floats floats' wholes wholes' (sample_report_lem (Ok (record { rows = wanted; cover = cover })))
  unfolding sample_answer sample_output number_of place_of value_of list_after RoomAfter
  call-sampled cover e w new h floats' f wholes' g =
      record { answers = simp e (rw w); output = simp e h; floats_free = simp e f; wholes_free = simp e g }
