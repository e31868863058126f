-- `coarse_points::sample_leaf` meets its contract, by the definition's cases. Assumes nothing.
use mathlib.Core.Path.{◌≡◌, refl, sym, ◌∙◌}
use mathlib.Core.List.{List, [], ◌∷◌}
use Prim.Native.Nat.{ℕ, ◌<◌, ◌≤◌}
use native.Mathlib.Omega.{arith}
use Rattle.std.proofs.lemmas.Bool.Decides.{nat_tests}
use lib.ListN.{length}
use lib.Ieee.{Float, div, of_bits}
use Rattle.definition.specs.Sampling.{sent_by}
use Rattle.coarse_points.proofs.Sending.{sent-none}
use Rattle.coarse_points.proofs.Covering.{cover-empty, cover-unsent, leaf-sampled}
use Rattle.coarse_points.proofs.sample_leaf.Goals as goal

-- where there is room for no row, the list is what is sent
none-sent : (d : ℕ) (cs : List Float) (rows sent : List ℕ) → length sent < 1 → sent ≡ sent_by d cs rows (length sent)
none-sent d cs rows sent h = empty sent h ∙ sym (sent-none d cs rows (length sent) h)
  where
    empty : (l : List ℕ) → length l < 1 → l ≡ []
    empty [] g = refl
    empty (x ∷ l) g = absurd (omega (arith, g))

pub returns-then-is_empty : goal.returns-then-is_empty
unfolding div of_bits
returns-then-is_empty c = let a = c.args in
    let e : length a.rows.now < 1 = grind (arith, nat_tests, c.if-is_empty.ensures) in record {
      sent = none-sent a.points.dimensions a.points.coordinates.now a.rows.now a.sent.now (omega arith);
      cover = cover-empty a.points.dimensions a.points.coordinates.now a.rows.now _ e;
    }

pub returns-then-is_empty-2 : goal.returns-then-is_empty-2
unfolding div of_bits
returns-then-is_empty-2 c = let a = c.args in
    let e : 1 ≤ length a.rows.now = grind (arith, nat_tests, c.if-is_empty.ensures) in
    let q : length a.sent.now < 1 = grind (arith, nat_tests, c.if-is_empty-2.ensures) in record {
      sent = none-sent a.points.dimensions a.points.coordinates.now a.rows.now a.sent.now q;
      cover = cover-unsent a.points.dimensions a.points.coordinates.now a.rows.now (length a.sent.now) e q;
    }

pub returns : goal.returns
returns c = let a = c.args in
    let e : 1 ≤ length a.rows.now = grind (arith, nat_tests, c.if-is_empty.ensures) in
    let q : 1 ≤ length a.sent.now = grind (arith, nat_tests, c.if-is_empty-2.ensures) in
    let sr = c.sample_rows in
    let r = leaf-sampled a.points.dimensions a.points.coordinates.now a.rows.now (length a.sent.now) _ e q c.sampling_seed-seed.ensures.1 _ sr.result sr.ensures.sampled sr.ensures.cover in
    record { sent = r.0; cover = r.1 }
