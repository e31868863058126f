-- `sampling_rounds::sample_rows` meets its contract. The loop's invariant: `Choosing`. Assumes nothing.
use mathlib.Core.Path.{◌≡◌, refl, ap, ◌∙◌}
use mathlib.Core.Bool.{true, false}
use mathlib.Core.List.{List, ◌++◌}
use Prim.Native.Nat.{ℕ, ◌≤◌, ◌<◌}
use native.Mathlib.Omega.{arith}
use lib.ListN.{length, get_or, set, take, drop, replicate, get_or-append, length-append, length-drop, length-set}
use lib.Seq.{get_or-set_same, get_or-set_other, length-take-le}
use lib.Ieee.{Float, nan, inf, div, of_bits}
use Rattle.std.proofs.lemmas.List.{get_or-replicate, length-replicate}
use Rattle.root_laws.specs.Sorts.{good}
use Rattle.rows.specs.Rows.{GoodRows}
use Rattle.sampling_rounds.specs.declared.Sampled.{Sampled}
use Rattle.sampling_rounds.specs.Rounds.{minus_one, KeptSquare, Ready, Unchosen, SameSampled}
use Rattle.sampling_rounds.proofs.Choosing.{choosing-start, choosing-kept, choosing-open, choosing-more, choosing-end, choosing-all, choosing-worst}
use Rattle.sampling_rounds.proofs.sample_rows.Goals as goal

-- the first n squares are infinite
module _ (n : ℕ) (old new : List Float) (h : n ≤ length old) (e : new ≡ replicate (length (take n old)) (inf false)) where
  size : length new ≡ n
  size = ap length e ∙ length-replicate (length (take n old)) (inf false) ∙ length-take-le n old h

  filled : (i : ℕ) → i < n → get_or (new ++ drop n old) i nan ≡ inf false
  filled i b =
      get_or-append new (drop n old) nan i (omega (arith, size))
      ∙ ap (λ (l : List Float). get_or l i nan) e
      ∙ get_or-replicate (length (take n old)) i (inf false) nan (omega (arith, length-take-le n old h))

  long : length (new ++ drop n old) ≡ length old
  long = omega (arith, size, length-append new (drop n old), length-drop n old)

  -- with one value set there is still room for n
  marked : (i : ℕ) (x : Float) → n ≤ length (set (new ++ drop n old) i x)
  marked i x = simp length-set (omega (arith, long, h))

-- the rounds leave the value's points and rows as they are: what holds of those that it was made of holds of its own
module _ (s t : Sampled) (q : SameSampled s t) where
  can-go : (last : ℕ) → GoodRows s.points.dimensions s.points.coordinates.now s.rows.now → last < length s.rows.now → length s.rows.now ≤ length s.squares.now
      → ((i : ℕ) → i < length s.rows.now → KeptSquare (get_or t.squares.now i nan)) → Ready t last
  can-go last g b r k = record { rows = rw (q.points, q.rows) g; here = rw q.rows b; room = rw (q.rows, q.squares_len) r; kept = rw q.rows k }

  some-left : ((i : ℕ) × ((i < length s.rows.now) × (good (get_or t.squares.now i nan) ≡ true))) → Unchosen t
  some-left h = rw q.rows h

  same-again : (u : Sampled) → SameSampled t u → SameSampled s u
  same-again u k = record { points = k.points ∙ q.points; rows = k.rows ∙ q.rows; squares = k.squares ∙ q.squares; squares_len = k.squares_len ∙ q.squares_len }

pub loop-k-init : goal.loop-k-init
unfolding div of_bits
loop-k-init c =
    let a = c.args in
    let r = c.requires.room in
    let n = length a.rows.now in
    let e = c.fill.ensures.after (λ y e. e) in
    let floats = c.fill.new.self ++ drop n a.floats.now in
    let q = long n a.floats.now _ r e in (
      choosing-start _ _ _ c.requires.rows (length a.out.now) a.out.now a.seed.0 (set floats a.seed.0 minus_one)
          (omega (arith, c.requires)) c.requires.wanted.2
          (get_or-set_same floats a.seed.0 minus_one nan (omega (arith, q, c.requires)))
          (λ i h k. get_or-set_other floats a.seed.0 i minus_one nan k ∙ filled n a.floats.now _ r e i h),
      record { points = refl; rows = refl; squares = refl; squares_len = refl },
    )

pub next_place-last-requires-clause-ready : goal.next_place-last-requires-clause-ready
unfolding of_bits
next_place-last-requires-clause-ready c =
    let l = c.loop-k in
    let v = l.invariant.0 in
    can-go _ _ l.invariant.1 l.last.0 c.requires.rows v.within (marked _ _ _ c.requires.room (c.fill.ensures.after (λ y e. e)) _ _)
    (choosing-kept _ _ _ c.requires.rows _ _ _ _ _ _ _ v)

pub next_place-last-requires-clause-unchosen : goal.next_place-last-requires-clause-unchosen
next_place-last-requires-clause-unchosen c =
    let v = c.loop-k.invariant in
    some-left _ _ v.1 (choosing-open _ _ _ c.requires.rows _ _ _ _ _ _ _ v.0 (omega (arith, length-set c.args.out.now 0 (get_or c.args.rows.now c.args.seed.0 0), c.requires, c.loop-k-test.true)))

pub loop-k-preserved : goal.loop-k-preserved
loop-k-preserved c =
    let l = c.loop-k in
    let h = c.loop-k-test.true in
    let p = c.next_place-last in
    let v = l.invariant in
    let chosen = rw (v.1.points, v.1.rows) at p.ensures.chosen in (
      choosing-more _ _ _ c.requires.rows _ _ _ _ _ _ _ v.0 p.result.0 p.new.self.squares.now (omega (arith, length-set c.args.out.now 0 (get_or c.args.rows.now c.args.seed.0 0), h)) (simp length-set (omega (arith, length-set c.args.out.now 0 (get_or c.args.rows.now c.args.seed.0 0), h))) chosen,
      same-again _ _ v.1 _ p.ensures.same,
    )

pub returns-then-out-rows-clause-sampled : goal.returns-then-out-rows-clause-sampled
returns-then-out-rows-clause-sampled c = choosing-end _ _ _ c.requires.rows _ _ _ _ _ _ _ c.loop-k.invariant.0 (simp length-set (omega (arith, length-set c.args.out.now 0 (get_or c.args.rows.now c.args.seed.0 0)))) (omega (arith, length-set c.args.out.now 0 (get_or c.args.rows.now c.args.seed.0 0)))

pub returns-then-out-rows-clause-cover : goal.returns-then-out-rows-clause-cover
returns-then-out-rows-clause-cover c = choosing-all _ _ _ c.requires.rows _ _ _ _ _ _ _ c.loop-k.invariant.0 (omega (arith, length-set c.args.out.now 0 (get_or c.args.rows.now c.args.seed.0 0))) (omega (arith, length-set c.args.out.now 0 (get_or c.args.rows.now c.args.seed.0 0)))

pub worst_distance-requires-clause-ready : goal.worst_distance-requires-clause-ready
unfolding of_bits
worst_distance-requires-clause-ready c =
    let l = c.loop-k in
    let v = l.invariant.0 in
    can-go _ _ l.invariant.1 _ c.requires.rows (omega (arith, v.within, c.requires.wanted)) (marked _ _ _ c.requires.room (c.fill.ensures.after (λ y e. e)) _ _)
    (choosing-kept _ _ _ c.requires.rows _ _ _ _ _ _ _ v)

pub worst_distance-requires-clause-unchosen : goal.worst_distance-requires-clause-unchosen
worst_distance-requires-clause-unchosen c =
    let v = c.loop-k.invariant in
    some-left _ _ v.1 (choosing-open _ _ _ c.requires.rows _ _ _ _ _ _ _ v.0 (omega (arith, length-set c.args.out.now 0 (get_or c.args.rows.now c.args.seed.0 0))))

pub returns-clause-sampled : goal.returns-clause-sampled
returns-clause-sampled c = choosing-end _ _ _ c.requires.rows _ _ _ _ _ _ _ c.loop-k.invariant.0 (simp length-set (omega (arith, length-set c.args.out.now 0 (get_or c.args.rows.now c.args.seed.0 0)))) (omega (arith, length-set c.args.out.now 0 (get_or c.args.rows.now c.args.seed.0 0)))

pub returns-clause-cover : goal.returns-clause-cover
returns-clause-cover c =
    let v = c.loop-k.invariant in
    let worst = rw (v.1.points, v.1.rows) at c.worst_distance.ensures.worst in
    choosing-worst _ _ _ c.requires.rows _ _ _ _ _ _ _ v.0 c.worst_distance.result (omega (arith, length-set c.args.out.now 0 (get_or c.args.rows.now c.args.seed.0 0))) worst
