-- Internals as a partition of rows: how often each row stands in them, and what is left after one leaf. Assumes nothing.
-- Holds: own_rows, divided, partitioned-is, divided-times, times-divided, others_of, others-among, inside-times, others-once,
--   others-times, others-length
use mathlib.Core.Path.{◌≡◌, refl, ap}
use Prim.Native.Nat.{ℕ, ◌+◌, ◌-◌, ◌≤◌}
use native.Mathlib.Omega.{arith}
use native.Mathlib.Decide.{dec_lt}
use mathlib.Core.Bool.{Bool, true, false, not, ◌&&◌}
use mathlib.Core.List.{List, map, Memᴰ}
use lib.ListN.{length}
use lib.Dec.{eqb}
use borrow.Author.Tests.{eqb-true, eq-eqb}
use Rattle.lists.specs.Lists.{keep, member, joined}
use Rattle.lists.specs.Ascends.{Ascends}
use Rattle.lists.specs.Times.{times, Once}
use Rattle.lists.proofs.Tests.{and-of, and-fst, and-snd}
use Rattle.lists.proofs.Members.{member-mem, mem-member, member-keep}
use Rattle.lists.proofs.Times.{mem-times, times-mem, member-zero, times-keep-in, times-keep-out, once-keep, others-count}
use Rattle.lists.proofs.Ascends.{ascends-once}
use Rattle.definition.specs.Tree.{Leaf, Level}
use Rattle.stored.specs.Sound.{all_of, partitioned}
use Rattle.tree_tests.specs.InTurn.{among, without}
use Rattle.tree_tests.proofs.AllPass.{all-pass-each, each-all-pass}

-- the internal rows of leaves, one leaf after the other
abbrev pub own_rows : List Leaf → List ℕ
own_rows fs = joined (map (λ f. f.own) fs)

-- each of the rows is in `own` once, and no other number is
abbrev pub divided : List ℕ → List ℕ → Bool
divided rows own = all_of (λ i. eqb (times i own) 1) rows && all_of (λ i. member i rows) own

pub partitioned-is : (l : Level) → partitioned l ≡ divided l.points (own_rows l.leaves)
unfolding partitioned
partitioned-is l = refl

-- ---- rows without repeats are divided where `own` has each number as often as they do
module _ (rows own : List ℕ) (o : Once rows) where
  pub divided-times : divided rows own ≡ true → (r : ℕ) → times r own ≡ times r rows
  divided-times h r = elim (dec_lt 0 (times r rows)) [
    | yes m ↦ omega (arith, o r, eqb-true (times r own) 1 (all-pass-each (λ i. eqb (times i own) 1) rows (and-fst (all_of (λ i. eqb (times i own) 1) rows) (all_of (λ i. member i rows) own) h) r (times-mem rows r m)))
    | no n ↦ elim (dec_lt 0 (times r own)) [
      | yes m ↦ omega (arith, mem-times rows r (member-mem rows r (all-pass-each (λ i. member i rows) own (and-snd (all_of (λ i. eqb (times i own) 1) rows) (all_of (λ i. member i rows) own) h) r (times-mem own r m))))
      | no k ↦ omega arith
    ]
  ]

  pub times-divided : ((r : ℕ) → times r own ≡ times r rows) → divided rows own ≡ true
  times-divided h =
      and-of
      (each-all-pass (λ i. eqb (times i own) 1) rows (λ i m. eq-eqb (times i own) 1 (omega (arith, h i, o i, mem-times rows i m))))
      (each-all-pass (λ i. member i rows) own (λ i m. mem-member rows i (times-mem rows i (omega (arith, h i, mem-times own i m)))))

-- ---- what a leaf leaves
-- the rows that are not the leaf's own
abbrev pub others_of : List ℕ → List ℕ → List ℕ
others_of own rows = keep (λ i. not (member i own)) rows

pub others-among : (own rows : List ℕ) (j : ℕ) → member j (others_of own rows) ≡ without own (among rows) j
others-among own rows j = member-keep (λ i. not (member i own)) rows j

-- own rows that ascend and are among the rows stand no more often than these
pub inside-times : (own rows : List ℕ) → Ascends own → ((x : ℕ) → Memᴰ x own → member x rows ≡ true) → (r : ℕ) → times r own ≤ times r rows
inside-times own rows a h r = elim (dec_lt 0 (times r own)) [
  | yes m ↦ omega (arith, ascends-once own a r, mem-times rows r (member-mem rows r (h r (times-mem own r m))))
  | no n ↦ omega arith
]

module _ (own rows : List ℕ) (o : Once rows) (le : (r : ℕ) → times r own ≤ times r rows) where
  pub others-once : Once (others_of own rows)
  others-once = once-keep (λ i. not (member i own)) rows o

  pub others-times : (r : ℕ) → times r (others_of own rows) + times r own ≡ times r rows
  others-times r = go (member r own) refl
    where
      go : (b : Bool) → member r own ≡ b → times r (others_of own rows) + times r own ≡ times r rows
      go true e =
          omega (arith, o r, le r, mem-times own r (member-mem own r e), times-keep-out (λ i. not (member i own)) rows r (ap not e))
      go false e = omega (arith, member-zero r own e, times-keep-in (λ i. not (member i own)) rows r (ap not e))

  pub others-length : length rows - length own ≡ length (others_of own rows)
  others-length = omega (arith, others-count rows o own le)
