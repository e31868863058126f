-- The turns of the loops that count and that keep the rows on one side, for any test. Assumes nothing.
-- Holds: CountedTo, counted-first, counted-in, counted-out, counted-end, Moving, moving-first, moving-here, moving_row,
--   moving_in, moving_out, KeptFront, kept-first, kept-number, kept-rows, kept_in, kept_out
use mathlib.Core.Path.{◌≡◌, refl, sym, ap, ◌∙◌}
use Prim.Native.Nat.{ℕ, ◌+◌, ◌≤◌, ◌<◌}
use native.Mathlib.Omega.{arith}
use mathlib.Core.Bool.{Bool, true, false}
use mathlib.Core.List.{List}
use lib.ListN.{length, get_or, set, take, length-append, length-set}
use lib.Seq.{get_or-set_other, take_all}
use Rattle.lists.specs.Lists.{count, put, keep}
use Rattle.lists.specs.Ascends.{All}
use Rattle.lists.proofs.All.{all-at}
use Rattle.lists.proofs.Count.{count_yes, count_no, keep-yes, keep-no}
use Rattle.lists.proofs.Put.{put-nil, put-snoc}

-- ---- n of the first t rows pass
pub record CountedTo (p : ℕ → Bool) (l : List ℕ) (n t : ℕ) : Type 0 where
  pub less : n ≤ t
  pub is : n ≡ count p (take t l)

pub counted-first : (p : ℕ → Bool) (l : List ℕ) → CountedTo p l 0 0
unfolding count
counted-first p l = record { less = omega arith; is = refl }

module _ {p : ℕ → Bool} {l : List ℕ} {n t : ℕ} (s : CountedTo p l n t) where
  pub counted-in : t < length l → p (get_or l t 0) ≡ true → CountedTo p l (n + 1) (t + 1)
  counted-in h b = record { less = omega (arith, s.less); is = omega (arith, count_yes p l t 0 h b, s.is) }

  pub counted-out : t < length l → p (get_or l t 0) ≡ false → CountedTo p l n (t + 1)
  counted-out h b = record { less = omega (arith, s.less); is = omega (arith, count_no p l t 0 h b, s.is) }

  pub counted-end : length l ≤ t → n ≡ count p l
  counted-end h = s.is ∙ ap (count p) (take_all t l h)

-- ---- those that pass are moved to the front of the list: m is l after i rows, of which k passed
pub record Moving (l m : List ℕ) (k i : ℕ) : Type 0 where
  pub less : k ≤ i
  pub same : length m ≡ length l
  pub ahead : (j : ℕ) → i ≤ j → get_or m j 0 ≡ get_or l j 0

pub moving-first : (l : List ℕ) → Moving l l 0 0
moving-first l = record { less = omega arith; same = refl; ahead = λ j h. refl }

module _ {l m : List ℕ} {k i : ℕ} (s : Moving l m k i) where
  -- the next row is still where it was
  pub moving-here : get_or m i 0 ≡ get_or l i 0
  moving-here = s.ahead i (omega arith)

  pub moving_row : (P : ℕ → Type 0) → i < length l → All P l → P (get_or m i 0)
  moving_row P h f = rw moving-here (all-at P l i 0 f h)

  pub moving_in : Moving l (set m k (get_or m i 0)) (k + 1) (i + 1)
  moving_in = record {
    less = omega (arith, s.less);
    same = length-set m k (get_or m i 0) ∙ s.same;
    ahead = λ j h. let n : j ≡ k → ⊥ = λ e. omega (arith, s.less) in get_or-set_other m k j (get_or m i 0) 0 n ∙ s.ahead j (omega arith);
  }

  pub moving_out : Moving l m k (i + 1)
  moving_out = record { less = omega (arith, s.less); same = s.same; ahead = λ j h. s.ahead j (omega arith) }

-- and these are those that pass p
pub record KeptFront (p : ℕ → Bool) (l m : List ℕ) (k i : ℕ) : Type 0 where
  pub passed : k ≡ length (keep p (take i l))
  pub now : m ≡ put l 0 (keep p (take i l))

pub kept-first : (p : ℕ → Bool) (l : List ℕ) → KeptFront p l l 0 0
unfolding keep
kept-first p l = record { passed = refl; now = sym (put-nil l 0) }

module _ {p : ℕ → Bool} {l m : List ℕ} {k i : ℕ} (s : KeptFront p l m k i) (h : length l ≤ i) where
  pub kept-number : k ≡ length (keep p l)
  kept-number = s.passed ∙ ap (λ (z : List ℕ). length (keep p z)) (take_all i l h)

  pub kept-rows : m ≡ put l 0 (keep p l)
  kept-rows = s.now ∙ ap (λ (z : List ℕ). put l 0 (keep p z)) (take_all i l h)

module _ {p : ℕ → Bool} {l m : List ℕ} {k i : ℕ} (v : Moving l m k i) (s : KeptFront p l m k i) (h : i < length l) where
  pub kept_in : p (get_or m i 0) ≡ true → KeptFront p l (set m k (get_or m i 0)) (k + 1) (i + 1)
  kept_in t =
      let a = keep-yes p l i 0 h (rw (moving-here v) at t) in
      record {
        passed = rw (a, length-append) (omega (arith, s.passed));
        now =
            rw (moving-here v, s.now, a)
            (put-snoc l 0 (keep p (take i l)) (get_or l i 0) k (omega (arith, s.passed)) (omega (arith, v.less)));
      }

  pub kept_out : p (get_or m i 0) ≡ false → KeptFront p l m k (i + 1)
  kept_out t =
      let a = keep-no p l i 0 h (rw (moving-here v) at t) in
      record { passed = rw a s.passed; now = rw a s.now }
