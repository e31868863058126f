-- The turns of the loop that drops repeats. Assumes nothing.
-- Holds: Dropped, drop-same, drop-new, drop-end, drop-none
use mathlib.Core.Path.{◌≡◌, sym, ap, ◌∙◌, subst}
use mathlib.Core.Logic.{◌⊎◌, ⊎_elim}
use Prim.Native.Nat.{ℕ, ◌+◌, ◌-◌, ◌≤◌, ◌<◌}
use native.Mathlib.Omega.{arith}
use native.Mathlib.Nat.{eq-or-lt_of_le, le_refl}
use mathlib.Core.List.{List, [], ◌∷◌, Memᴰ}
use lib.ListN.{length, get_or, set, take, length-set}
use lib.Seq.{get_or-set_same, get_or-set_other, get_or-take, length-take-le}
use Rattle.lists.specs.Ascends.{Ascends}
use Rattle.lists.proofs.Ascends.{ascends-by-index}
use Rattle.lists.proofs.Members.{mem-at, mem_index}
use Rattle.sort.specs.Order.{Sorted}
use Rattle.overlaps.specs.Codes.{Distinct}

-- k below i + 1 is i or below i
last_or : {i k : ℕ} → k < i + 1 → (k ≡ i) ⊎ (k < i)
last_or {i} {k} h = let g : k ≤ i = omega arith in eq-or-lt_of_le g

-- the first w numbers of l are the first r of s, each once, and the rest of l is as it was
pub record Dropped (s l : List ℕ) (w r : ℕ) : Type 0 where
  pub some : 0 < w
  pub behind : w ≤ r
  pub inside : r ≤ length s
  pub long : length l ≡ length s
  pub rest : (k : ℕ) → r ≤ k → get_or l k 0 ≡ get_or s k 0
  pub top : get_or l (w - 1) 0 ≡ get_or s (r - 1) 0
  pub asc : (i j : ℕ) → i < j → j < w → get_or l i 0 < get_or l j 0
  pub more : (k : ℕ) → k < r → (i : ℕ) × (i < w) × (get_or l i 0 ≡ get_or s k 0)
  pub less : (i : ℕ) → i < w → (k : ℕ) × (k < r) × (get_or l i 0 ≡ get_or s k 0)

module _ (s l : List ℕ) (w r : ℕ) (d : Dropped s l w r) (here : r < length s) where
  module _ (e : get_or l (w - 1) 0 ≡ get_or l r 0) where
    pub drop-same : Dropped s l w (r + 1)
    drop-same = record {
      some = d.some;
      behind = (let b = d.behind in omega arith);
      inside = omega arith;
      long = d.long;
      rest = λ k g. d.rest k (omega arith);
      top = e ∙ d.rest r (le_refl r) ∙ ap (λ (n : ℕ). get_or s n 0) (omega arith);
      asc = d.asc;
      more = λ k g. ⊎_elim
          (λ q. (w - 1, (let p = d.some in omega arith), e ∙ d.rest r (le_refl r) ∙ ap (λ (n : ℕ). get_or s n 0) (sym q)))
          (λ q. d.more k q) (last_or g);
      less = λ i g. let u = d.less i g in (u.0, omega (arith, u.1), u.2);
    }

  module _ (level : Sorted (λ x y. x ≤ y) s) (e : get_or l (w - 1) 0 ≡ get_or l r 0 → ⊥) where
    x : ℕ
    x = get_or l r 0

    same-x : x ≡ get_or s r 0
    unfolding x
    same-x = d.rest r (le_refl r)

    m : List ℕ
    m = set l w x

    fits : w < length l
    fits = let b = d.behind in let g = d.long in omega arith

    new : get_or m w 0 ≡ x
    unfolding m
    new = get_or-set_same l w x 0 fits

    old : (k : ℕ) → (k ≡ w → ⊥) → get_or m k 0 ≡ get_or l k 0
    unfolding m
    old k n = get_or-set_other l w k x 0 n

    -- the new number is above the last, and so above all
    step-up : get_or l (w - 1) 0 < x
    unfolding x
    step-up =
        let b = d.behind in
        let p = d.some in
        let q : get_or s (r - 1) 0 ≤ get_or s r 0 = level (r - 1) r (omega arith) here in
        let t = d.top in
        let u = d.rest r (le_refl r) in
        omega (arith, e)

    above : (i : ℕ) → i < w → get_or l i 0 < x
    above i h = ⊎_elim
        (λ (q : i ≡ w - 1). subst (λ (n : ℕ). get_or l n 0 < x) (sym q) step-up)
        (λ (q : i < w - 1). let a = d.asc i (w - 1) q (omega arith) in omega (arith, step-up))
        (eq-or-lt_of_le (omega arith))

    pub drop-new : Dropped s (set l w (get_or l r 0)) (w + 1) (r + 1)
    unfolding m x
    drop-new =
        let b = d.behind in record {
          some = omega arith;
          behind = omega arith;
          inside = omega arith;
          long = length-set l w x ∙ d.long;
          rest = λ k g. old k (λ q. omega arith) ∙ d.rest k (omega arith);
          top = ap (λ (n : ℕ). get_or m n 0) (omega arith) ∙ new ∙ same-x ∙ ap (λ (n : ℕ). get_or s n 0) (omega arith);
          asc = λ i j a h. ⊎_elim
              (λ (q : j ≡ w). rw (q, new, old i (λ z. omega arith)) (above i (omega arith)))
              (λ (q : j < w). rw (old i (λ z. omega arith), old j (λ z. omega arith)) (d.asc i j a q)) (last_or h);
          more = λ k g. ⊎_elim
              (λ (q : k ≡ r). (w, omega arith, new ∙ same-x ∙ ap (λ (n : ℕ). get_or s n 0) (sym q)))
              (λ (q : k < r). let u = d.more k q in (u.0, omega (arith, u.1), old u.0 (λ z. omega (arith, u.1)) ∙ u.2)) (last_or g);
          less = λ i g. ⊎_elim
              (λ (q : i ≡ w). (r, omega arith, ap (λ (n : ℕ). get_or m n 0) q ∙ new ∙ same-x))
              (λ (q : i < w). let u = d.less i q in (u.0, omega (arith, u.1), old i (λ z. omega arith) ∙ u.2)) (last_or g);
        }

pub drop-end : (s l : List ℕ) (w r : ℕ) → Dropped s l w r → length s ≤ r → Distinct s (take w l)
drop-end s l w r d h =
    let b = d.behind in
    let i = d.inside in
    let g = d.long in
    let k : length (take w l) ≡ w = length-take-le w l (omega arith) in record {
      ascends = ascends-by-index (take w l) (λ p q a c. rw (get_or-take w l p 0 (omega arith), get_or-take w l q 0 (omega arith)) (d.asc p q a (omega arith)));
      more = λ z n.
          let u = mem_index s 0 n in
          let v = d.more u.0 (omega (arith, u.1)) in
          subst (λ (y : ℕ). Memᴰ y (take w l)) (get_or-take w l v.0 0 v.1 ∙ v.2 ∙ u.2) (mem-at (take w l) v.0 0 (omega (arith, v.1)));
      less = λ z n.
          let u = mem_index (take w l) 0 n in
          let f : u.0 < w = omega (arith, u.1) in
          let v = d.less u.0 f in
          subst (λ (y : ℕ). Memᴰ y s) (sym v.2 ∙ sym (get_or-take w l u.0 0 f) ∙ u.2) (mem-at s v.0 0 (omega (arith, v.1)));
      short = omega arith;
    }

pub drop-none : (s l : List ℕ) → length s ≡ 0 → Distinct s (take 0 l)
unfolding Ascends
drop-none [] l h = record { ascends = tt; more = λ z n. n; less = λ z n. n; short = omega arith }
drop-none (x ∷ s) l h = absurd (omega arith)
