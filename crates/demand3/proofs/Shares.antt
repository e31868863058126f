-- A fair quota is the whole part of its leaf's share, or one more where the share isn't whole.
-- Assumes nothing.
use mathlib.Core.Path.{◌≡◌, ap, ◌∙◌}
use mathlib.Core.Logic.{◌⊎◌, inl, inr, ⊎_elim}
use mathlib.Core.List.{List}
use Prim.Native.Nat.{ℕ, ◌+◌, ◌-◌, ◌*◌, ◌/◌, ◌%◌, ◌≤◌, ◌<◌}
use native.Mathlib.Omega.{arith}
use native.Mathlib.Nat.{mod-lt, div-add-mod', add-mul, one-mul, zero-mul}
use borrow.Author.Tests.{le-leb, lt-leb}
use lib.ListN.{get_or}
use Rattle.lists.specs.Lists.{total}
use Rattle.lists.proofs.Tests.{le-or-lt}
use Rattle.definition.specs.Quotas.{nonempty}
use Rattle.definition.specs.Fair.{WholeOrNext, Fair}
use Rattle.demand3.specs.Demand3.{Fraction, share_of, WholePart, OneMore}

-- ---- the whole part, by multiplication
module _ (k x p t : ℕ) (pos : 0 < p) (is : t ≡ k * p + x) where
  abbrev over : Fraction
  over = record { top = t; bottom = p }

  parts : (x / p) * p + x % p ≡ x
  parts = div-add-mod' x p

  whole_of : (q : ℕ) → q ≡ k + x / p → WholePart q over
  whole_of q e =
      let m = mod-lt x pos in
      let f : q * p ≡ k * p + (x / p) * p = ap (λ (z : ℕ). z * p) e ∙ add-mul k (x / p) p in
      record { divides = pos; at_most = omega (arith, parts); no_less = omega (arith, parts, add-mul q 1 p, one-mul p) }

  share-is : (q : ℕ) → WholeOrNext q k x p → WholePart q over ⊎ OneMore q over
  share-is q h =
      ⊎_elim
      (λ e. inl (whole_of q e))
      (λ e. inr (record {
        whole = k + x / p;
        is_part = whole_of (k + x / p) (omega arith);
        not_whole = omega (arith, parts, add-mul k (x / p) p, e.1);
        one_more = e.0;
      }))
      h

-- ---- S seats for leaves of these sizes, fewer than their rows, shared out fairly
module _ (sizes : List ℕ) (size : ℕ) (qs : List ℕ) (fewer : size < total sizes) (held : Fair sizes size qs) where
  abbrev d : ℕ
  d = nonempty sizes

  abbrev a : ℕ
  a = total sizes

  -- THE LAW
  pub shared : (i : ℕ) → 0 < get_or sizes i 0
      → WholePart (get_or qs i 0) (share_of size (nonempty sizes) (total sizes) (get_or sizes i 0))
      ⊎ OneMore (get_or qs i 0) (share_of size (nonempty sizes) (total sizes) (get_or sizes i 0))
  unfolding share_of
  shared i some =
      let q = get_or qs i 0 in
      let w = get_or sizes i 0 in
      ⊎_elim
      (λ (h : d ≤ size).
      let x = (size - d) * (w - 1) in
      rw (le-leb d size h) (share-is 1 x (a - d) (a - d + x) (omega arith) (omega (arith, one-mul (a - d))) q (held.share_each h i some)))
      (λ (h : size < d). rw (lt-leb d size h) (share-is 0 (size * w) a (size * w) (omega arith) (omega (arith, zero-mul a)) q (held.share_none h i some)))
      (le-or-lt d size)
