-- Leaves that stand in packed lists pass, row by row, exactly where they pass in turn, their domain rows are those that packing gives
-- them, and their borrowed rows end by the limit. Assumes nothing.
-- Holds: DomainsHeld, own-most, RowHeld, row-held, held-row, own-length-is, borrowed-length-is, domains-held, held-domains,
--   own-all
use mathlib.Core.Path.{◌≡◌, sym, ◌∙◌}
use mathlib.Core.Bool.{Bool, true, ◌&&◌}
use mathlib.Core.List.{List, [], ◌∷◌}
use Prim.Native.Nat.{ℕ, zero, suc, ◌+◌, ◌-◌, ◌*◌, ◌≤◌}
use native.Mathlib.Omega.{arith}
use borrow.Author.Tests.{leb-true, eqb-true, le-leb, eq-eqb}
use lib.Dec.{leb, eqb}
use lib.ListN.{length}
use Rattle.lists.specs.Lists.{total, from}
use Rattle.lists.proofs.Tests.{and-of, and-fst, and-snd, four-pass}
use Rattle.lists.proofs.Put.{length_part, part-nil}
use Rattle.definition.specs.Tree.{Leaf}
use Rattle.definition.specs.Packed.{row_numbers, stretches}
use Rattle.packed.specs.Reading.{Packed, own_start, own_count, borrowed_start, borrowed_count, depth_at, read_leaf, read_leaves}
use Rattle.tree_tests.specs.InTurn.{without, in_order_lem, fitted, leaf_passes, leaves_pass}
use Rattle.tree_tests.proofs.Lengths.{own_total, borrowed_total}
use Rattle.tree_tests.proofs.Leaves.{leaves-pass-nil, leaves-pass-cons}
use Rattle.list_domains.specs.InLists.{stretches_fit_lem, domain_passes, domains_pass}
use Rattle.list_domains.proofs.AsPacked.{AsPacked, depth-read, first-as-packed, packed-first}

-- ---- what the tests come to, of m leaves from the domain row number j on
pub record DomainsHeld (coarse : Bool) (p : Packed) (most rows : ℕ) (listed left : ℕ → Bool) (j a b k least m : ℕ) : Type 0 where
  pub pass : leaves_pass (fitted p.dimension coarse rows) listed left k least (read_leaves p j m) ≡ true
  pub as-packed : AsPacked p j m a b
  pub within : b + borrowed_total (read_leaves p j m) ≤ most

-- ---- a leaf that passes has no more own rows than are left
pub own-most : (box : Leaf → Bool) (listed left : ℕ → Bool) (k : ℕ) (f : Leaf) → leaf_passes box listed left k f ≡ true → length f.own ≤ k
unfolding leaf_passes
own-most box listed left k f h =
    leb-true (length f.own) k
    (four-pass (leb (length f.own) k) (in_order_lem 0 left f.own) (in_order_lem 0 (without f.own listed) f.borrowed) (box f) h).0

-- ---- one domain row that passes
pub record RowHeld (coarse : Bool) (p : Packed) (most rows : ℕ) (listed left : ℕ → Bool) (j a b k least : ℕ) : Type 0 where
  pub own_start : own_start p.domains j ≡ a
  pub borrowed_start : borrowed_start p.domains j ≡ b
  pub own-few : own_count p.domains j ≤ k
  pub borrowed_few : borrowed_count p.domains j ≤ most - b
  pub pass : leaf_passes (fitted p.dimension coarse rows least) listed left k (read_leaf p j) ≡ true

module _ (coarse : Bool) (p : Packed) (most rows : ℕ) (listed left : ℕ → Bool) (j a b k least : ℕ) where
  pub row-held : domain_passes coarse p most rows listed left j a b k least ≡ true → RowHeld coarse p most rows listed left j a b k least
  unfolding domain_passes stretches_fit_lem
  row-held h =
      let t1 = eqb (own_start p.domains j) a in
      let t2 = eqb (borrowed_start p.domains j) b in
      let t3 = leb (own_count p.domains j) k in
      let t4 = leb (borrowed_count p.domains j) (most - b) in
      let t5 = leaf_passes (fitted p.dimension coarse rows least) listed left k (read_leaf p j) in
      let f = four-pass t1 t2 t3 t4 (and-fst (t1 && t2 && t3 && t4) t5 h) in
      record {
        own_start = eqb-true (own_start p.domains j) a f.0;
        borrowed_start = eqb-true (borrowed_start p.domains j) b f.1;
        own-few = leb-true (own_count p.domains j) k f.2;
        borrowed_few = leb-true (borrowed_count p.domains j) (most - b) f.3;
        pass = and-snd (t1 && t2 && t3 && t4) t5 h;
      }

  pub held-row : RowHeld coarse p most rows listed left j a b k least → domain_passes coarse p most rows listed left j a b k least ≡ true
  unfolding domain_passes stretches_fit_lem
  held-row h =
      and-of
      (and-of
      (and-of
      (and-of (eq-eqb (own_start p.domains j) a h.own_start) (eq-eqb (borrowed_start p.domains j) b h.borrowed_start))
      (le-leb (own_count p.domains j) k h.own-few))
      (le-leb (borrowed_count p.domains j) (most - b) h.borrowed_few))
      h.pass

  -- its stretches lie inside their lists
  module _ (h : RowHeld coarse p most rows listed left j a b k least) where
    pub own-length-is : a + k ≤ length p.internals → length (read_leaf p j).own ≡ own_count p.domains j
    unfolding read_leaf
    own-length-is g = length_part p.internals (own_start p.domains j) (own_count p.domains j) (omega (arith, h.own_start, h.own-few))

    pub borrowed-length-is : b ≤ most → most ≤ length p.borrowed → length (read_leaf p j).borrowed ≡ borrowed_count p.domains j
    unfolding read_leaf
    borrowed-length-is f g =
        length_part p.borrowed (borrowed_start p.domains j) (borrowed_count p.domains j) (omega (arith, h.borrowed_start, h.borrowed_few))

module _ (coarse : Bool) (p : Packed) (most rows : ℕ) (listed : ℕ → Bool) (lent : most ≤ length p.borrowed) where
  pub domains-held : (m : ℕ) (left : ℕ → Bool) (j a b k least : ℕ) → row_numbers * (j + m) ≤ length p.domains → a + k ≤ length p.internals → b ≤ most
      → domains_pass coarse p most rows listed left j a b k least m ≡ true → DomainsHeld coarse p most rows listed left j a b k least m
  unfolding domains_pass read_leaves from stretches total
  domains-held zero left j a b k least fit room low h =
      record { pass = leaves-pass-nil (fitted p.dimension coarse rows) listed left k least ∙ h; as-packed = sym (part-nil p.domains (row_numbers * j)); within = omega arith }
  domains-held (suc m) left j a b k least fit room low h =
      let f = read_leaf p j in
      let fs = read_leaves p (suc j) m in
      let own = own_count p.domains j in
      let more = borrowed_count p.domains j in
      let x = domain_passes coarse p most rows listed left j a b k least in
      let y = domains_pass coarse p most rows listed (without f.own left) (suc j) (a + own) (b + more) (k - own) (depth_at p.domains j) m in
      let r = row-held coarse p most rows listed left j a b k least (and-fst x y h) in
      let e1 = own-length-is coarse p most rows listed left j a b k least r room in
      let e2 = borrowed-length-is coarse p most rows listed left j a b k least r low lent in
      let g = domains-held m (without f.own left) (suc j) (a + own) (b + more) (k - own) (depth_at p.domains j) (omega arith) (omega (arith, r.own-few)) (omega (arith, r.borrowed_few)) (and-snd x y h) in
      record {
        pass = leaves-pass-cons (fitted p.dimension coarse rows) listed left k least f fs ∙ and-of r.pass (rw (e1, depth-read p j) g.pass);
        as-packed = packed-first p j m a b fit (record { own_start = r.own_start; own_count = sym e1; borrowed_start = r.borrowed_start; borrowed_count = sym e2; behind = g.as-packed });
        within = omega (arith, e2, g.within);
      }

  -- and back
  pub held-domains : (m : ℕ) (left : ℕ → Bool) (j a b k least : ℕ) → row_numbers * (j + m) ≤ length p.domains
      → DomainsHeld coarse p most rows listed left j a b k least m → domains_pass coarse p most rows listed left j a b k least m ≡ true
  unfolding domains_pass read_leaves from stretches total
  held-domains zero left j a b k least fit h = sym (leaves-pass-nil (fitted p.dimension coarse rows) listed left k least) ∙ h.pass
  held-domains (suc m) left j a b k least fit h =
      let f = read_leaf p j in
      let fs = read_leaves p (suc j) m in
      let own = own_count p.domains j in
      let more = borrowed_count p.domains j in
      let x = leaf_passes (fitted p.dimension coarse rows least) listed left k f in
      let y = leaves_pass (fitted p.dimension coarse rows) listed (without f.own left) (k - length f.own) f.depth fs in
      let g = sym (leaves-pass-cons (fitted p.dimension coarse rows) listed left k least f fs) ∙ h.pass in
      let r = first-as-packed p j m a b fit h.as-packed in
      let few = own-most (fitted p.dimension coarse rows least) listed left k f (and-fst x y g) in
      and-of
      (held-row coarse p most rows listed left j a b k least (record { own_start = r.own_start; borrowed_start = r.borrowed_start; own-few = omega (arith, r.own_count); borrowed_few = omega (arith, r.borrowed_count, h.within); pass = and-fst x y g }))
      (held-domains m (without f.own left) (suc j) (a + own) (b + more) (k - own) (depth_at p.domains j) (omega arith)
      (record { pass = rw (r.own_count, ← depth-read p j) (and-snd x y g); as-packed = r.behind; within = omega (arith, r.borrowed_count, h.within) }))

-- ---- leaves that pass have as many own rows as were left
pub own-all : (fit : ℕ → Leaf → Bool) (listed left : ℕ → Bool) (k least : ℕ) (fs : List Leaf) → leaves_pass fit listed left k least fs ≡ true → own_total fs ≡ k
unfolding leaves_pass total
own-all fit listed left k least [] h = sym (eqb-true k 0 h)
own-all fit listed left k least (f ∷ fs) h =
    let x = leaf_passes (fit least) listed left k f in
    let y = leaves_pass fit listed (without f.own left) (k - length f.own) f.depth fs in
    omega (arith, own-most (fit least) listed left k f (and-fst x y h), own-all fit listed (without f.own left) (k - length f.own) f.depth fs (and-snd x y h))
