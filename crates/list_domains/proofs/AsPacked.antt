-- Domain rows that are those of packing: the first one and those behind it, the own and the borrowed rows that they name, and where the
-- borrowed rows end. Assumes nothing.
-- Holds: AsPacked, rows_split, FirstAsPacked, depth-read, first-as-packed, packed-first, own-joined, borrowed-joined,
--   borrowed_end_is, stretches-append, leaves-length, leaves-append, packed-append, packed-front, packed-behind, end-append
use mathlib.Core.Path.{◌≡◌, refl, sym, ap, ap₂, ◌∙◌}
use mathlib.Core.List.{List, ◌∷◌, ◌++◌, map, map-append, map-map}
use Prim.Native.Nat.{ℕ, zero, suc, ◌+◌, ◌*◌, ◌≤◌, ◌<◌}
use native.Mathlib.Nat.{add-zero, zero-add, mul-add, suc-add, add-suc}
use native.Mathlib.Omega.{arith}
use lib.ListN.{length, get_or, take, drop}
use lib.Seq.{take_at, drop_at}
use Rattle.lists.specs.Lists.{total, from, joined, part}
use Rattle.lists.proofs.Joined.{length-joined}
use Rattle.lists.proofs.From.{from-append, length-map-from}
use Rattle.lists.proofs.Put.{length_part, part-append, part-nil, part-cons}
use Rattle.definition.specs.Tree.{Leaf}
use Rattle.definition.specs.Packed.{row_numbers, numbers_of, stretches}
use Rattle.definition_laws.proofs.Fit.{length-stretches}
use Rattle.packed.proofs.Packing as packing
use Rattle.packed.specs.Reading as reading
use Rattle.packed.specs.Reading.{Packed, own_start, own_count, borrowed_start, borrowed_count, depth_at, row_at, read_leaf, read_leaves}
use Rattle.tree_tests.proofs.Lengths.{own_total, borrowed_total}
use Rattle.list_domains.specs.InLists.{borrowed_end}

-- the m domain rows from the row number j on are those that packing gives their leaves, the first stretches starting at a and b
abbrev pub AsPacked : Packed → ℕ → ℕ → ℕ → ℕ → Type 0
AsPacked p j m a b = stretches a b (read_leaves p j m) ≡ part p.domains (row_numbers * j) (row_numbers * m)

-- ---- the numbers of the domain row number j, and those behind it
module _ (domains : List ℕ) (j m : ℕ) (h : row_numbers * (j + suc m) ≤ length domains) where
  next : (at n on : ℕ) → at < length domains → on ≡ suc at → part domains at (suc n) ≡ get_or domains at 0 ∷ part domains on n
  next at n on g e = part-cons domains at n 0 g ∙ ap (λ (i : ℕ). get_or domains at 0 ∷ part domains i n) (sym e)

  row_first : part domains (row_numbers * j) row_numbers ≡ numbers_of (row_at domains j)
  row_first =
      let at = row_numbers * j in
      next at 4 (at + 1) (omega arith) (omega arith)
      ∙ ap (λ (l : List ℕ). get_or domains at 0 ∷ l)
      (next (at + 1) 3 (at + 2) (omega arith) (omega arith)
      ∙ ap (λ (l : List ℕ). get_or domains (at + 1) 0 ∷ l)
      (next (at + 2) 2 (at + 3) (omega arith) (omega arith)
      ∙ ap (λ (l : List ℕ). get_or domains (at + 2) 0 ∷ l)
      (next (at + 3) 1 (at + 4) (omega arith) (omega arith)
      ∙ ap (λ (l : List ℕ). get_or domains (at + 3) 0 ∷ l)
      (next (at + 4) 0 (at + 5) (omega arith) (omega arith) ∙ ap (λ (l : List ℕ). get_or domains (at + 4) 0 ∷ l) (part-nil domains (at + 5))))))

  pub rows_split : part domains (row_numbers * j) (row_numbers * suc m) ≡ numbers_of (row_at domains j) ++ part domains (row_numbers * suc j) (row_numbers * m)
  rows_split =
      let a : row_numbers * suc m ≡ row_numbers + row_numbers * m = omega arith in
      let b : row_numbers * suc j ≡ row_numbers * j + row_numbers = omega arith in
      rw (a, b) (sym (part-append domains (row_numbers * j) row_numbers (row_numbers * m)) ∙ ap (λ (l : List ℕ). l ++ part domains (row_numbers * j + row_numbers) (row_numbers * m)) row_first)

-- ---- so the first row is that of its leaf, and those behind it are as packed
pub record FirstAsPacked (p : Packed) (j m a b : ℕ) : Type 0 where
  pub own_start : own_start p.domains j ≡ a
  pub own_count : own_count p.domains j ≡ length (read_leaf p j).own
  pub borrowed_start : borrowed_start p.domains j ≡ b
  pub borrowed_count : borrowed_count p.domains j ≡ length (read_leaf p j).borrowed
  pub behind : AsPacked p (suc j) m (a + reading.own_count p.domains j) (b + reading.borrowed_count p.domains j)

module _ (p : Packed) where
  -- the depth of a leaf is that of its row
  pub depth-read : (j : ℕ) → (read_leaf p j).depth ≡ depth_at p.domains j
  unfolding read_leaf
  depth-read j = refl

  module _ (j m a b : ℕ) (fit : row_numbers * (j + suc m) ≤ length p.domains) where
    pub first-as-packed : AsPacked p j (suc m) a b → FirstAsPacked p j m a b
    unfolding read_leaves from stretches
    first-as-packed h =
        let f = read_leaf p j in
        let e = h ∙ rows_split p.domains j m fit in
        let own : own_count p.domains j ≡ length f.own = cc in
        let borrowed : borrowed_count p.domains j ≡ length f.borrowed = cc in
        let tail : stretches (a + length f.own) (b + length f.borrowed) (read_leaves p (suc j) m) ≡ part p.domains (row_numbers * suc j) (row_numbers * m) = cc in
        record { own_start = cc; own_count = own; borrowed_start = cc; borrowed_count = borrowed; behind = rw (own, borrowed) tail }

    pub packed-first : FirstAsPacked p j m a b → AsPacked p j (suc m) a b
    unfolding read_leaves from stretches
    packed-first h =
        let fs = read_leaves p (suc j) m in
        let own = own_count p.domains j in
        let more = borrowed_count p.domains j in
        let depth = depth_at p.domains j in
        ap (λ (x : ℕ). a ∷ length (read_leaf p j).own ∷ b ∷ length (read_leaf p j).borrowed ∷ x ∷ stretches (a + length (read_leaf p j).own) (b + length (read_leaf p j).borrowed) fs) (depth-read j)
        ∙ ap₂ (λ (x y : ℕ). a ∷ x ∷ b ∷ y ∷ depth ∷ stretches (a + x) (b + y) fs) (sym h.own_count) (sym h.borrowed_count)
        ∙ ap (λ (l : List ℕ). a ∷ own ∷ b ∷ more ∷ depth ∷ l) h.behind
        ∙ ap₂ (λ (x y : ℕ). x ∷ own ∷ y ∷ more ∷ depth ∷ part p.domains (row_numbers * suc j) (row_numbers * m)) (sym h.own_start) (sym h.borrowed_start)
        ∙ sym (rows_split p.domains j m fit)

  -- ---- what they name: stretches one after the other
  pub own-joined : (m j a b : ℕ) → row_numbers * (j + m) ≤ length p.domains → AsPacked p j m a b
      → joined (map (λ f. f.own) (read_leaves p j m)) ≡ part p.internals a (own_total (read_leaves p j m))
  unfolding read_leaves from joined total read_leaf
  own-joined zero j a b fit h = sym (part-nil p.internals a)
  own-joined (suc m) j a b fit h =
      let g = first-as-packed j m a b fit h in
      let own = own_count p.domains j in
      let later = own-joined m (suc j) (a + own) (b + borrowed_count p.domains j) (omega arith) g.behind in
      rw (later, ← g.own_count, g.own_start) (part-append p.internals a own (own_total (read_leaves p (suc j) m)))

  pub borrowed-joined : (m j a b : ℕ) → row_numbers * (j + m) ≤ length p.domains → AsPacked p j m a b
      → joined (map (λ f. f.borrowed) (read_leaves p j m)) ≡ part p.borrowed b (borrowed_total (read_leaves p j m))
  unfolding read_leaves from joined total read_leaf
  borrowed-joined zero j a b fit h = sym (part-nil p.borrowed b)
  borrowed-joined (suc m) j a b fit h =
      let g = first-as-packed j m a b fit h in
      let more = borrowed_count p.domains j in
      let later = borrowed-joined m (suc j) (a + own_count p.domains j) (b + more) (omega arith) g.behind in
      rw (later, ← g.borrowed_count, g.borrowed_start) (part-append p.borrowed b more (borrowed_total (read_leaves p (suc j) m)))

  -- ---- where the borrowed rows end
  pub borrowed_end_is : (m j a b : ℕ) → row_numbers * (j + m) ≤ length p.domains → AsPacked p j m a b
      → borrowed_end p.domains j b m ≡ b + borrowed_total (read_leaves p j m)
  unfolding read_leaves from total borrowed_end
  borrowed_end_is zero j a b fit h = sym (add-zero b)
  borrowed_end_is (suc m) j a b fit h =
      let g = first-as-packed j m a b fit h in
      let more = borrowed_count p.domains j in
      borrowed_end_is m (suc j) (a + own_count p.domains j) (b + more) (omega arith) g.behind
      ∙ omega (arith, g.borrowed_count)

-- ---- domain rows and those behind them
pub stretches-append : (xs ys : List Leaf) (a b : ℕ) → stretches a b (xs ++ ys) ≡ stretches a b xs ++ stretches (a + own_total xs) (b + borrowed_total xs) ys
stretches-append xs ys a b =
    packing.stretches-append a b xs ys
    ∙ ap₂ (λ (x y : ℕ). stretches a b xs ++ stretches (a + x) (b + y) ys)
    (length-joined (map (λ (f : Leaf). f.own) xs) ∙ ap total (map-map length (λ (f : Leaf). f.own) xs))
    (length-joined (map (λ (f : Leaf). f.borrowed) xs) ∙ ap total (map-map length (λ (f : Leaf). f.borrowed) xs))

pub leaves-length : (p : Packed) (j m : ℕ) → length (read_leaves p j m) ≡ m
unfolding read_leaves
leaves-length p j m = length-map-from (read_leaf p) j m

module _ (p : Packed) (j m k : ℕ) where
  pub leaves-append : read_leaves p j (m + k) ≡ read_leaves p j m ++ read_leaves p (j + m) k
  unfolding read_leaves
  leaves-append = ap (map (read_leaf p)) (from-append j m k) ∙ map-append (read_leaf p) (from j m) (from (j + m) k)

  module _ (a b : ℕ) where
    abbrev more : ℕ
    more = a + own_total (read_leaves p j m)

    abbrev end : ℕ
    end = b + borrowed_total (read_leaves p j m)

    both : stretches a b (read_leaves p j (m + k)) ≡ stretches a b (read_leaves p j m) ++ stretches more end (read_leaves p (j + m) k)
    both = ap (stretches a b) leaves-append ∙ stretches-append (read_leaves p j m) (read_leaves p (j + m) k) a b

    parts : part p.domains (row_numbers * j) (row_numbers * (m + k)) ≡ part p.domains (row_numbers * j) (row_numbers * m) ++ part p.domains (row_numbers * (j + m)) (row_numbers * k)
    parts = rw (mul-add row_numbers m k, mul-add row_numbers j m) (sym (part-append p.domains (row_numbers * j) (row_numbers * m) (row_numbers * k)))

    pub packed-append : AsPacked p j m a b → AsPacked p (j + m) k (a + own_total (read_leaves p j m)) (b + borrowed_total (read_leaves p j m)) → AsPacked p j (m + k) a b
    packed-append h g = both ∙ ap₂ (λ (x y : List ℕ). x ++ y) h g ∙ sym parts

    module _ (fit : row_numbers * (j + m) ≤ length p.domains) (h : AsPacked p j (m + k) a b) where
      whole : stretches a b (read_leaves p j m) ++ stretches more end (read_leaves p (j + m) k) ≡ part p.domains (row_numbers * j) (row_numbers * m) ++ part p.domains (row_numbers * (j + m)) (row_numbers * k)
      whole = sym both ∙ h ∙ parts

      first-length : length (stretches a b (read_leaves p j m)) ≡ row_numbers * m
      first-length = length-stretches a b (read_leaves p j m) ∙ ap (λ (i : ℕ). row_numbers * i) (leaves-length p j m)

      part_length : length (part p.domains (row_numbers * j) (row_numbers * m)) ≡ row_numbers * m
      part_length = length_part p.domains (row_numbers * j) (row_numbers * m) (omega arith)

      pub packed-front : AsPacked p j m a b
      packed-front =
          let n = row_numbers * m in
          sym (take_at (stretches a b (read_leaves p j m)) (stretches more end (read_leaves p (j + m) k)) n first-length) ∙ ap (take n) whole
          ∙ take_at (part p.domains (row_numbers * j) n) (part p.domains (row_numbers * (j + m)) (row_numbers * k)) n part_length

      pub packed-behind : AsPacked p (j + m) k (a + own_total (read_leaves p j m)) (b + borrowed_total (read_leaves p j m))
      packed-behind =
          let n = row_numbers * m in
          sym (drop_at (stretches a b (read_leaves p j m)) (stretches more end (read_leaves p (j + m) k)) n first-length) ∙ ap (drop n) whole
          ∙ drop_at (part p.domains (row_numbers * j) n) (part p.domains (row_numbers * (j + m)) (row_numbers * k)) n part_length

-- where the borrowed rows of both end
pub end-append : (domains : List ℕ) (m k j b : ℕ) → borrowed_end domains j b (m + k) ≡ borrowed_end domains (j + m) (borrowed_end domains j b m) k
unfolding borrowed_end
end-append domains zero k j b = ap₂ (λ (x y : ℕ). borrowed_end domains y b x) (zero-add k) (sym (add-zero j))
end-append domains (suc m) k j b =
    ap (borrowed_end domains j b) (suc-add m k) ∙ end-append domains m k (suc j) (b + borrowed_count domains j)
    ∙ ap (λ (x : ℕ). borrowed_end domains x (borrowed_end domains (suc j) (b + borrowed_count domains j) m) k) (suc-add j m ∙ sym (add-suc j m))
