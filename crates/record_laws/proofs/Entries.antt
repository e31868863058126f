-- The leaves of cuts, their nodes and their entries in the table: how many, their depths, places and rows; the table read back from its
-- numbers; and the rows and boxes of one depth. Assumes nothing.
-- Holds: leaves-leaf, entries-leaf, nodes-leaf, leaves-cut, entries-cut, nodes-cut, leaf-count-at, leaf-count-leaf,
--   leaf-count-cut, leaf-count-some, node-count-at, node-count-leaf, node-count-cut, node-count, rows-under-leaf, rows-under-cut,
--   boxes-under-leaf, boxes-under-cut, boxes-under-length, entries-depths, entries-count, entries-places, entries-total,
--   entries-read, first_part, second-part, rows_append, rows_at, boxes-append, boxes-at
use mathlib.Core.Path.{◌≡◌, refl, sym, ap, ap₂, ◌∙◌}
use mathlib.Core.Bool.{Bool, true, false}
use mathlib.Core.List.{List, [], ◌∷◌, ◌++◌, map, map-append, head-eq_of_cons-eq, tail-eq_of_cons-eq}
use Prim.Native.Nat.{ℕ, suc, ◌+◌, ◌*◌, ◌≤◌, ◌<◌}
use native.Mathlib.Omega.{arith}
use native.Mathlib.Nat.{add-zero, mul-add, mul-zero, add_assoc}
use lib.Dec.{eqb}
use lib.ListN.{length, get_or, length-append, length-map}
use lib.Ieee.{Float}
use Rattle.lists.specs.Lists.{cons_if, keep, total, joined, part}
use Rattle.lists.specs.Ascends.{All}
use Rattle.lists.proofs.All.{all_append, all_left, all_right, all-imp, all_map}
use Rattle.lists.proofs.Joined.{joined-one, joined-map-append, joined-even}
use Rattle.lists.proofs.Put.{part-part, part-first, part-second, part-cons, part-whole}
use Rattle.lists.proofs.Sums.{sum-append, sum-cons, sum-nil}
use Rattle.definition.specs.Cut.{Domain}
use Rattle.definition.specs.Record.{Cuts, uncut, cut_at, cut_node, leaf_node, leaves_under, depths_of, nodes_from}
use Rattle.record_laws.specs.ByDepth.{at_depth, domain_depth}
use Rattle.record_laws.specs.Table.{Entry, entry_width, entry_numbers, entries_in, unnumbered, node_count, leaf_count, entries_under, rows_under, boxes_under, rows_at_depth, boxes_at_depth}
use Rattle.record_laws.proofs.ByDepth.{at-append}

-- ---- steps
module _ (q : Domain) where
  pub leaves-leaf : leaves_under (uncut q) ≡ q ∷ []
  unfolding leaves_under
  leaves-leaf = refl

  pub entries-leaf : (place : ℕ) → entries_under place (uncut q) ≡ record { depth = q.depth; count = length q.rows; place = place } ∷ []
  unfolding entries_under
  entries-leaf place = refl

pub nodes-leaf : (f : ℕ → ℕ) (k : ℕ) (q : Domain) → nodes_from f k (uncut q) ≡ leaf_node (f k) ∷ []
unfolding nodes_from
nodes-leaf f k q = refl

module _ (a : ℕ) (p : Float) (l r : Cuts) where
  pub leaves-cut : leaves_under (cut_at a p l r) ≡ leaves_under l ++ leaves_under r
  unfolding leaves_under
  leaves-cut = refl

  pub entries-cut : (place : ℕ) → entries_under place (cut_at a p l r) ≡ entries_under (suc place) l ++ entries_under (suc place + node_count l) r
  unfolding entries_under
  entries-cut place = refl

  pub nodes-cut : (f : ℕ → ℕ) (k : ℕ) → nodes_from f k (cut_at a p l r) ≡ cut_node a p ∷ (nodes_from f k l ++ nodes_from f (k + leaf_count l) r)
  unfolding nodes_from leaf_count
  nodes-cut f k = refl

-- ---- how many leaves
pub leaf-count-at : (t : Cuts) → length (leaves_under t) ≡ leaf_count t
unfolding leaf_count
leaf-count-at t = refl

pub leaf-count-leaf : (q : Domain) → leaf_count (uncut q) ≡ 1
unfolding leaf_count leaves_under
leaf-count-leaf q = refl

pub leaf-count-cut : (a : ℕ) (p : Float) (l r : Cuts) → leaf_count (cut_at a p l r) ≡ leaf_count l + leaf_count r
leaf-count-cut a p l r =
    sym (leaf-count-at (cut_at a p l r)) ∙ ap length (leaves-cut a p l r) ∙ length-append (leaves_under l) (leaves_under r)
    ∙ ap₂ ◌+◌ (leaf-count-at l) (leaf-count-at r)

pub leaf-count-some : (t : Cuts) → 1 ≤ leaf_count t
leaf-count-some (uncut q) = omega (arith, leaf-count-leaf q)
leaf-count-some (cut_at a p l r) = omega (arith, leaf-count-cut a p l r, leaf-count-some l)

-- ---- how many nodes
node-any : (t : Cuts) (f g : ℕ → ℕ) (k m : ℕ) → length (nodes_from f k t) ≡ length (nodes_from g m t)
unfolding nodes_from
node-any (uncut q) f g k m = refl
node-any (cut_at a p l r) f g k m =
    let i = k + length (leaves_under l) in
    let j = m + length (leaves_under l) in
    omega (
      arith,
      length-append (nodes_from f k l) (nodes_from f i r),
      length-append (nodes_from g m l) (nodes_from g j r),
      node-any l f g k m,
      node-any r f g i j,
    )

pub node-count-at : (f : ℕ → ℕ) (k : ℕ) (t : Cuts) → length (nodes_from f k t) ≡ node_count t
unfolding node_count
node-count-at f k t = node-any t f unnumbered k 0

pub node-count-leaf : (q : Domain) → node_count (uncut q) ≡ 1
unfolding node_count nodes_from
node-count-leaf q = refl

pub node-count-cut : (a : ℕ) (p : Float) (l r : Cuts) → node_count (cut_at a p l r) ≡ suc (node_count l + node_count r)
node-count-cut a p l r =
    let i = 0 + leaf_count l in
    sym (node-count-at unnumbered 0 (cut_at a p l r)) ∙ ap length (nodes-cut a p l r unnumbered 0)
    ∙ ap suc (length-append (nodes_from unnumbered 0 l) (nodes_from unnumbered i r) ∙ ap₂ ◌+◌ (node-count-at unnumbered 0 l) (node-count-at unnumbered i r))

-- one cut less than leaves
pub node-count : (t : Cuts) → suc (node_count t) ≡ 2 * leaf_count t
node-count (uncut q) = omega (arith, node-count-leaf q, leaf-count-leaf q)
node-count (cut_at a p l r) = omega (arith, node-count-cut a p l r, leaf-count-cut a p l r, node-count l, node-count r)

-- ---- the rows and boxes of the leaves
joined-cut : {B : Type 0} (f : Domain → List B) (a : ℕ) (p : Float) (l r : Cuts)
    → joined (map f (leaves_under (cut_at a p l r))) ≡ joined (map f (leaves_under l)) ++ joined (map f (leaves_under r))
joined-cut f a p l r = rw (leaves-cut a p l r) (joined-map-append f (leaves_under l) (leaves_under r))

joined-leaf : {B : Type 0} (f : Domain → List B) (q : Domain) → joined (map f (leaves_under (uncut q))) ≡ f q
joined-leaf f q = rw (leaves-leaf q) (joined-one (f q))

pub rows-under-leaf : (q : Domain) → rows_under (uncut q) ≡ q.rows
unfolding rows_under
rows-under-leaf q = joined-leaf (λ q. q.rows) q

pub rows-under-cut : (a : ℕ) (p : Float) (l r : Cuts) → rows_under (cut_at a p l r) ≡ rows_under l ++ rows_under r
unfolding rows_under
rows-under-cut a p l r = joined-cut (λ q. q.rows) a p l r

pub boxes-under-leaf : (q : Domain) → boxes_under (uncut q) ≡ q.box
unfolding boxes_under
boxes-under-leaf q = joined-leaf (λ q. q.box) q

pub boxes-under-cut : (a : ℕ) (p : Float) (l r : Cuts) → boxes_under (cut_at a p l r) ≡ boxes_under l ++ boxes_under r
unfolding boxes_under
boxes-under-cut a p l r = joined-cut (λ q. q.box) a p l r

-- boxes of one width
pub boxes-under-length : (w : ℕ) (t : Cuts) → All (λ q. length q.box ≡ w) (leaves_under t) → length (boxes_under t) ≡ w * leaf_count t
unfolding boxes_under
boxes-under-length w t h =
    let bs = map (λ (q : Domain). q.box) (leaves_under t) in
    joined-even w bs (all_map (λ (b : List Float). length b ≡ w) (λ (q : Domain). q.box) (leaves_under t) h)
    ∙ ap (λ (n : ℕ). w * n) (length-map (leaves_under t) (λ (q : Domain). q.box) ∙ leaf-count-at t)

-- ---- the entries
pub entries-depths : (place : ℕ) (t : Cuts) → map (λ x. x.depth) (entries_under place t) ≡ depths_of (leaves_under t)
entries-depths place (uncut q) = rw (entries-leaf q place, leaves-leaf q)
entries-depths place (cut_at a p l r) =
    let g : Entry → ℕ = λ x. x.depth in
    rw (entries-cut a p l r place, leaves-cut a p l r)
    (map-append g (entries_under (suc place) l) (entries_under (suc place + node_count l) r)
    ∙ ap₂ ◌++◌ (entries-depths (suc place) l) (entries-depths (suc place + node_count l) r)
    ∙ sym (map-append domain_depth (leaves_under l) (leaves_under r)))

pub entries-count : (place : ℕ) (t : Cuts) → length (entries_under place t) ≡ leaf_count t
entries-count place t =
    sym (length-map (entries_under place t) (λ (x : Entry). x.depth)) ∙ ap length (entries-depths place t)
    ∙ length-map (leaves_under t) domain_depth ∙ leaf-count-at t

pub entries-places : (place : ℕ) (t : Cuts) → All (λ x. (place ≤ x.place) × (x.place < place + node_count t)) (entries_under place t)
unfolding All
entries-places place (uncut q) = rw (entries-leaf q place) ((omega arith, omega (arith, node-count-leaf q)), tt)
entries-places place (cut_at a p l r) =
    let n = node_count l in
    let c = node-count-cut a p l r in
    let P : Entry → Type 0 = λ x. (place ≤ x.place) × (x.place < place + node_count (cut_at a p l r)) in
    rw (entries-cut a p l r place)
    (all_append P (entries_under (suc place) l) (entries_under (suc place + n) r)
    (all-imp (λ (x : Entry). (suc place ≤ x.place) × (x.place < suc place + node_count l)) P (entries_under (suc place) l)
    (λ x h. (omega (arith, h.0), omega (arith, h.1))) (entries-places (suc place) l))
    (all-imp (λ (x : Entry). (suc place + n ≤ x.place) × (x.place < suc place + n + node_count r)) P (entries_under (suc place + n) r)
    (λ x h. (omega (arith, h.0), omega (arith, h.1))) (entries-places (suc place + n) r)))

pub entries-total : (place : ℕ) (t : Cuts) → total (map (λ x. x.count) (entries_under place t)) ≡ length (rows_under t)
entries-total place (uncut q) =
    let g : Entry → ℕ = λ x. x.count in
    rw (entries-leaf q place, rows-under-leaf q) (omega (arith, sum-cons g record { depth = q.depth; count = length q.rows; place = place } [], sum-nil g))
entries-total place (cut_at a p l r) =
    let g : Entry → ℕ = λ x. x.count in
    rw (entries-cut a p l r place, rows-under-cut a p l r)
    (sum-append g (entries_under (suc place) l) (entries_under (suc place + node_count l) r)
    ∙ ap₂ ◌+◌ (entries-total (suc place) l) (entries-total (suc place + node_count l) r)
    ∙ sym (length-append (rows_under l) (rows_under r)))

-- ---- the table read back
three-cells : (w : List ℕ) (at n : ℕ) → at + (3 + n) ≤ length w → part w at (suc (suc (suc n))) ≡ get_or w at 0 ∷ get_or w (at + 1) 0 ∷ get_or w (at + 2) 0 ∷ part w (at + 3) n
three-cells w at n h =
    let a : at + 1 ≡ suc at = omega arith in
    let b : at + 2 ≡ suc (suc at) = omega arith in
    let c : at + 3 ≡ suc (suc (suc at)) = omega arith in
    rw (a, b, c, part-cons w at (suc (suc n)) 0 (omega arith), part-cons w (suc at) (suc n) 0 (omega arith), part-cons w (suc (suc at)) n 0 (omega arith))

pub entries-read : (w : List ℕ) (at : ℕ) (xs : List Entry) → part w at (entry_width * length xs) ≡ joined (map entry_numbers xs) → at + entry_width * length xs ≤ length w
    → entries_in w at (length xs) ≡ xs
unfolding entries_in joined
entries-read w at [] e h = refl
entries-read w at (x ∷ xs) e h =
    let n = length xs in
    let m : 3 * suc n ≡ suc (suc (suc (3 * n))) = omega arith in
    let e' : part w at (suc (suc (suc (3 * n)))) ≡ x.depth ∷ x.count ∷ x.place ∷ joined (map entry_numbers xs) = ap (part w at) (sym m) ∙ e in
    let k = sym (three-cells w at (3 * n) (omega arith)) ∙ e' in
    let a = head-eq_of_cons-eq k in
    let k1 = tail-eq_of_cons-eq k in
    let b = head-eq_of_cons-eq k1 in
    let k2 = tail-eq_of_cons-eq k1 in
    let c = head-eq_of_cons-eq k2 in
    let rest = entries-read w (at + 3) xs (tail-eq_of_cons-eq k2) (omega arith) in
    rw (a, b, c, rest)

-- ---- one depth
-- a list that stands in another in two stretches
module _ {A : Type 0} (l : List A) (at n m : ℕ) (xs ys : List A) (a : length xs ≡ n) (b : length ys ≡ m) (h : part l at (n + m) ≡ xs ++ ys) where
  pub first_part : part l at n ≡ xs
  first_part = ap (λ (i : ℕ). part l i n) (sym (add-zero at)) ∙ sym (part-part l at (n + m) 0 n (omega arith)) ∙ ap (λ (z : List A). part z 0 n) h ∙ part-first xs ys n a

  pub second-part : part l (at + n) m ≡ ys
  second-part = sym (part-part l at (n + m) n m (omega arith)) ∙ ap (λ (z : List A). part z n m) h ∙ part-second xs ys n m a b

cons-append : {A : Type 0} (b : Bool) (x : A) (xs ys : List A) → cons_if b x (xs ++ ys) ≡ cons_if b x xs ++ ys
cons-append true x xs ys = refl
cons-append false x xs ys = refl

pub rows_append : (e : ℕ) (rows : List ℕ) (at : ℕ) (xs ys : List Entry)
    → rows_at_depth e rows at (xs ++ ys) ≡ rows_at_depth e rows at xs ++ rows_at_depth e rows (at + total (map (λ x. x.count) xs)) ys
unfolding rows_at_depth total
rows_append e rows at [] ys = rw (add-zero at)
rows_append e rows at (x ∷ xs) ys =
    let here = part rows at x.count in
    let rest = total (map (λ (x : Entry). x.count) xs) in
    ap (cons_if (eqb x.depth e) here) (rows_append e rows (at + x.count) xs ys ∙ rw (add_assoc at x.count rest))
    ∙ cons-append (eqb x.depth e) here (rows_at_depth e rows (at + x.count) xs) (rows_at_depth e rows (at + (x.count + rest)) ys)

rows-at-from : (e place : ℕ) (t : Cuts) (rows : List ℕ) (at : ℕ) → part rows at (length (rows_under t)) ≡ rows_under t
    → rows_at_depth e rows at (entries_under place t) ≡ map (λ q. q.rows) (at_depth domain_depth e (leaves_under t))
unfolding rows_at_depth at_depth keep
rows-at-from e place (uncut q) rows at h =
    let h' : part rows at (length q.rows) ≡ q.rows = rw (rows-under-leaf q) at h in
    rw (entries-leaf q place, leaves-leaf q, h') (go (eqb q.depth e))
  where
    go : (b : Bool) → cons_if b q.rows [] ≡ map (λ (q : Domain). q.rows) (cons_if b q [])
    go true = refl
    go false = refl
rows-at-from e place (cut_at a p l r) rows at h =
    let xs = entries_under (suc place) l in
    let ys = entries_under (suc place + node_count l) r in
    let us = leaves_under l in
    let vs = leaves_under r in
    let c = rows-under-cut a p l r in
    let i = length (rows_under l) in
    let j = length (rows_under r) in
    let n : length (rows_under (cut_at a p l r)) ≡ i + j = ap length c ∙ length-append (rows_under l) (rows_under r) in
    let k : part rows at (i + j) ≡ rows_under l ++ rows_under r = ap (part rows at) (sym n) ∙ h ∙ c in
    rw (entries-cut a p l r place, leaves-cut a p l r)
    (rows_append e rows at xs ys
    ∙ ap₂ ◌++◌
    (rows-at-from e (suc place) l rows at (first_part rows at i j (rows_under l) (rows_under r) refl refl k))
    (ap (λ (z : ℕ). rows_at_depth e rows (at + z) ys) (entries-total (suc place) l)
    ∙ rows-at-from e (suc place + node_count l) r rows (at + i) (second-part rows at i j (rows_under l) (rows_under r) refl refl k))
    ∙ sym (ap (map (λ (q : Domain). q.rows)) (at-append domain_depth e us vs) ∙ map-append (λ (q : Domain). q.rows) (at_depth domain_depth e us) (at_depth domain_depth e vs)))

-- the rows of the leaves at depth e
pub rows_at : (e place : ℕ) (t : Cuts) → rows_at_depth e (rows_under t) 0 (entries_under place t) ≡ map (λ q. q.rows) (at_depth domain_depth e (leaves_under t))
rows_at e place t = rows-at-from e place t (rows_under t) 0 (part-whole (rows_under t) (length (rows_under t)) refl)

pub boxes-append : (e w : ℕ) (floats : List Float) (k : ℕ) (xs ys : List Entry)
    → boxes_at_depth e w floats k (xs ++ ys) ≡ boxes_at_depth e w floats k xs ++ boxes_at_depth e w floats (k + length xs) ys
unfolding boxes_at_depth
boxes-append e w floats k [] ys = rw (add-zero k)
boxes-append e w floats k (x ∷ xs) ys =
    let n : suc k + length xs ≡ k + suc (length xs) = omega arith in
    let here = part floats (w * k) w in
    ap (cons_if (eqb x.depth e) here) (boxes-append e w floats (suc k) xs ys ∙ rw n)
    ∙ cons-append (eqb x.depth e) here (boxes_at_depth e w floats (suc k) xs) (boxes_at_depth e w floats (k + suc (length xs)) ys)

boxes-at-from : (e place w : ℕ) (t : Cuts) (floats : List Float) (k : ℕ) → All (λ q. length q.box ≡ w) (leaves_under t)
    → part floats (w * k) (w * leaf_count t) ≡ boxes_under t
    → boxes_at_depth e w floats k (entries_under place t) ≡ map (λ q. q.box) (at_depth domain_depth e (leaves_under t))
unfolding boxes_at_depth at_depth keep
boxes-at-from e place w (uncut q) floats k u h =
    let n : w * leaf_count (uncut q) ≡ w = ap (λ (z : ℕ). w * z) (leaf-count-leaf q) ∙ omega arith in
    let h' : part floats (w * k) w ≡ q.box = ap (part floats (w * k)) (sym n) ∙ h ∙ boxes-under-leaf q in
    rw (entries-leaf q place, leaves-leaf q, h') (go (eqb q.depth e))
  where
    go : (b : Bool) → cons_if b q.box [] ≡ map (λ (q : Domain). q.box) (cons_if b q [])
    go true = refl
    go false = refl
boxes-at-from e place w (cut_at a p l r) floats k u h =
    let P : Domain → Type 0 = λ q. length q.box ≡ w in
    let xs = entries_under (suc place) l in
    let ys = entries_under (suc place + node_count l) r in
    let us = leaves_under l in
    let vs = leaves_under r in
    let u' : All P (us ++ vs) = rw (leaves-cut a p l r) at u in
    let ul = all_left P us vs u' in
    let ur = all_right P us vs u' in
    let i = w * leaf_count l in
    let j = w * leaf_count r in
    let n : w * leaf_count (cut_at a p l r) ≡ i + j = ap (λ (z : ℕ). w * z) (leaf-count-cut a p l r) ∙ mul-add w (leaf_count l) (leaf_count r) in
    let c : part floats (w * k) (i + j) ≡ boxes_under l ++ boxes_under r = ap (part floats (w * k)) (sym n) ∙ h ∙ boxes-under-cut a p l r in
    let bl = boxes-under-length w l ul in
    let br = boxes-under-length w r ur in
    rw (entries-cut a p l r place, leaves-cut a p l r)
    (boxes-append e w floats k xs ys
    ∙ ap₂ ◌++◌
    (boxes-at-from e (suc place) w l floats k ul (first_part floats (w * k) i j (boxes_under l) (boxes_under r) bl br c))
    (ap (λ (z : ℕ). boxes_at_depth e w floats (k + z) ys) (entries-count (suc place) l)
    ∙ boxes-at-from e (suc place + node_count l) w r floats (k + leaf_count l) ur
    (ap (λ (z : ℕ). part floats z j) (mul-add w k (leaf_count l)) ∙ second-part floats (w * k) i j (boxes_under l) (boxes_under r) bl br c))
    ∙ sym (ap (map (λ (q : Domain). q.box)) (at-append domain_depth e us vs) ∙ map-append (λ (q : Domain). q.box) (at_depth domain_depth e us) (at_depth domain_depth e vs)))

-- and their boxes, all of one width
pub boxes-at : (e place w : ℕ) (t : Cuts) (floats : List Float) → All (λ q. length q.box ≡ w) (leaves_under t)
    → part floats 0 (w * leaf_count t) ≡ boxes_under t → boxes_at_depth e w floats 0 (entries_under place t) ≡ map (λ q. q.box) (at_depth domain_depth e (leaves_under t))
boxes-at e place w t floats u h =
    boxes-at-from e place w t floats 0 u (ap (λ (z : ℕ). part floats z (w * leaf_count t)) (mul-zero w) ∙ h)
