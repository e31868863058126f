-- The queue gives the leaves the numbers of the record: by depth, the leaves have the numbers 0, 1, 2, .., and so they come out of the
-- queue. Assumes nothing.
use mathlib.Core.Path.{◌≡◌, refl, sym, ap, ap₂, subst, ◌∙◌}
use mathlib.Core.Logic.{⊎_elim}
use mathlib.Core.List.{List, [], ◌∷◌, ◌++◌, map, map-append, map-map, append_assoc, head-eq_of_cons-eq, tail-eq_of_cons-eq}
use Prim.Native.Nat.{ℕ, zero, suc, ◌+◌, ◌≤◌, ◌<◌}
use native.Mathlib.Omega.{arith}
use native.Mathlib.Nat.{add-zero, zero-add}
use borrow.Author.Tests.{eq-eqb, ne_eqb, le-ltb, lt-ltb}
use lib.Dec.{eqb, ltb}
use lib.ListN.{length, length-map, length-append}
use lib.Seq.{get_or_at, take_at}
use lib.Ieee.{Float}
use Rattle.lists.specs.Lists.{count, from, joined}
use Rattle.lists.specs.Ascends.{All}
use Rattle.lists.proofs.Tests.{same_or}
use Rattle.lists.proofs.All.{all-mem, all_map, map-all, all-imp}
use Rattle.lists.proofs.Count.{count-append, count_none, count-all, count_next}
use Rattle.lists.proofs.From.{from-append, length_from}
use Rattle.definition.specs.Cut.{Domain, root_domain}
use Rattle.definition.specs.Record.{leaf_number, depths_of}
use Rattle.definition.specs.Tree.{most_depth}
use Rattle.rows.specs.Rows.{GoodRows}
use Rattle.record_laws.specs.Table.{cuts_at, leaf_count}
use Rattle.record_laws.specs.ByDepth.{at_depth, by_depth}
use Rattle.record_laws.proofs.ByDepth.{deep_leaves, at-nil, at_one, at_other, queue-by-depth}
use Rattle.record_laws.proofs.Depths.{level_leaves, depth-most}
use Rattle.record_laws.proofs.Placed.{Placed, root_placed, domains_of, placed_kind, placed_leaves, under-domains, under-indices}
use Rattle.record_laws.proofs.Steps.{level-cuts}
use Rattle.record_laws.proofs.Entries.{leaf-count-at}

-- the number of a leaf that stands behind others of the depths xs
number_at : (xs ys : List ℕ) (k : ℕ) → leaf_number (xs ++ k ∷ ys) (length xs) ≡ count (λ x. ltb x k) (xs ++ k ∷ ys) + count (λ x. eqb x k) xs
unfolding leaf_number
number_at xs ys k = rw (get_or_at xs k ys 0 (length xs) refl, take_at xs (k ∷ ys) (length xs) refl)

here-nil : (e : ℕ) → count (λ x. eqb x e) [] ≡ 0
unfolding count
here-nil e = refl

here_one : (e k : ℕ) (xs : List ℕ) → k ≡ e → count (λ x. eqb x e) (k ∷ xs) ≡ suc (count (λ x. eqb x e) xs)
unfolding count
here_one e k xs h = rw (eq-eqb k e h) (omega arith)

here_other : (e k : ℕ) (xs : List ℕ) → (k ≡ e → ⊥) → count (λ x. eqb x e) (k ∷ xs) ≡ count (λ x. eqb x e) xs
unfolding count
here_other e k xs h = rw (ne_eqb k e h) (omega arith)

-- ---- leaves that know how many leaves stand to their left
module _ {D : Type 0} (depth_of index_of : D → ℕ) (ds : List ℕ) where
  -- how many are less deep than e, and how many are at depth e
  abbrev above : ℕ → ℕ
  above e = count (λ x. ltb x e) ds

  abbrev here : ℕ → List ℕ → ℕ
  here e xs = count (λ x. eqb x e) xs

  abbrev number_of : D → ℕ
  number_of f = leaf_number ds (index_of f)

  -- those at depth e, of the leaves ys behind others of the depths xs
  at-numbers : (e : ℕ) (xs : List ℕ) (ys : List D) → ds ≡ xs ++ map depth_of ys → map index_of ys ≡ from (length xs) (length ys)
      → map number_of (at_depth depth_of e ys) ≡ from (above e + here e xs) (here e (map depth_of ys))
  unfolding from
  at-numbers e xs [] split order = rw (at-nil depth_of e, here-nil e)
  at-numbers e xs (y ∷ ys) split order =
      let k = depth_of y in
      let xs₁ = xs ++ k ∷ [] in
      let split₁ : ds ≡ xs₁ ++ map depth_of ys = split ∙ sym (append_assoc xs (k ∷ []) (map depth_of ys)) in
      let long : suc (length xs) ≡ length xs₁ = sym (length-append xs (k ∷ []) ∙ omega arith) in
      let order₁ : map index_of ys ≡ from (length xs₁) (length ys) = tail-eq_of_cons-eq order ∙ ap (λ (z : ℕ). from z (length ys)) long in
      let first : index_of y ≡ length xs = head-eq_of_cons-eq order in
      let rest = at-numbers e xs₁ ys split₁ order₁ in
      let more = count-append (λ x. eqb x e) xs (k ∷ []) in
      ⊎_elim
      (λ (q : k ≡ e).
      let one : here e xs₁ ≡ suc (here e xs) = omega (arith, more, here_one e k [] q, here-nil e) in
      let m : above e + here e xs₁ ≡ suc (above e + here e xs) = omega (arith, one) in
      let is : number_of y ≡ above e + here e xs = rw (first, split) (number_at xs (map depth_of ys) k) ∙ ap (λ (z : ℕ). above z + here z xs) q in
      rw (at_one depth_of e y ys q, here_one e k (map depth_of ys) q, is) (ap (λ (l : List ℕ). (above e + here e xs) ∷ l) (rest ∙ rw m)))
      (λ (q : k ≡ e → ⊥).
      let none : here e xs₁ ≡ here e xs = omega (arith, more, here_other e k [] q, here-nil e) in
      rw (at_other depth_of e y ys q, here_other e k (map depth_of ys) q, ← none) rest)
      (same_or k e)

module _ {D : Type 0} (depth_of index_of : D → ℕ) (fs : List D) (order : map index_of fs ≡ from 0 (length fs)) where
  abbrev ds : List ℕ
  ds = map depth_of fs

  abbrev number_in : D → ℕ
  number_in f = leaf_number ds (index_of f)

  -- how many are less deep than e
  abbrev less : ℕ → ℕ
  less e = count (λ x. ltb x e) ds

  -- those at depth e
  depth-numbers : (e : ℕ) → map number_in (at_depth depth_of e fs) ≡ from (less e) (count (λ x. eqb x e) ds)
  depth-numbers e = at-numbers depth_of index_of ds e [] fs refl order ∙ ap (λ (z : ℕ). from z (count (λ x. eqb x e) ds)) (omega (arith, here-nil e))

  -- those at the n depths from a on: m of them
  depths-numbers : (a n : ℕ) → (m : ℕ) × (less a + m ≡ less (a + n)) × (map number_in (joined (map (λ e. at_depth depth_of e fs) (from a n))) ≡ from (less a) m)
  unfolding joined from
  depths-numbers a zero = (0, omega (arith, ap less (add-zero a)), refl)
  depths-numbers a (suc n) =
      let i = depths-numbers (suc a) n in
      let k = count (λ x. eqb x a) ds in
      let c = count_next (λ (x : ℕ). x) a ds in
      let s : suc a + n ≡ a + suc n = omega arith in
      let g : less (suc a + n) ≡ less (a + suc n) = ap less s in
      let one = at_depth depth_of a fs in
      let rest = joined (map (λ e. at_depth depth_of e fs) (from (suc a) n)) in (
        k + i.0,
        omega (arith, c, i.1, g),
        map-append number_in one rest ∙ ap₂ ◌++◌ (depth-numbers a) (i.2 ∙ ap (λ (z : ℕ). from z i.0) c) ∙ sym (from-append (less a) k i.0),
      )

  -- all, by depth
  pub by-depth-numbers : (most : ℕ) → All (λ f. depth_of f ≤ most) fs → map number_in (by_depth depth_of most fs) ≡ from 0 (length fs)
  unfolding by_depth
  by-depth-numbers most h =
      let i = depths-numbers 0 (suc most) in
      let none : less 0 ≡ 0 = count_none (λ x. ltb x 0) ds (λ x m. le-ltb x 0 (omega arith)) in
      let all : less (suc most) ≡ length fs =
      count-all (λ x. ltb x (suc most)) ds
      (λ x m. let b = all-mem (λ (z : ℕ). z ≤ most) ds (all_map (λ (z : ℕ). z ≤ most) depth_of fs h) x m in lt-ltb x (suc most) (omega arith))
      ∙ length-map fs depth_of in
      let s : less (0 + suc most) ≡ less (suc most) = ap less (zero-add (suc most)) in
      i.2 ∙ ap₂ from none (omega (arith, i.1, none, all, s))

-- ---- a level: what comes out of the queue
module _ (d : ℕ) (cs : List Float) (leaf : ℕ) (pos : 0 < d) (lp : 1 ≤ leaf) (active : List ℕ) (g : GoodRows d cs active) (some : 1 ≤ length active) where
  -- THE LAW: its leaves come out of the queue with the numbers 0, 1, 2, .. of the record
  pub placed-numbers : (place : ℕ)
      → map (λ w. leaf_number (depths_of (level_leaves d cs leaf active)) w.index) (placed_leaves d cs leaf (root_placed d cs active place ∷ []))
      ≡ from 0 (length (placed_leaves d cs leaf (root_placed d cs active place ∷ [])))
  unfolding root_domain
  placed-numbers place =
      let K = placed_kind d cs leaf pos lp in
      let w = root_placed d cs active place in
      let n = length active in
      let fs = deep_leaves K n w in
      let most = n + most_depth in
      let depth_of : Placed → ℕ = λ w. w.domain.depth in
      let number : Placed → ℕ = λ w. leaf_number (depths_of (level_leaves d cs leaf active)) w.index in
      let same : domains_of fs ≡ level_leaves d cs leaf active = under-domains d cs leaf pos lp n w g some (omega arith) ∙ rw (level-cuts d cs leaf active) in
      let depths : map depth_of fs ≡ depths_of (level_leaves d cs leaf active) = sym (map-map (λ (q : Domain). q.depth) (λ (w : Placed). w.domain) fs) ∙ ap depths_of same in
      let long : length fs ≡ leaf_count (cuts_at d cs leaf w.domain) = sym (length-map fs (λ (w : Placed). w.domain)) ∙ ap length same ∙ rw (level-cuts d cs leaf active) (leaf-count-at (cuts_at d cs leaf w.domain)) in
      let order : map (λ (w : Placed). w.index) fs ≡ from 0 (length fs) = under-indices d cs leaf pos lp n w g some (omega arith) ∙ ap (from 0) (sym long) in
      let few : All (λ (w : Placed). w.domain.depth ≤ most) fs =
      map-all (λ (q : Domain). q.depth ≤ most) (λ (w : Placed). w.domain) fs
      (subst (All (λ (q : Domain). q.depth ≤ most)) (sym same)
      (all-imp (λ (q : Domain). q.depth ≤ most_depth) (λ (q : Domain). q.depth ≤ most) (level_leaves d cs leaf active) (λ q h. omega arith) (depth-most d cs pos leaf lp active g some g.few))) in
      let out : placed_leaves d cs leaf (w ∷ []) ≡ by_depth depth_of most fs = queue-by-depth K lp w g some refl n most (omega arith) (omega arith) in
      let named : map number (placed_leaves d cs leaf (w ∷ [])) ≡ from 0 (length fs) =
      ap (map number) out ∙ ap (λ (ds : List ℕ). map (λ (w : Placed). leaf_number ds w.index) (by_depth depth_of most fs)) (sym depths) ∙ by-depth-numbers depth_of (λ w. w.index) fs order most few in
      named ∙ ap (from 0) (sym (length_from 0 (length fs)) ∙ ap length (sym named) ∙ length-map (placed_leaves d cs leaf (w ∷ [])) number)
