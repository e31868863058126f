-- A record that is gone through node by node: what stands at its first node, and what is written of its halves and then of itself. Assumes
-- nothing.
-- Holds: recorded-here, recorded-fits, recorded-leaf, leaf-least, recorded-cut, index-length, Put, put-leaf, put-cut
use mathlib.Core.Path.{◌≡◌, refl, sym, ap, ap₂, ◌∙◌, subst}
use mathlib.Core.Bool.{Bool, true, false, cond}
use mathlib.Core.List.{List, [], ◌∷◌, ◌++◌}
use Prim.Native.Nat.{ℕ, suc, ◌+◌, ◌-◌, ◌*◌, ◌≤◌, ◌<◌, min}
use native.Mathlib.Omega.{arith}
use borrow.Author.Tests.{lt-ltb, le-ltb}
use lib.ListN.{length, get_or, length-append}
use lib.Ieee.{Float, nan}
use Rattle.lists.specs.Lists.{part, put}
use Rattle.lists.proofs.Tests.{clash}
use Rattle.lists.proofs.Put.{put-next-at, put-comm}
use Rattle.definition.specs.Cut.{Domain}
use Rattle.definition.specs.Record.{Cuts, uncut, cut_at, Node, cut_node, leaf_node, whole_of}
use Rattle.packed.specs.Reading.{own_start, own_count}
use Rattle.node.specs.Nodes.{as_node, node_of}
use Rattle.node.specs.declared.Node.{Node as Coded}
use Rattle.node.specs.declared.Node.TheVariants.{Cut, Leaf}
use Rattle.record_laws.specs.Table.{node_count}
use Rattle.record_laws.proofs.Entries.{node-count-leaf, node-count-cut}
use Rattle.cut_index.specs.Filed.{index_width, positions_of}
use Rattle.cut_index.specs.Recorded.{LeafWritten, Recorded, most_whole, least_under, index_of}

-- ---- the node of a whole number and a float
abbrev is_leaf : Node → Bool
is_leaf (cut_node a x) = false
is_leaf (leaf_node k) = true

no-cut : {A : Type 0} (k a : ℕ) (x : Float) → leaf_node k ≡ cut_node a x → A
no-cut k a x e = clash refl (ap is_leaf e)

leaf-of : (whole : ℕ) (x : Float) → 3 ≤ whole → node_of whole x ≡ leaf_node (whole - 3)
leaf-of whole x h = ap (λ (b : Bool). cond b (cut_node whole x) (leaf_node (whole - 3))) (le-ltb whole 3 h)

cut-of : (whole : ℕ) (x : Float) → whole < 3 → node_of whole x ≡ cut_node whole x
cut-of whole x h = ap (λ (b : Bool). cond b (cut_node whole x) (leaf_node (whole - 3))) (lt-ltb whole 3 h)

module _ (active : List ℕ) (cuts : List ℕ) (planes : List Float) (I D : List ℕ) (first m from : ℕ) (positions : List ℕ) where
  abbrev Stands : Cuts → ℕ → Type 0
  Stands = Recorded active cuts planes I D first m from positions

  -- ---- its first node is there
  pub recorded-here : (t : Cuts) (at : ℕ) → Stands t at → (at < length cuts) × (at < length planes)
  unfolding Recorded
  recorded-here (uncut q) at h = (h.here, h.here_too)
  recorded-here (cut_at a x l r) at h = (h.0.here, h.0.here_too)

  -- and the last one too
  pub recorded-fits : (t : Cuts) (at : ℕ) → Stands t at → at + node_count t ≤ length cuts
  unfolding Recorded
  recorded-fits (uncut q) at h = omega (arith, h.here, node-count-leaf q)
  recorded-fits (cut_at a x l r) at h = omega (arith, recorded-fits r (suc at + node_count l) h.2, node-count-cut a x l r)

  -- where it is a leaf's, with its number, the domain is a leaf
  pub recorded-leaf : (t : Cuts) (at : ℕ) → Stands t at → (n : Coded) → as_node n ≡ node_of (get_or cuts at 0) (get_or planes at nan) → (k : ℕ) → n ≡ Leaf k
      → (q : Domain) × (t ≡ uncut q) × (w : LeafWritten active cuts planes I D first m from positions q at) × (w.number ≡ k)
  unfolding Recorded
  recorded-leaf (uncut q) at h n e k is =
      let s : 3 + k ≡ 3 + h.number = ap whole_of (sym (ap as_node is) ∙ e ∙ leaf-of (get_or cuts at 0) (get_or planes at nan) (omega (arith, h.whole))) ∙ omega (arith, h.whole) in
      (q, refl, h, omega arith)
  recorded-leaf (cut_at a x l r) at h n e k is =
      let c = h.0 in
      no-cut k (get_or cuts at 0) (get_or planes at nan) (sym (ap as_node is) ∙ e ∙ cut-of (get_or cuts at 0) (get_or planes at nan) (omega (arith, c.axis, c.few)))

  -- the first of the positions of its rows is the least
  pub leaf-least : (q : Domain) (at k : ℕ) (w : LeafWritten active cuts planes I D first m from positions q at) → w.number ≡ k
      → (least : ℕ) → least ≡ get_or (part positions (own_start D (first + k) - from) (own_count D (first + k))) 0 most_whole → least ≡ least_under active (uncut q)
  unfolding least_under
  leaf-least q at k w e least is =
      let places : part positions (own_start D (first + k) - from) (own_count D (first + k)) ≡ positions_of active q.rows = rw (← e) w.places in
      is ∙ ap (λ (l : List ℕ). get_or l 0 most_whole) places

  -- where it is a cut's, the domain is cut, and its halves stand behind it
  pub recorded-cut : (t : Cuts) (at : ℕ) → Stands t at → (n : Coded) → as_node n ≡ node_of (get_or cuts at 0) (get_or planes at nan) → (a : ℕ) (x : Float) → n ≡ Cut a x
      → (b : ℕ) × (y : Float) × (l : Cuts) × (r : Cuts) × (t ≡ cut_at b y l r) × Stands l (at + 1) × Stands r (at + 1 + node_count l)
  unfolding Recorded
  recorded-cut (uncut q) at h n e a x is =
      no-cut (get_or cuts at 0 - 3) a x (sym (leaf-of (get_or cuts at 0) (get_or planes at nan) (omega (arith, h.whole))) ∙ sym e ∙ ap as_node is)
  recorded-cut (cut_at b y l r) at h n e a x is =
      let s : suc at ≡ at + 1 = omega arith in
      (b, y, l, r, refl, subst (λ (k : ℕ). Stands l k) s h.1, subst (λ (k : ℕ). Stands r (k + node_count l)) s h.2)

-- ---- what is written
pub index-length : (active : List ℕ) (t : Cuts) (at : ℕ) → length (index_of active t at) ≡ index_width * node_count t
unfolding index_of
index-length active (uncut q) at = omega (arith, node-count-leaf q)
index-length active (cut_at a x l r) at =
    omega (
      arith,
      node-count-cut a x l r,
      length-append (index_of active l (suc at)) (index_of active r (suc at + node_count l)),
      index-length active l (suc at),
      index-length active r (suc at + node_count l),
    )

-- what a call answers, and what it has written, of a domain whose record stands from `at` on
abbrev pub Put : List ℕ → Cuts → ℕ → ℕ → ℕ → List ℕ → List ℕ → Type 0
Put active t at next least old new = (next ≡ at + node_count t) × (least ≡ least_under active t) × (new ≡ put old (index_width * at) (index_of active t at))

-- a leaf's entry
pub put-leaf : (active : List ℕ) (q : Domain) (at least : ℕ) (old new : List ℕ) → least ≡ least_under active (uncut q) → new ≡ put old (index_width * at) (0 ∷ least ∷ [])
    → Put active (uncut q) at (at + 1) least old new
unfolding index_of
put-leaf active q at least old new e n = (omega (arith, node-count-leaf q), e, n ∙ ap (λ (z : ℕ). put old (index_width * at) (0 ∷ z ∷ [])) e)

-- both halves, and then the entry of the cut
pub put-cut : (active : List ℕ) (a : ℕ) (x : Float) (l r : Cuts) (at nl ml nr mr least : ℕ) (old one two new : List ℕ)
    → index_width * (at + 1 + node_count l + node_count r) ≤ length old → Put active l (at + 1) nl ml old one → Put active r nl nr mr one two → least ≡ min ml mr
    → new ≡ put two (index_width * at) (nl ∷ least ∷ []) → Put active (cut_at a x l r) at nr least old new
unfolding index_of least_under
put-cut active a x l r at nl ml nr mr least old one two new h el er e n =
    let xs = index_of active l (suc at) in
    let ys = index_of active r (suc at + node_count l) in
    let p = index_width * (at + 1) in
    let s : at + 1 ≡ suc at = omega arith in
    let t : nl ≡ suc at + node_count l = omega (arith, el.0) in
    let v : least ≡ min (least_under active l) (least_under active r) = e ∙ ap₂ min el.1 er.1 in
    let first : one ≡ put old p xs = el.2 ∙ ap (λ (k : ℕ). put old p (index_of active l k)) s in
    let both : two ≡ put old p (xs ++ ys) =
    er.2 ∙ ap₂ (λ (z : List ℕ) (k : ℕ). put z (index_width * k) (index_of active r k)) first t
    ∙ put-next-at old p xs ys (index_width * (suc at + node_count l)) (omega arith) (omega (arith, index-length active l (suc at))) in (
      omega (arith, er.0, el.0, node-count-cut a x l r),
      v,
      n ∙ ap (λ (z : List ℕ). put z (index_width * at) (nl ∷ least ∷ [])) both
          ∙ sym (put-comm old (index_width * at) (nl ∷ least ∷ []) p (xs ++ ys) (omega arith) (omega arith))
          ∙ put-next-at old (index_width * at) (nl ∷ least ∷ []) (xs ++ ys) p (omega arith) (omega arith)
          ∙ ap₂ (λ (b k : ℕ). put old (index_width * at) (b ∷ k ∷ (xs ++ ys))) t v,
    )
