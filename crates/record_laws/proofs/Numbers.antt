-- The numbers of the leaves: two passes over the table number them as the record has it, and the number of a leaf is its place among the
-- leaves by depth, so the leaf that the record calls k is the level's domain k. Assumes nothing.
-- Holds: at_count, pass_value, numbered-append, numbered-pass, numbered-record, before-count, at_names, number-names, level-names
use mathlib.Core.Path.{◌≡◌, refl, sym, ap, ap₂, ◌∙◌}
use mathlib.Core.Logic.{◌⊎◌, ⊎_elim}
use mathlib.Core.Bool.{Bool, true, false, cond}
use mathlib.Core.List.{List, [], ◌∷◌, ◌++◌, map, map-map, map-append, head-eq_of_cons-eq, tail-eq_of_cons-eq}
use Prim.Native.Nat.{ℕ, zero, suc, ◌+◌, ◌-◌, ◌≤◌, ◌<◌}
use native.Mathlib.Omega.{arith}
use native.Mathlib.Nat.{add-zero, zero-add, add_assoc}
use borrow.Author.Tests.{eq-eqb, ne_eqb, le-ltb}
use lib.Dec.{eqb, ltb}
use lib.ListN.{length, get_or, take, set, length-append, length-map, get_or-append}
use lib.Seq.{get_or-append-add, take-append-le, take-append-add, set-get_or, take_at}
use lib.Ieee.{Float}
use Rattle.lists.specs.Lists.{one_if, count, total, from, part, put}
use Rattle.lists.proofs.Tests.{same_or}
use Rattle.lists.proofs.All.{all-at, all-mem, all_map}
use Rattle.lists.proofs.Count.{count-append, count-halves, count-more, count_none, count_map, count_next, length-keep}
use Rattle.lists.proofs.Sums.{sum-below-nil, sum-below-snoc}
use Rattle.lists.proofs.Map.{take-map, get_d-map-in}
use Rattle.lists.proofs.Joined.{get_d-joined}
use Rattle.lists.proofs.From.{from-append, length_from, length-map-from, get_d-map-below}
use Rattle.lists.proofs.Put.{length-put, put-part, put-next-at, put-over, put-before, set-put, get_d-put-before, part-put-after, part-put-same, part-cons}
use Rattle.definition.specs.Cut.{Domain, leaves_of}
use Rattle.definition.specs.Record.{Cuts, uncut, cut_at, leaves_under, depths_of, leaf_number, whole_of, nodes_from}
use Rattle.rows.specs.Rows.{GoodRows}
use Rattle.record_laws.specs.ByDepth.{at_depth, by_depth, domain_depth}
use Rattle.record_laws.specs.Table.{Entry, unnumbered, node_count, leaf_count, entries_under, set_if, numbered}
use Rattle.record_laws.proofs.ByDepth.{at_one, at_other, level-by-depth}
use Rattle.record_laws.proofs.Depths.{TwoDepths, level_leaves}
use Rattle.record_laws.proofs.Entries.{leaves-leaf, leaves-cut, nodes-leaf, nodes-cut, entries-leaf, entries-cut, leaf-count-at, leaf-count-leaf, leaf-count-cut, node-count-at, node-count-leaf, node-count-cut, entries-depths, first_part, second-part}

-- ---- the leaves at a depth, counted
pub at_count : {D : Type 0} (depth_of : D → ℕ) (e : ℕ) (fs : List D) → length (at_depth depth_of e fs) ≡ count (λ x. eqb x e) (map depth_of fs)
unfolding at_depth
at_count depth_of e fs = length-keep (λ f. eqb (depth_of f) e) fs ∙ sym (count_map depth_of (λ x. eqb x e) fs)

-- ---- one pass

-- what a pass leaves for the i-th leaf: its number where it is at depth e, and what it had otherwise
unfoldable pub pass_value : ℕ → ℕ → List ℕ → ℕ → ℕ → ℕ
pass_value e number depths i old = cond (eqb (get_or depths i 0) e) (number + count (λ x. eqb x e) (take i depths)) old

pub numbered-append : (e number : ℕ) (xs ys : List Entry) (cuts : List ℕ)
    → numbered e number (xs ++ ys) cuts ≡ numbered e (number + count (λ x. eqb x.depth e) xs) ys (numbered e number xs cuts)
unfolding numbered count
numbered-append e number [] ys cuts = rw (add-zero number)
numbered-append e number (x ∷ xs) ys cuts =
    rw (← (add_assoc number (one_if (eqb x.depth e)) (count (λ (x : Entry). eqb x.depth e) xs)))
    (numbered-append e (number + one_if (eqb x.depth e)) xs ys (set_if (eqb x.depth e) cuts x.place (3 + number)))

module _ (e number : ℕ) where
  pass-first : (m old : ℕ) → pass_value e number (m ∷ []) 0 old ≡ cond (eqb m e) number old
  unfolding pass_value count
  pass-first m old = rw (add-zero number)

  pass-left : (xs ys : List ℕ) (i old : ℕ) → i < length xs → pass_value e number (xs ++ ys) i old ≡ pass_value e number xs i old
  unfolding pass_value
  pass-left xs ys i old h = rw (get_or-append xs ys 0 i h, take-append-le i xs ys (omega arith))

  pass-right : (xs ys : List ℕ) (i old : ℕ) → pass_value e number (xs ++ ys) (length xs + i) old ≡ pass_value e (number + count (λ x. eqb x e) xs) ys i old
  unfolding pass_value
  pass-right xs ys i old =
      rw (
        get_or-append-add xs ys i 0,
        take-append-add xs ys i,
        count-append (λ x. eqb x e) xs (take i ys),
        add_assoc number (count (λ x. eqb x e) xs) (count (λ x. eqb x e) (take i ys)),
      )

-- the whole numbers of the nodes
abbrev wholes : (ℕ → ℕ) → ℕ → Cuts → List ℕ
wholes f k t = map whole_of (nodes_from f k t)

wholes-length : (f : ℕ → ℕ) (k : ℕ) (t : Cuts) → length (wholes f k t) ≡ node_count t
wholes-length f k t = length-map (nodes_from f k t) whole_of ∙ node-count-at f k t

wholes-leaf : (f : ℕ → ℕ) (k : ℕ) (q : Domain) → wholes f k (uncut q) ≡ (3 + f k) ∷ []
wholes-leaf f k q = ap (map whole_of) (nodes-leaf f k q)

wholes-cut : (f : ℕ → ℕ) (k a : ℕ) (p : Float) (l r : Cuts) → wholes f k (cut_at a p l r) ≡ a ∷ (wholes f k l ++ wholes f (k + leaf_count l) r)
wholes-cut f k a p l r =
    ap (map whole_of) (nodes-cut a p l r f k) ∙ ap (λ (z : List ℕ). a ∷ z) (map-append whole_of (nodes_from f k l) (nodes_from f (k + leaf_count l) r))

-- a list with a stretch whose first entry it has already
put_first : (l : List ℕ) (at a : ℕ) (xs : List ℕ) → at + suc (length xs) ≤ length l → get_or l at 0 ≡ a → put l (suc at) xs ≡ put l at (a ∷ xs)
put_first l at a xs h g =
    let s : at + 1 ≡ suc at = omega arith in
    let b = put-before l at a xs (omega arith) in
    let b' : set (put l (suc at) xs) at a ≡ put l at (a ∷ xs) = ap (λ (z : ℕ). set (put l z xs) at a) (sym s) ∙ b in
    let c : get_or (put l (suc at) xs) at 0 ≡ a = get_d-put-before l (suc at) xs at 0 (omega arith) (omega arith) ∙ g in
    sym (set-get_or (put l (suc at) xs) at 0) ∙ ap (set (put l (suc at) xs) at) c ∙ b'

-- what a pass over the entries of a domain does, where k leaves stand to the left: f gives the numbers before, and g those after
abbrev Passes : ℕ → ℕ → ℕ → Cuts → (ℕ → ℕ) → (ℕ → ℕ) → Type 0
Passes e number k t f g = (i : ℕ) → i < leaf_count t → g (k + i) ≡ pass_value e number (depths_of (leaves_under t)) i (f (k + i))

pass-leaf : (e number place k : ℕ) (q : Domain) (f g : ℕ → ℕ) (cuts : List ℕ) → place + node_count (uncut q) ≤ length cuts
    → part cuts place (node_count (uncut q)) ≡ wholes f k (uncut q) → Passes e number k (uncut q) f g
    → numbered e number (entries_under place (uncut q)) cuts ≡ put cuts place (wholes g k (uncut q))
unfolding numbered
pass-leaf e number place k q f g cuts h old v =
    let n = node-count-leaf q in
    let w : part cuts place 1 ≡ (3 + f k) ∷ [] = ap (part cuts place) (sym n) ∙ old ∙ wholes-leaf f k q in
    let at0 : pass_value e number (depths_of (leaves_under (uncut q))) 0 (f (k + 0)) ≡ pass_value e number (q.depth ∷ []) 0 (f k) =
    rw (leaves-leaf q, add-zero k) in
    let v0 : g k ≡ cond (eqb q.depth e) number (f k) = ap g (sym (add-zero k)) ∙ v 0 (omega (arith, leaf-count-leaf q)) ∙ at0 ∙ pass-first e number q.depth (f k) in
    ap (λ (es : List Entry). numbered e number es cuts) (entries-leaf q place)
    ∙ step (eqb q.depth e) (g k) (omega arith) w v0
    ∙ ap (put cuts place) (sym (wholes-leaf g k q))
  where
    step : (b : Bool) (new : ℕ) → place + 1 ≤ length cuts → part cuts place 1 ≡ (3 + f k) ∷ [] → new ≡ cond b number (f k)
        → set_if b cuts place (3 + number) ≡ put cuts place ((3 + new) ∷ [])
    step true new h w v = rw v (set-put cuts place (3 + number) (omega arith))
    step false new h w v = rw v (sym (ap (put cuts place) (sym w) ∙ put-part cuts place 1 h))

module _ (a : ℕ) (p : Float) (l r : Cuts) (e number k : ℕ) (f g : ℕ → ℕ) (v : Passes e number k (cut_at a p l r) f g) where
  abbrev dl : List ℕ
  dl = depths_of (leaves_under l)

  abbrev dr : List ℕ
  dr = depths_of (leaves_under r)

  split : depths_of (leaves_under (cut_at a p l r)) ≡ dl ++ dr
  split = ap depths_of (leaves-cut a p l r) ∙ map-append domain_depth (leaves_under l) (leaves_under r)

  left-long : length dl ≡ leaf_count l
  left-long = length-map (leaves_under l) domain_depth ∙ leaf-count-at l

  passes-left : Passes e number k l f g
  passes-left i h =
      v i (omega (arith, leaf-count-cut a p l r)) ∙ ap (λ (ds : List ℕ). pass_value e number ds i (f (k + i))) split
      ∙ pass-left e number dl dr i (f (k + i)) (omega (arith, left-long))

  passes-right : Passes e (number + count (λ x. eqb x e) dl) (k + leaf_count l) r f g
  passes-right i h =
      let j = leaf_count l + i in
      let s : k + leaf_count l + i ≡ k + j = omega arith in
      rw s
      (v j (omega (arith, leaf-count-cut a p l r)) ∙ ap (λ (ds : List ℕ). pass_value e number ds j (f (k + j))) split
      ∙ ap (λ (z : ℕ). pass_value e number (dl ++ dr) (z + i) (f (k + j))) (sym left-long) ∙ pass-right e number dl dr i (f (k + j)))

-- THE PASS
pub numbered-pass : (e number place k : ℕ) (t : Cuts) (f g : ℕ → ℕ) (cuts : List ℕ) → place + node_count t ≤ length cuts
    → part cuts place (node_count t) ≡ map whole_of (nodes_from f k t)
    → ((i : ℕ) → i < leaf_count t → g (k + i) ≡ pass_value e number (depths_of (leaves_under t)) i (f (k + i)))
    → numbered e number (entries_under place t) cuts ≡ put cuts place (map whole_of (nodes_from g k t))
numbered-pass e number place k (uncut q) f g cuts h old v = pass-leaf e number place k q f g cuts h old v
numbered-pass e number place k (cut_at a p l r) f g cuts h old v =
    let n = node-count-cut a p l r in
    let nl = node_count l in
    let nr = node_count r in
    let j = k + leaf_count l in
    let xs = entries_under (suc place) l in
    let ys = entries_under (suc place + nl) r in
    let fl = wholes f k l in
    let fr = wholes f j r in
    let gl = wholes g k l in
    let gr = wholes g j r in
    let long = wholes-length g k l in
    let c = count (λ x. eqb x e) (depths_of (leaves_under l)) in
    let was : get_or cuts place 0 ∷ part cuts (suc place) (nl + nr) ≡ a ∷ (fl ++ fr) =
    sym (part-cons cuts place (nl + nr) 0 (omega arith)) ∙ ap (part cuts place) (sym n) ∙ old ∙ wholes-cut f k a p l r in
    let rest = tail-eq_of_cons-eq was in
    let head = head-eq_of_cons-eq was in
    let pl = first_part cuts (suc place) nl nr fl fr (wholes-length f k l) (wholes-length f j r) rest in
    let pr = second-part cuts (suc place) nl nr fl fr (wholes-length f k l) (wholes-length f j r) rest in
    let mid = put cuts (suc place) gl in
    let il : numbered e number xs cuts ≡ mid = numbered-pass e number (suc place) k l f g cuts (omega arith) pl (passes-left a p l r e number k f g v) in
    let ml : length mid ≡ length cuts = length-put cuts (suc place) gl (omega arith) in
    let mr : part mid (suc place + nl) nr ≡ fr = part-put-after cuts (suc place) gl (suc place + nl) nr (omega arith) (omega arith) ∙ pr in
    let ir = numbered-pass e (number + c) (suc place + nl) j r f g mid (omega arith) mr (passes-right a p l r e number k f g v) in
    let many : number + count (λ (x : Entry). eqb x.depth e) xs ≡ number + c =
    ap (λ (z : ℕ). number + z) (sym (count_map (λ (x : Entry). x.depth) (λ x. eqb x e) xs) ∙ ap (count (λ x. eqb x e)) (entries-depths (suc place) l)) in
    ap (λ (es : List Entry). numbered e number es cuts) (entries-cut a p l r place)
    ∙ numbered-append e number xs ys cuts
    ∙ ap₂ (λ (z : ℕ) (cs : List ℕ). numbered e z ys cs) many il
    ∙ ir
    ∙ put-next-at cuts (suc place) gl gr (suc place + nl) (omega arith) (omega arith)
    ∙ put_first cuts place a (gl ++ gr) (omega (arith, length-append gl gr, wholes-length g j r)) head
    ∙ ap (put cuts place) (sym (wholes-cut g k a p l r))

-- ---- two passes

-- none of two depths is less than the first, and those less than the second are those at the first
module _ {D : Type 0} (depth_of : D → ℕ) (e : ℕ) (fs : List D) (two : TwoDepths depth_of e fs) where
  none-less : count (λ x. ltb x e) (map depth_of fs) ≡ 0
  none-less =
      count_map depth_of (λ x. ltb x e) fs
      ∙ count_none (λ (f : D). ltb (depth_of f) e) fs
      (λ f q. le-ltb (depth_of f) e
      (⊎_elim (λ (i : depth_of f ≡ e). omega arith) (λ (i : depth_of f ≡ suc e). omega arith)
      (all-mem (λ (f : D). (depth_of f ≡ e) ⊎ (depth_of f ≡ suc e)) fs two f q)))

  less-next : count (λ x. ltb x (suc e)) (map depth_of fs) ≡ count (λ x. eqb x e) (map depth_of fs)
  less-next = omega (arith, count_next (λ (x : ℕ). x) e (map depth_of fs), none-less)

  depth_at : (i : ℕ) → i < length fs → (get_or (map depth_of fs) i 0 ≡ e) ⊎ (get_or (map depth_of fs) i 0 ≡ suc e)
  depth_at i h =
      all-at (λ x. (x ≡ e) ⊎ (x ≡ suc e)) (map depth_of fs) i 0
      (all_map (λ x. (x ≡ e) ⊎ (x ≡ suc e)) depth_of fs two)
      (omega (arith, length-map fs depth_of))

  -- the leaf's number is what the two passes leave
  both-passes : (c i : ℕ) → c ≡ length (at_depth depth_of e fs) → i < length fs → leaf_number (map depth_of fs) i ≡ pass_value (suc e) c (map depth_of fs) i (pass_value e 0 (map depth_of fs) i 0)
  unfolding pass_value leaf_number
  both-passes c i k h =
      let ds = map depth_of fs in
      let m = k ∙ at_count depth_of e fs in
      ⊎_elim
      (λ (q : get_or ds i 0 ≡ e). rw (q, ne_eqb e (suc e) (λ z. omega arith), eq-eqb e e refl, none-less))
      (λ (q : get_or ds i 0 ≡ suc e). rw (q, eq-eqb (suc e) (suc e) refl, less-next, m))
      (depth_at i h)

-- THE LAW: numbered at the one depth, and then at the next, the record is the level's
pub numbered-record : (t : Cuts) (place e c : ℕ) (before cuts : List ℕ) → place + node_count t ≤ length before → TwoDepths domain_depth e (leaves_under t)
    → c ≡ length (at_depth domain_depth e (leaves_under t)) → cuts ≡ put before place (map whole_of (nodes_from unnumbered 0 t))
    → numbered (suc e) c (entries_under place t) (numbered e 0 (entries_under place t) cuts)
    ≡ put before place (map whole_of (nodes_from (leaf_number (depths_of (leaves_under t))) 0 t))
numbered-record t place e c before cuts h two m start =
    let fs = leaves_under t in
    let ds = depths_of fs in
    let n = leaf-count-at t in
    let es = entries_under place t in
    let one : ℕ → ℕ = λ i. pass_value e 0 ds i 0 in
    let last : ℕ → ℕ = leaf_number ds in
    let x = wholes unnumbered 0 t in
    let y = wholes one 0 t in
    let z = wholes last 0 t in
    let lx = wholes-length unnumbered 0 t in
    let ly = wholes-length one 0 t in
    let lz = wholes-length last 0 t in
    let lc : length cuts ≡ length before = ap length start ∙ length-put before place x (omega arith) in
    let pc : part cuts place (node_count t) ≡ x = ap (λ (l : List ℕ). part l place (node_count t)) start ∙ part-put-same before place x (node_count t) (omega arith) lx in
    let first : numbered e 0 es cuts ≡ put cuts place y =
    numbered-pass e 0 place 0 t unnumbered one cuts (omega arith) pc (λ i b. ap one (zero-add i)) in
    let mid = put cuts place y in
    let lm : length mid ≡ length cuts = length-put cuts place y (omega arith) in
    let second : numbered (suc e) c es mid ≡ put mid place z =
    numbered-pass (suc e) c place 0 t one last mid (omega arith) (part-put-same cuts place y (node_count t) (omega arith) ly)
    (λ i b. rw (zero-add i) (both-passes domain_depth e fs two c i m (omega arith))) in
    ap (numbered (suc e) c es) first ∙ second
    ∙ put-over cuts place y z (omega arith) (omega arith)
    ∙ ap (λ (l : List ℕ). put l place z) start
    ∙ put-over before place x z (omega arith) (omega arith)

-- ---- the number of a leaf is its place by depth
take_below : (e n : ℕ) → e ≤ n → take e (from 0 n) ≡ from 0 e
take_below e n h =
    let m : n ≡ e + (n - e) = omega arith in
    ap (λ (k : ℕ). take e (from 0 k)) m ∙ ap (take e) (from-append 0 e (n - e)) ∙ take_at (from 0 e) (from (0 + e) (n - e)) e (length_from 0 e)

module _ {D : Type 0} (depth_of : D → ℕ) where
  -- the leaves that are less deep than e, depth by depth
  pub before-count : (fs : List D) (e : ℕ) → total (map (λ j. length (at_depth depth_of j fs)) (from 0 e)) ≡ count (λ x. ltb x e) (map depth_of fs)
  before-count fs zero =
      sum-below-nil (λ j. length (at_depth depth_of j fs)) ∙ sym (count_none (λ x. ltb x 0) (map depth_of fs) (λ x q. le-ltb x 0 (omega arith)))
  before-count fs (suc e) =
      omega (
        arith,
        sum-below-snoc e (λ j. length (at_depth depth_of j fs)),
        before-count fs e,
        at_count depth_of e fs,
        count_next (λ (x : ℕ). x) e (map depth_of fs),
      )

  -- a leaf among those at its depth
  pub at_names : (fs : List D) (k e : ℕ) (z : D) → k < length fs → depth_of (get_or fs k z) ≡ e
      → get_or (at_depth depth_of e fs) (count (λ x. eqb x e) (take k (map depth_of fs))) z ≡ get_or fs k z
  unfolding count
  at_names [] k e z h d = absurd (omega arith)
  at_names (f ∷ fs) zero e z h d = rw (at_one depth_of e f fs d)
  at_names (f ∷ fs) (suc k) e z h d =
      ⊎_elim
      (λ (q : depth_of f ≡ e). rw (eq-eqb (depth_of f) e q, at_one depth_of e f fs q) (next f (at_depth depth_of e fs) (count (λ x. eqb x e) (take k (map depth_of fs))) ∙ at_names fs k e z (omega arith) d))
      (λ (q : depth_of f ≡ e → ⊥). rw (ne_eqb (depth_of f) e q, at_other depth_of e f fs q, zero-add (count (λ x. eqb x e) (take k (map depth_of fs)))) (at_names fs k e z (omega arith) d))
      (same_or (depth_of f) e)
    where
      next : (x : D) (xs : List D) (n : ℕ) → get_or (x ∷ xs) (1 + n) z ≡ get_or xs n z
      next x xs n = let s : 1 + n ≡ suc n = omega arith in rw s

  -- THE LAW: the leaf that the record calls k is the k-th by depth
  pub number-names : (fs : List D) (most k : ℕ) (z : D) → k < length fs → depth_of (get_or fs k z) ≤ most
      → get_or (by_depth depth_of most fs) (leaf_number (map depth_of fs) k) z ≡ get_or fs k z
  unfolding by_depth leaf_number
  number-names fs most k z h b =
      let e = depth_of (get_or fs k z) in
      let ds = map depth_of fs in
      let is : get_or ds k 0 ≡ e = get_d-map-in depth_of fs k z 0 h in
      let ls = map (λ j. at_depth depth_of j fs) (from 0 (suc most)) in
      let i = count (λ x. eqb x e) (take k ds) in
      let at : get_or ls e [] ≡ at_depth depth_of e fs = get_d-map-below (λ j. at_depth depth_of j fs) (suc most) e [] (omega arith) in
      let long : k < length ds = omega (arith, length-map fs depth_of) in
      let more : i < length (at_depth depth_of e fs) =
      omega (arith, at_count depth_of e fs, count-more (λ x. eqb x e) ds k 0 long, ap (λ (x : ℕ). one_if (eqb x e)) is ∙ ap one_if (eq-eqb e e refl), count-halves (λ x. eqb x e) (suc k) ds) in
      let fits : i < length (get_or ls e []) = rw at more in
      let sum : total (map length (take e ls)) ≡ count (λ x. ltb x e) ds =
      ap (λ (l : List (List D)). total (map length l)) (take-map (λ j. at_depth depth_of j fs) e (from 0 (suc most)) ∙ ap (map (λ j. at_depth depth_of j fs)) (take_below e (suc most) (omega arith)))
      ∙ ap total (map-map length (λ j. at_depth depth_of j fs) (from 0 e)) ∙ before-count fs e in
      rw (is, ← sum)
      (get_d-joined ls e i z (omega (arith, length-map-from (λ j. at_depth depth_of j fs) 0 (suc most))) fits
      ∙ ap (λ (l : List D). get_or l i z) at ∙ at_names fs k e z h refl)

-- the leaf that a level's record calls k is the level's domain k
pub level-names : (d : ℕ) (cs : List Float) → 0 < d → (leaf : ℕ) → 1 ≤ leaf → (active : List ℕ) → GoodRows d cs active → 1 ≤ length active
    → (k : ℕ) (z : Domain) → k < length (level_leaves d cs leaf active)
    → get_or (leaves_of d cs leaf active) (leaf_number (depths_of (level_leaves d cs leaf active)) k) z ≡ get_or (level_leaves d cs leaf active) k z
level-names d cs pos leaf lp active g some k z h =
    let fs = level_leaves d cs leaf active in
    let most = length active + (get_or fs k z).depth in
    ap (λ (l : List Domain). get_or l (leaf_number (depths_of fs) k) z) (level-by-depth d cs pos leaf lp active g some most (omega arith))
    ∙ number-names domain_depth fs most k z h (omega arith)
