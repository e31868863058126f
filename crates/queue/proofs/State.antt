-- The state of the loop over the queue, for any kind of domain: what waits is in order, what is still to be written fits, and
-- what is written, with the leaves of what waits, is what is due. The loop's two turns keep it. Assumes nothing.
-- Holds: sizes, queue_cuts, Waits, Holds, State, length_two, now-inside, now_full, now-rows, now-leaves, now-same, now-depth,
--   now-shallow, now-good, now-left, now-right, now-wait, now-done, state-wait, state-done, state-first, state-end, cuts-length
use mathlib.Core.Path.{◌≡◌, refl, sym, ap, ◌∙◌}
use Prim.Native.Nat.{ℕ, suc, ◌+◌, ◌-◌, ◌*◌, ◌/◌, ◌≤◌, ◌<◌}
use native.Mathlib.Nat.{add_assoc, add-zero}
use native.Mathlib.Omega.{arith}
use mathlib.Core.List.{List, [], ◌∷◌, ◌++◌, map, append_assoc}
use lib.ListN.{length, length-append}
use Rattle.lists.specs.Lists.{put, part, joined, total}
use Rattle.lists.specs.Ascends.{All}
use Rattle.lists.proofs.All.{all_append, all-imp}
use Rattle.lists.proofs.Put.{length-put, length_part, put-next-at, put-nil, part-whole}
use Rattle.lists.proofs.Sums.{sum-append}
use Rattle.definition.specs.Packed.{row_numbers, numbers_of}
use Rattle.packed.specs.Rows.{own_row, put_own_lem}
use Rattle.queue.specs.Rows.{Own, two_own, with_own}
use Rattle.queue.proofs.Kind.{Kind, MayWait, size_of, halves_of, leaf_rows_lem, kind_own, leaf_own}
use Rattle.queue.proofs.Stretches.{Stretch, rows_at, halves_at, StretchIn, Clear, Apart, apart-halves}
use Rattle.queue.proofs.Stretches.{after-length, after_both, after-left, after-right, after-other}

-- the rows of the stretches, together, and the cuts that are still to be made, at most
abbrev pub sizes : List Stretch → ℕ
sizes qs = total (map (λ q. q.count) qs)

abbrev pub queue_cuts : List Stretch → ℕ
queue_cuts qs = total (map (λ q. 2 * q.count - 1) qs)

-- the waiting stretches of n rows
pub record Waits (n : ℕ) (qs : List Stretch) : Type 0 where
  pub inside : All (StretchIn n) qs
  pub full : All (λ q. 1 ≤ q.count) qs
  pub apart : Apart qs

-- the stretches hold the rows of the domains ds, which are good, and are as deep
unfoldable pub Holds : {D : Type 0} {leaf : ℕ} → Kind D leaf → List ℕ → List Stretch → List D → Type 0
Holds K rows [] [] = Unit
Holds K rows [] (d ∷ ds) = ⊥
Holds K rows (q ∷ qs) [] = ⊥
Holds K rows (q ∷ qs) (d ∷ ds) = ((rows_at rows q ≡ K.rows_of d) × K.Good d × (q.depth ≡ K.depth_of d)) × Holds K rows qs ds

-- Where the loop is: `rows` are the rows, `I` and `O` the leaves' rows and the domain rows, written up to `at` and to the k-th row,
-- and `head` stretches were taken from the queue. The domain rows name the leaves' rows `base` entries further on, where they are to stand
-- in the end. No stretch is deeper than cuts were made. The final lists and number are what is due.
pub record State {D : Type 0} {leaf : ℕ} (K : Kind D leaf) (base n endI endK : ℕ) (finalI finalO : List ℕ) (finalK : ℕ)
    (rows I O : List ℕ) (qs : List Stretch) (ds : List D) (head at k : ℕ) : Type 0 where
  pub pos : 1 ≤ leaf
  pub all : length rows ≡ n
  pub waits : Waits n qs
  pub holds : Holds K rows qs ds
  pub shallow : All (λ q. q.depth ≤ head) qs
  pub room-left : head + queue_cuts qs < 2 * n
  pub rows_left : at + sizes qs ≤ endI
  pub leaves-left : k + 2 * sizes qs ≤ endK
  pub fit-I : endI ≤ length I
  pub fit-O : row_numbers * endK ≤ length O
  pub out-I : put I at (joined (leaf_rows_lem K ds)) ≡ finalI
  pub out-O : with_own (base + at) (leaf_own K ds) k O ≡ finalO
  pub out-K : k + length (K.leaves ds) ≡ finalK

-- ---- small laws of the parts
waits-halves : (below n : ℕ) (q : Stretch) (qs : List Stretch) → 2 ≤ q.count → Waits n (q ∷ qs) → Waits n (qs ++ halves_at below q)
unfolding All
waits-halves below n q qs h w =
    let i : q.start + q.count ≤ n = w.inside.0 in
    record {
      inside = all_append (StretchIn n) qs (halves_at below q) w.inside.1 (omega arith, (omega arith, tt));
      full = all_append (λ q. 1 ≤ q.count) qs (halves_at below q) w.full.1 (omega arith, (omega arith, tt));
      apart = apart-halves below q qs w.apart;
    }

waits-rest : (n : ℕ) (q : Stretch) (qs : List Stretch) → Waits n (q ∷ qs) → Waits n qs
unfolding All Apart
waits-rest n q qs w = record { inside = w.inside.1; full = w.full.1; apart = w.apart.1 }

-- the domain rows of two leaves, and of those behind them
two-leaves : (at n k e : ℕ) (O : List ℕ) (l r : Own) (ls : List Own) → length l.rows ≡ n / 2 → length r.rows ≡ n - n / 2 → l.depth ≡ e → r.depth ≡ e
    → with_own at (l ∷ r ∷ ls) k O ≡ with_own (at + n) ls (k + 2) (two_own O k at n e)
unfolding with_own
two-leaves at n k e O l r ls a b c d =
    let g : at + n / 2 + (n - n / 2) ≡ at + n = omega arith in
    let h : k + 1 + 1 ≡ k + 2 = omega arith in
    rw (a, b, c, d, g, h)

length-own : (O : List ℕ) (k at n e : ℕ) → row_numbers * (k + 1) ≤ length O → length (put_own_lem O k at n e) ≡ length O
length-own O k at n e h = length-put O (row_numbers * k) (numbers_of (own_row at n e)) (omega arith)

pub length_two : (O : List ℕ) (k at n e : ℕ) → row_numbers * (k + 2) ≤ length O → length (two_own O k at n e) ≡ length O
length_two O k at n e h =
    let m = length-own O k at (n / 2) e (omega arith) in
    length-own (put_own_lem O k at (n / 2) e) (k + 1) (at + n / 2) (n - n / 2) e (omega arith) ∙ m

two-joined : (l r : List ℕ) (ls : List (List ℕ)) → joined (l ∷ r ∷ ls) ≡ l ++ r ++ joined ls
unfolding joined
two-joined l r ls = sym (append_assoc l r (joined ls))

module _ {D : Type 0} {leaf : ℕ} (K : Kind D leaf) where
  holds-append : (rows : List ℕ) (qs ps : List Stretch) (ds es : List D) → Holds K rows qs ds → Holds K rows ps es → Holds K rows (qs ++ ps) (ds ++ es)
  unfolding Holds
  holds-append rows [] ps [] es h g = g
  holds-append rows [] ps (d ∷ ds) es h g = absurd h
  holds-append rows (q ∷ qs) ps [] es h g = absurd h
  holds-append rows (q ∷ qs) ps (d ∷ ds) es h g = (h.0, holds-append rows qs ps ds es h.1 g)

  -- the waiting domains have rows, and are good
  holds-full : (rows : List ℕ) (qs : List Stretch) (ds : List D) → All (StretchIn (length rows)) qs → All (λ q. 1 ≤ q.count) qs → Holds K rows qs ds
      → MayWait K.rows_of K.Good ds
  unfolding Holds All
  holds-full rows [] [] i f h = tt
  holds-full rows [] (d ∷ ds) i f h = absurd h
  holds-full rows (q ∷ qs) [] i f h = absurd h
  holds-full rows (q ∷ qs) (d ∷ ds) i f h =
      let e = ap length h.0.0 in
      ((omega (arith, length_part rows q.start q.count i.0, f.0), h.0.1), holds-full rows qs ds i.1 f.1 h.1)

  -- a cut of one stretch leaves the others theirs
  holds_after : (rows : List ℕ) (q : Stretch) (l r : List ℕ) → StretchIn (length rows) q → length l ≡ q.count / 2 → length r ≡ q.count - q.count / 2
      → (qs : List Stretch) (ds : List D) → All (Clear q) qs → Holds K rows qs ds → Holds K (put rows q.start (l ++ r)) qs ds
  unfolding Holds All
  holds_after rows q l r i el er [] [] a h = tt
  holds_after rows q l r i el er [] (d ∷ ds) a h = absurd h
  holds_after rows q l r i el er (p ∷ qs) [] a h = absurd h
  holds_after rows q l r i el er (p ∷ qs) (d ∷ ds) a h =
      ((after-other rows q l r i el er p a.0 ∙ h.0.0, h.0.1, h.0.2), holds_after rows q l r i el er qs ds a.1 h.1)

-- ---- the two turns
module _ {D : Type 0} {leaf : ℕ} {K : Kind D leaf} {base n endI endK : ℕ} {finalI finalO : List ℕ} {finalK : ℕ} {rows I O : List ℕ}
    {q : Stretch} {qs : List Stretch} {d : D} {ds : List D} {head at k : ℕ}
    (st : State K base n endI endK finalI finalO finalK rows I O (q ∷ qs) (d ∷ ds) head at k) where
  abbrev s : ℕ
  s = q.start

  abbrev c : ℕ
  c = q.count

  abbrev l : List ℕ
  l = K.rows_of (K.left d)

  abbrev r : List ℕ
  r = K.rows_of (K.right d)

  -- the rows after the cut of the first domain
  abbrev cut_rows : List ℕ
  cut_rows = put rows s (l ++ r)

  -- what the turn may go by
  pub now-inside : s + c ≤ n
  unfolding All
  now-inside = st.waits.inside.0

  pub now_full : 1 ≤ c
  unfolding All
  now_full = st.waits.full.0

  pub now-rows : at + c ≤ endI
  unfolding total
  now-rows = omega (arith, st.rows_left)

  pub now-leaves : k + 2 * c ≤ endK
  unfolding total
  now-leaves = omega (arith, st.leaves-left)

  inside : s + c ≤ length rows
  inside = rw st.all now-inside

  pub now-same : rows_at rows q ≡ K.rows_of d
  unfolding Holds
  now-same = st.holds.0.0

  -- its depth, which is no more than the cuts that were made
  pub now-depth : q.depth ≡ K.depth_of d
  unfolding Holds
  now-depth = st.holds.0.2

  pub now-shallow : q.depth ≤ head
  unfolding All
  now-shallow = st.shallow.0

  now-size : size_of K d ≡ c
  now-size = sym (ap length now-same) ∙ length_part rows s c inside

  pub now-good : K.Good d
  unfolding Holds
  now-good = st.holds.0.1

  full-here : MayWait K.rows_of K.Good (d ∷ ds)
  full-here = holds-full K rows (q ∷ qs) (d ∷ ds) (rw st.all st.waits.inside) st.waits.full st.holds

  -- the sizes of the halves
  pub now-left : length l ≡ c / 2
  now-left = K.left-size d now-good ∙ ap (λ (z : ℕ). z / 2) now-size

  pub now-right : length r ≡ c - c / 2
  now-right = K.right-size d now-good ∙ ap (λ (z : ℕ). z - z / 2) now-size

  length-after : length cut_rows ≡ n
  length-after = after-length rows q l r inside now-left now-right ∙ st.all

  rest-holds : Holds K cut_rows qs ds
  unfolding Holds Apart
  rest-holds = holds_after K rows q l r inside now-left now-right qs ds st.waits.apart.0 st.holds.1

  -- the halves are one deeper, and the others not deeper than before
  deeper-left : suc q.depth ≡ K.depth_of (K.left d)
  deeper-left = ap suc now-depth ∙ sym (K.left-depth d)

  deeper-right : suc q.depth ≡ K.depth_of (K.right d)
  deeper-right = ap suc now-depth ∙ sym (K.right-depth d)

  rest-shallow : All (λ q. q.depth ≤ head + 1) qs
  unfolding All
  rest-shallow = all-imp (λ q. q.depth ≤ head) (λ q. q.depth ≤ head + 1) qs (λ q h. omega arith) st.shallow.1

  -- the leaves of what waits
  pub now-wait : 2 * leaf ≤ c → K.leaves (d ∷ ds) ≡ K.leaves (ds ++ halves_of K d)
  now-wait h = K.leaves-wait d ds full-here (rw now-size h)

  pub now-done : c < 2 * leaf → K.leaves (d ∷ ds) ≡ K.left d ∷ K.right d ∷ K.leaves ds
  now-done h = K.leaves-done d ds full-here (rw now-size h)

  -- the first domain's halves wait, wherever their nodes stand
  pub state-wait : (below : ℕ) → 2 * leaf ≤ c → State K base n endI endK finalI finalO finalK cut_rows I O (qs ++ halves_at below q) (ds ++ halves_of K d) (head + 1) at k
  unfolding total Holds All
  state-wait below h =
      let e = now-wait h in
      let a = sum-append (λ (p : Stretch). p.count) qs (halves_at below q) in
      let b = sum-append (λ (p : Stretch). 2 * p.count - 1) qs (halves_at below q) in
      record {
        pos = st.pos;
        all = length-after;
        waits = waits-halves below n q qs (omega (arith, st.pos)) st.waits;
        holds =
            holds-append K cut_rows qs (halves_at below q) ds (halves_of K d) rest-holds (
              (after-left rows q l r inside now-left now-right, K.left-good d now-good, deeper-left),
              ((after-right rows q l r inside now-left now-right below, K.right-good d now-good, deeper-right), tt),
            );
        shallow = all_append (λ q. q.depth ≤ head + 1) qs (halves_at below q) rest-shallow (omega (arith, now-shallow), (omega (arith, now-shallow), tt));
        room-left = omega (arith, st.room-left, st.pos);
        rows_left = omega (arith, st.rows_left);
        leaves-left = omega (arith, st.leaves-left);
        fit-I = st.fit-I;
        fit-O = st.fit-O;
        out-I = rw (← e) st.out-I;
        out-O = rw (← e) st.out-O;
        out-K = rw (← e) st.out-K;
      }

  -- they are the next two leaves
  pub state-done : c < 2 * leaf
      → State K base n endI endK finalI finalO finalK cut_rows (put I at (part cut_rows s c)) (two_own O k (base + at) c (suc q.depth)) qs ds (head + 1) (at + c) (k + 2)
  unfolding total
  state-done h =
      let e = now-done h in
      let ls = leaf_rows_lem K ds in
      let m : leaf_rows_lem K (d ∷ ds) ≡ l ∷ r ∷ ls = ap (map K.rows_of) e in
      let os = leaf_own K ds in
      let o : leaf_own K (d ∷ ds) ≡ kind_own K (K.left d) ∷ kind_own K (K.right d) ∷ os = ap (map (kind_own K)) e in
      let dep = suc q.depth in
      let el = now-left in
      let er = now-right in
      let both : rows_at cut_rows q ≡ l ++ r = after_both rows q l r inside now-left now-right in
      let eb : length (l ++ r) ≡ c = simp length-append (omega arith) in
      let f = now_full in
      record {
        pos = st.pos;
        all = length-after;
        waits = waits-rest n q qs st.waits;
        holds = rest-holds;
        shallow = rest-shallow;
        room-left = omega (arith, st.room-left);
        rows_left = omega (arith, st.rows_left);
        leaves-left = omega (arith, st.leaves-left);
        fit-I = rw both (rw (length-put I at (l ++ r) (omega (arith, st.fit-I, now-rows))) st.fit-I);
        fit-O = rw (length_two O k (base + at) c dep (omega (arith, st.fit-O, now-leaves, f))) st.fit-O;
        out-I =
            rw both (put-next-at I at (l ++ r) (joined ls) (at + c) (omega (arith, st.fit-I, now-rows)) (omega arith)
            ∙ ap (put I at) (sym (two-joined l r ls)) ∙ ap (λ (x : List (List ℕ)). put I at (joined x)) (sym m) ∙ st.out-I);
        out-O =
            ap (λ (x : ℕ). with_own x os (k + 2) (two_own O k (base + at) c dep)) (sym (add_assoc base at c))
            ∙ sym (two-leaves (base + at) c k dep O (kind_own K (K.left d)) (kind_own K (K.right d)) os el er (sym deeper-left) (sym deeper-right))
            ∙ ap (λ (x : List Own). with_own (base + at) x k O) (sym o) ∙ st.out-O;
        out-K = let g = ap length e in omega (arith, st.out-K);
      }

-- ---- where the loop begins, with one domain, and where it ends
pub state-first : {D : Type 0} {leaf : ℕ} (K : Kind D leaf) (d : D) (rows I O : List ℕ) (base k place : ℕ) → 1 ≤ leaf → rows ≡ K.rows_of d → K.Good d → 0 ≡ K.depth_of d → 1 ≤ length rows
    → length rows ≤ length I → row_numbers * (k + 2 * length rows) ≤ length O
    → State K base (length rows) (length rows) (k + 2 * length rows)
    (put I 0 (joined (leaf_rows_lem K (d ∷ [])))) (with_own base (leaf_own K (d ∷ [])) k O) (k + length (K.leaves (d ∷ [])))
    rows I O (record { start = 0; count = length rows; depth = 0; place = place } ∷ []) (d ∷ []) 0 0 k
unfolding total All Apart Holds
state-first K d rows I O base k place p e g z h f o =
    record {
      pos = p;
      all = refl;
      waits = record { inside = (omega arith, tt); full = (h, tt); apart = (tt, tt) };
      holds = ((part-whole rows (length rows) refl ∙ e, g, z), tt);
      shallow = (omega arith, tt);
      room-left = omega arith;
      rows_left = omega arith;
      leaves-left = omega arith;
      fit-I = f;
      fit-O = o;
      out-I = refl;
      out-O = ap (λ (x : ℕ). with_own x (leaf_own K (d ∷ [])) k O) (add-zero base);
      out-K = refl;
    }

pub state-end : {D : Type 0} {leaf : ℕ} {K : Kind D leaf} {base n endI endK : ℕ} {finalI finalO : List ℕ} {finalK : ℕ} {rows I O : List ℕ} (ds : List D) {head at k : ℕ}
    → State K base n endI endK finalI finalO finalK rows I O [] ds head at k → (k ≡ finalK) × (I ≡ finalI) × (O ≡ finalO)
unfolding joined with_own Holds
state-end {K} {I} [] {at} st =
    let e = K.leaves_none in (omega (arith, rw e at st.out-K), sym (put-nil I at) ∙ (rw e at st.out-I), rw e at st.out-O)
state-end (d ∷ ds) st = absurd st.holds

-- each waiting stretch is to be cut once at least
pub cuts-length : (qs : List Stretch) → All (λ q. 1 ≤ q.count) qs → length qs ≤ queue_cuts qs
unfolding total All
cuts-length [] f = omega arith
cuts-length (q ∷ qs) f = let a = cuts-length qs f.1 in omega (arith, f.0)
