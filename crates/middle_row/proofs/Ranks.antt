-- How many rows come before a row: among those on one side of another row, among sorted rows; and the halves by the middle row.
-- Assumes nothing.
-- Holds: ahead_of, ranked-low, count-three, sides, ranked-high, sorted-ahead, ranked-sorted, by_rank, lefts-are, rights-are,
--   alone, ranked-middle, middle-ranked
use mathlib.Core.Path.{◌≡◌, refl, sym, ap, ◌∙◌, subst}
use mathlib.Core.Logic.{⊎_elim}
use mathlib.Core.Bool.{Bool, true, false, not, ◌&&◌, ◌||◌}
use mathlib.Core.List.{List, [], ◌∷◌, Memᴰ}
use Prim.Native.Nat.{ℕ, ◌+◌, ◌/◌, ◌<◌}
use native.Mathlib.Omega.{arith}
use borrow.Author.Tests.{eq-eqb, ne_eqb, eqb-true, lt-ltb, le-ltb}
use lib.Dec.{ltb, eqb}
use lib.ListN.{length, get_or, take, drop, length-drop}
use lib.Seq.{get_or-take, get_or-drop, length-take-le}
use lib.Ieee.{Float}
use Rattle.lists.specs.Lists.{keep, count}
use Rattle.lists.proofs.Tests.{clash, same_or, same_test, and-of, and-snd}
use Rattle.lists.proofs.All.{all-mem, mem-by-index}
use Rattle.lists.proofs.Count.{count_same, count-or, count-all, count_none, count-keep, count-halves, keep_same}
use Rattle.lists.proofs.Members.{keep-mem, mem-at, map-mem}
use Rattle.lists.specs.Times.{Once}
use Rattle.lists.proofs.Times.{mem-times, times-mem}
use Rattle.lists.specs.Same.{Same}
use Rattle.lists.proofs.Same.{same_mem, same_once, same_length}
use Rattle.lists.proofs.Rank.{ahead-lt}
use Rattle.definition.specs.Points.{coordinate}
use Rattle.definition.specs.Keys.{Key, keyed, before, rank, first_rows_lem, other_rows, key_at}
use Rattle.definition.proofs.Order.{before-irr, before-trans}
use Rattle.definition.proofs.Cuts.{finite-known}
use Rattle.definition.proofs.Halves.{rank-keyed, length-keyed, first_rows, other-rows, sortable, Middle, key-at}
use Rattle.rows.specs.Rows.{FiniteAt, FiniteOn}
use Rattle.argsort.specs.Rows.{key_on, NoLater}
use Rattle.sort.specs.Order.{Sorted}
use Rattle.argsort.proofs.Orders.{row-or, not-both, sorted_before}
use Rattle.middle_row.specs.Middle.{MiddleRow, Ranked}

module _ (d : ℕ) (cs : List Float) (axis : ℕ) where
  abbrev key : ℕ → Key
  key i = key_on d cs axis i

  -- how many of the rows come before row q
  abbrev pub ahead_of : List ℕ → ℕ → ℕ
  ahead_of rows q = count (λ i. before (key i) (key q)) rows

  -- ---- the rows before row p: a row among them has as many before it as among all
  both-before : (x p q : ℕ) → before (key q) (key p) ≡ true → before (key x) (key q) ≡ before (key x) (key p) && before (key x) (key q)
  both-before x p q h =
      same_test (before (key x) (key q)) (before (key x) (key p) && before (key x) (key q))
      (λ e. and-of (before-trans (key x) (key q) (key p) e h) e)
      (λ e. and-snd (before (key x) (key p)) (before (key x) (key q)) e)

  pub ranked-low : (rows : List ℕ) (p q k : ℕ) → Ranked d cs axis (keep (λ i. before (key i) (key p)) rows) q k → Ranked d cs axis rows q k
  ranked-low rows p q k r =
      let m = keep-mem (λ i. before (key i) (key p)) rows r.inside in
      record {
        inside = m.0;
        ahead =
            count_same (λ x. before (key x) (key q)) (λ x. before (key x) (key p) && before (key x) (key q)) rows
            (λ x n. both-before x p q m.1)
            ∙ sym (count-keep (λ x. before (key x) (key q)) (λ x. before (key x) (key p)) rows)
            ∙ r.ahead;
      }

  pick : (a b c u : Bool) → a ≡ false → b ≡ false → c ≡ true → u ≡ (a || b) || (c && u)
  pick a b c u p q r = rw (p, q, r)

  -- ---- the rows after row p: the rows before it and row p itself come before each of them
  module _ (rows : List ℕ) (f : FiniteOn d cs axis rows) (o : Once rows) (p : ℕ) (P : Memᴰ p rows) where
    at : (x : ℕ) → Memᴰ x rows → FiniteAt d cs axis x
    at x m = all-mem (FiniteAt d cs axis) rows f x m

    -- a test that p and all before p pass
    module _ (t : ℕ → Bool) (tp : t p ≡ true) (tb : (x : ℕ) → before (key x) (key p) ≡ true → t x ≡ true) where
      three : (x : ℕ) → Memᴰ x rows → t x ≡ (before (key x) (key p) || eqb x p) || (before (key p) (key x) && t x)
      three x m =
          ⊎_elim
          (λ (e : x ≡ p). rw (e, eq-eqb p p refl, before-irr (key p), tp))
          (λ n. ⊎_elim
          (λ h. rw (tb x h, h))
          (λ h. pick (before (key x) (key p)) (eqb x p) (before (key p) (key x)) (t x) (not-both d cs axis p x h) (ne_eqb x p n) h)
          (row-or d cs axis x p (at x m) (at p P) n))
          (same_or x p)

      pub count-three : count t rows ≡ ahead_of rows p + 1 + count t (keep (λ x. before (key p) (key x)) rows)
      count-three =
          let low : ℕ → Bool = λ x. before (key x) (key p) in
          let high : ℕ → Bool = λ x. before (key p) (key x) && t x in
          let a = count_same t (λ x. (low x || eqb x p) || high x) rows three in
          let b = count-or (λ x. low x || eqb x p) high rows (λ x m e. apart x (eqb x p) refl e) in
          let c =
          count-or low (λ x. eqb x p) rows
          (λ x m e. ne_eqb x p (λ q. clash (subst (λ (z : ℕ). before (key z) (key p) ≡ true) q e) (before-irr (key p)))) in
          let u : count (λ x. eqb x p) rows ≡ 1 = omega (arith, o p, mem-times rows p P) in
          let v = count-keep t (λ x. before (key p) (key x)) rows in
          omega arith
        where
          apart : (x : ℕ) (b : Bool) → eqb x p ≡ b → before (key x) (key p) || b ≡ true → before (key p) (key x) && t x ≡ false
          apart x true e h = rw (eqb-true x p e, before-irr (key p))
          apart x false e h = go (before (key x) (key p)) refl h
            where
              go : (c : Bool) → before (key x) (key p) ≡ c → c || false ≡ true → before (key p) (key x) && t x ≡ false
              go true q g = rw (not-both d cs axis x p q)
              go false q g = clash g refl

    pub sides : ahead_of rows p + 1 + length (keep (λ x. before (key p) (key x)) rows) ≡ length rows
    sides =
        let a = count-three (λ x. true) refl (λ x h. refl) in
        let b = count-all (λ x. true) rows (λ x m. refl) in
        let c = count-all (λ x. true) (keep (λ x. before (key p) (key x)) rows) (λ x m. refl) in
        omega arith

    pub ranked-high :
        (q k : ℕ) → Ranked d cs axis (keep (λ i. before (key p) (key i)) rows) q k → Ranked d cs axis rows q (ahead_of rows p + 1 + k)
    ranked-high q k r =
        let m = keep-mem (λ i. before (key p) (key i)) rows r.inside in
        record {
          inside = m.0;
          ahead =
              count-three (λ x. before (key x) (key q)) m.1 (λ x h. before-trans (key x) (key p) (key q) h m.1)
              ∙ ap (λ (n : ℕ). ahead_of rows p + 1 + n) r.ahead;
        }

  -- ---- of sorted rows, as many come before a row as stand in front of it
  module _ (l : List ℕ) (s : Sorted (NoLater d cs axis) l) (o : Once l) (k : ℕ) (K : k < length l) where
    before-k : (i : ℕ) → i < k → before (key (get_or l i 0)) (key (get_or l k 0)) ≡ true
    before-k i h = sorted_before d cs axis l s o i k h K

    after-k : (j : ℕ) → k + j < length l → before (key (get_or l (k + j) 0)) (key (get_or l k 0)) ≡ false
    after-k j h =
        ⊎_elim
        (λ (e : k + j ≡ k). rw e (before-irr (key (get_or l k 0))))
        (λ n. (s k (k + j) (past n) h).order)
        (same_or (k + j) k)
      where
        past : (k + j ≡ k → ⊥) → k < k + j
        past n = ⊎_elim (λ (e : j ≡ 0). absurd (n (omega arith))) (λ m. omega arith) (same_or j 0)

    pub sorted-ahead : ahead_of l (get_or l k 0) ≡ k
    sorted-ahead =
        let p : ℕ → Bool = λ i. before (key i) (key (get_or l k 0)) in
        let n : length (take k l) ≡ k = length-take-le k l (omega arith) in
        let a =
        count-all p (take k l)
        (mem-by-index (λ i. p i ≡ true) (take k l) 0 (λ i h. rw (get_or-take k l i 0 (omega arith)) (before-k i (omega arith)))) in
        let b =
        count_none p (drop k l)
        (mem-by-index (λ i. p i ≡ false) (drop k l) 0 (λ j h. rw (get_or-drop k l j 0) (after-k j (omega (arith, length-drop k l))))) in
        omega (arith, count-halves p k l)

  pub ranked-sorted :
      (l rows : List ℕ) → Sorted (NoLater d cs axis) l → Same l rows → Once rows → (k : ℕ) → k < length rows →
      Ranked d cs axis rows (get_or l k 0) k
  ranked-sorted l rows s e o k h =
      let K : k < length l = omega (arith, same_length l rows e) in
      record {
        inside = same_mem l rows e (get_or l k 0) (mem-at l k 0 K);
        ahead = sym (e (λ i. before (key i) (key (get_or l k 0)))) ∙ sorted-ahead l s (same_once l rows e o) k K;
      }

  -- ---- the row with m others before it makes the definition's selection
  module _ (rows : List ℕ) (f : FiniteOn d cs axis rows) (o : Once rows) (m q : ℕ) (r : Ranked d cs axis rows q m) where
    abbrev v : ℕ → Float
    v i = coordinate d cs i axis

    here : (x : ℕ) → Memᴰ x rows → FiniteAt d cs axis x
    here x n = all-mem (FiniteAt d cs axis) rows f x n

    rank_is : (i : ℕ) → rank (keyed v rows) (key i) ≡ ahead_of rows i
    rank_is i = rank-keyed v rows (key i)

    rank-q : rank (keyed v rows) (key q) ≡ m
    rank-q = rank_is q ∙ r.ahead

    row_lt : (x y : ℕ) → Memᴰ x rows → before (key x) (key y) ≡ true → ahead_of rows x < ahead_of rows y
    row_lt x y n h =
        ahead-lt (λ a b. before (key a) (key b)) (λ a. before-irr (key a)) (λ a b c. before-trans (key a) (key b) (key c)) rows x y n h

    -- a row comes before q exactly where fewer than m come before it
    pub by_rank : (i : ℕ) → Memᴰ i rows → before (key i) (key q) ≡ ltb (rank (keyed v rows) (key i)) m
    by_rank i n =
        ⊎_elim
        (λ (e : i ≡ q). rw (e, before-irr (key q), rank-q) (sym (le-ltb m m (omega arith))))
        (λ d'. ⊎_elim
        (λ h. h ∙ sym (lt-ltb (rank (keyed v rows) (key i)) m (omega (arith, rank_is i, r.ahead, row_lt i q n h))))
        (λ h. not-both d cs axis q i h ∙ sym (le-ltb (rank (keyed v rows) (key i)) m (omega (arith, rank_is i, r.ahead, row_lt q i r.inside h))))
        (row-or d cs axis i q (here i n) (here q r.inside) d'))
        (same_or i q)

    pub lefts-are : keep (λ i. before (key i) (key q)) rows ≡ first_rows_lem m (keyed v rows)
    lefts-are =
        keep_same (λ i. before (key i) (key q)) (λ i. ltb (rank (keyed v rows) (key i)) m) rows by_rank ∙ sym (first_rows v m rows)

    pub rights-are : keep (λ i. not (before (key i) (key q))) rows ≡ other_rows m (keyed v rows)
    rights-are =
        keep_same (λ i. not (before (key i) (key q))) (λ i. not (ltb (rank (keyed v rows) (key i)) m)) rows (λ i n. ap not (by_rank i n))
        ∙ sym (other-rows v m rows)

    -- and no other row has m before it
    one-row : (i : ℕ) → Memᴰ i rows → ahead_of rows i ≡ m → i ≡ q
    one-row i n e =
        ⊎_elim
        (λ (z : i ≡ q). z)
        (λ z. ⊎_elim
        (λ h. absurd (omega (arith, r.ahead, row_lt i q n h)))
        (λ h. absurd (omega (arith, r.ahead, row_lt q i r.inside h)))
        (row-or d cs axis i q (here i n) (here q r.inside) z))
        (same_or i q)

    pub alone : m < length rows → key_at m (keyed v rows) ≡ key q ∷ []
    unfolding keyed
    alone h =
        let s = sortable v rows o (λ i n. finite-known (v i) (here i (times-mem rows i n))) in
        found (key-at m (keyed v rows) s (omega (arith, length-keyed v rows)))
      where
        found : Middle m (keyed v rows) → key_at m (keyed v rows) ≡ key q ∷ []
        found M =
            let t = map-mem key rows M.inside in
            let e : t.0 ≡ q = one-row t.0 t.1 (sym (rank_is t.0) ∙ ap (rank (keyed v rows)) (sym t.2) ∙ M.ranked) in
            M.alone ∙ ap (λ (p : Key). p ∷ []) (t.2 ∙ ap key e)

  -- the row with half of the rows before it is the middle row
  pub ranked-middle :
      (rows : List ℕ) → FiniteOn d cs axis rows → Once rows → 0 < length rows → (q : ℕ) → Ranked d cs axis rows q (length rows / 2) →
      MiddleRow d cs axis rows q
  ranked-middle rows f o h q r = record { inside = r.inside; first = alone rows f o (length rows / 2) q r (omega arith) }

  pub middle-ranked : (rows : List ℕ) (q : ℕ) → MiddleRow d cs axis rows q → Ranked d cs axis rows q (length rows / 2)
  unfolding key_at
  middle-ranked rows q M =
      let w : ℕ → Float = λ i. coordinate d cs i axis in
      let n =
      keep-mem (λ p. eqb (rank (keyed w rows) p) (length rows / 2)) (keyed w rows) {x = key q} (rw M.first (Memᴰ.head refl)) in
      record {
        inside = M.inside;
        ahead = sym (rank-keyed w rows (key q)) ∙ eqb-true (rank (keyed w rows) (key q)) (length rows / 2) n.1;
      }
