-- The turns of a search for the rows nearest to a row, by positions in the ascending list of active rows: its end is what the scan finds.
-- Assumes nothing.
-- Holds: same-order, by-places, State, state-none, state-same, state-past, state-left, state-more, state-full, state-found
use mathlib.Core.Path.{◌≡◌, sym, ap, ◌∙◌, subst}
use mathlib.Core.Logic.{⊎_elim}
use mathlib.Core.Bool.{Bool, true, false, ◌&&◌, ◌||◌}
use mathlib.Core.List.Memᴰ
use mathlib.Core.List.{List, [], ◌∷◌, ◌++◌, map, Memᴰ}
use Prim.Native.Nat.{ℕ, ◌+◌, ◌-◌, ◌≤◌, ◌<◌}
use native.Mathlib.Omega.{arith}
use native.Mathlib.Decide.{dec_lt}
use borrow.Author.Tests.{lt-ltb, le-ltb}
use lib.Dec.{T, ltb}
use lib.ListN.{length, get_or, take}
use lib.Ieee.{Float, nan, lt, eq, le}
use Rattle.lists.specs.Lists.{put, part}
use Rattle.lists.specs.Ascends.{All, Ascends}
use Rattle.lists.specs.Same.{Same}
use Rattle.lists.specs.Times.{Once}
use Rattle.lists.proofs.Tests.{clash}
use Rattle.lists.proofs.All.{all-mem, all_left, all_right}
use Rattle.lists.proofs.Ascends.{ascends-at}
use Rattle.definition.specs.Keys.{before}
use Rattle.definition.specs.Overlaps.{others}
use Rattle.rows.specs.Rows.{GoodRow, GoodRows}
use Rattle.nearest_scan.specs.Near.{apart, sooner, Found}
use Rattle.nearest_scan.proofs.Takes.{sooner-irr, sooner-trans, sooner-or}
use Rattle.kept_laws.specs.First.{place_key, kept_key, Slot, Held}
use Rattle.kept_laws.proofs.Half.{half-before}
use Rattle.kept_laws.proofs.Rows.{kept-found}
use Rattle.kept_laws.proofs.Held.{once-new, held-none, held-same, held-key, held-past, held-more, held-full}

-- the order of positions in an ascending list is that of its rows
pub same-order : (active : List ℕ) → Ascends active → (p q : ℕ) → p < length active → q < length active → ltb (get_or active p 0) (get_or active q 0) ≡ ltb p q
same-order active up p q h g = elim (dec_lt p q) [
  | yes l ↦ lt-ltb (get_or active p 0) (get_or active q 0) (ascends-at active p q up l g) ∙ sym (lt-ltb p q l)
  | no l ↦ le-ltb (get_or active p 0) (get_or active q 0) (below l) ∙ sym (le-ltb p q (omega arith))
]
  where
    below : (p < q → ⊥) → get_or active q 0 ≤ get_or active p 0
    below l = elim (dec_lt q p) [
      | yes k ↦ let a = ascends-at active q p up k h in omega arith
      | no k ↦ let e : q ≡ p = omega arith in let a = ap (λ (i : ℕ). get_or active i 0) e in omega arith
    ]

module _ (d : ℕ) (cs : List Float) (active : List ℕ) (row : ℕ) (rows : GoodRows d cs active) (whose : GoodRow d cs row) where
  abbrev bef : ℕ → ℕ → Bool
  bef = sooner d cs active row

  abbrev v : ℕ → Float
  v = apart d cs active row

  abbrev n : ℕ
  n = length active

  -- so positions stand for rows
  pub by-places : (p q : ℕ) → p < length active → q < length active
      → sooner d cs active row p q ≡ before (place_key (apart d cs active row p) p) (place_key (apart d cs active row q) q)
  unfolding sooner before
  by-places p q h g = ap (λ (b : Bool). lt (v p) (v q) || (eq (v p) (v q) && b)) (same-order active rows.ascends p q h g)

  module _ (m : ℕ) where
    -- what a search that keeps m has, after it visited the positions xs
    abbrev pub State : List ℕ → List ℕ → List Float → ℕ → Type 0
    State xs near far count = Held v bef m xs near far count

    pub state-none : (near : List ℕ) (far : List Float) → m ≤ length near → m ≤ length far → State [] near far 0
    state-none =
        held-none v bef m n (sooner-irr d cs active row rows whose) (sooner-trans d cs active row rows whose) (sooner-or d cs active row rows whose) by-places

    pub state-same : (xs ys near : List ℕ) (far : List Float) (count : ℕ) → Same xs ys → State xs near far count → State ys near far count
    state-same =
        held-same v bef m n (sooner-irr d cs active row rows whose) (sooner-trans d cs active row rows whose) (sooner-or d cs active row rows whose) by-places

    module _ (xs near : List ℕ) (far : List Float) (count : ℕ) (h : State xs near far count) where
      -- a position kept is one of the active rows, with its value beside it
      key-at : All (λ q. q < n) xs → (j : ℕ) → j < count → (get_or near j 0 < n) × (get_or far j nan ≡ v (get_or near j 0))
      key-at below j b =
          let s = held-key v bef m n (sooner-irr d cs active row rows whose) (sooner-trans d cs active row rows whose) (sooner-or d cs active row rows whose) by-places xs near far count h j b in
          (all-mem (λ q. q < n) xs below (get_or near j 0) s.0, s.1)

      -- A HALF PASSED OVER: m are kept, and the last of them comes before (gap, least position); each position under the half is no lower
      -- than that, and no nearer
      pub state-past : (ws : List ℕ) (gap : Float) (low : ℕ) → All (λ q. q < length active) xs → count ≡ m
          → (0 < m → before (kept_key near far (m - 1)) (place_key gap low) ≡ true)
          → ((w : ℕ) → Memᴰ w ws → (w < length active) × (T (le gap (apart d cs active row w)) × (low ≤ w)))
          → State (xs ++ ws) near far count
      state-past ws gap low below e worst under =
          held-past v bef m n (sooner-irr d cs active row rows whose) (sooner-trans d cs active row rows whose) (sooner-or d cs active row rows whose) by-places
          xs ws near far count h e after
        where
          after : (w : ℕ) → Memᴰ w ws → 0 < m → bef (get_or near (m - 1) 0) w ≡ true
          after w i z =
              let q = get_or near (m - 1) 0 in
              let k = key-at below (m - 1) (omega arith) in
              by-places q w k.0 (under w i).0
              ∙ half-before (place_key (v q) q) (place_key gap low) (place_key (v w) w) (under w i).1.0 (under w i).1.1
              (subst (λ (y : Float). before (place_key y q) (place_key gap low) ≡ true) k.1 (worst z))

      -- ONE OFFERED
      module _ (x : ℕ) (once : Once (xs ++ x ∷ [])) (below : All (λ q. q < length active) (xs ++ x ∷ [])) (value : Float) (ev : value ≡ apart d cs active row x) where
        -- m are kept, and it does not come before the last of them
        pub state-left : count ≡ m → 0 < m → before (place_key value x) (kept_key near far (m - 1)) ≡ false → State (xs ++ x ∷ []) near far count
        unfolding All
        state-left e z f =
            held-past v bef m n (sooner-irr d cs active row rows whose) (sooner-trans d cs active row rows whose) (sooner-or d cs active row rows whose) by-places
            xs (x ∷ []) near far count h e (λ w i g. subst (λ (y : ℕ). bef q y ≡ true) (sym (only w i)) worst)
          where
            q : ℕ
            q = get_or near (m - 1) 0

            here : x < n
            here = (all_right (λ q. q < n) xs (x ∷ []) below).0

            only : (w : ℕ) → Memᴰ w (x ∷ []) → w ≡ x
            only w i = ⊎_elim (λ e. e) (λ t. absurd (Memᴰ.not-nil t)) (Memᴰ.cases_cons i)

            k : (get_or near (m - 1) 0 < n) × (get_or far (m - 1) nan ≡ v (get_or near (m - 1) 0))
            k = key-at (all_left (λ q. q < n) xs (x ∷ []) below) (m - 1) (omega arith)

            seen : Memᴰ (get_or near (m - 1) 0) xs
            seen = (held-key v bef m n (sooner-irr d cs active row rows whose) (sooner-trans d cs active row rows whose) (sooner-or d cs active row rows whose) by-places xs near far count h (m - 1) (omega arith)).0

            no : bef x (get_or near (m - 1) 0) ≡ false
            no =
                by-places x (get_or near (m - 1) 0) here k.0
                ∙ ap (λ (y : Float). before (place_key y x) (place_key (v (get_or near (m - 1) 0)) (get_or near (m - 1) 0))) (sym ev)
                ∙ ap (λ (y : Float). before (place_key value x) (place_key y (get_or near (m - 1) 0))) (sym k.1)
                ∙ f

            worst : bef (get_or near (m - 1) 0) x ≡ true
            worst =
                ⊎_elim (λ t. t) (λ t. clash t no)
                (sooner-or d cs active row rows whose (get_or near (m - 1) 0) x k.0 here (λ e. once-new xs x [] once (subst (λ (z : ℕ). Memᴰ z xs) e seen)))

        -- it is put in among the first k
        module _ (k r : ℕ) (slot : Slot near far k value x r) (near' : List ℕ) (far' : List Float)
            (en : near' ≡ put near r (x ∷ part near r (k - r))) (ef : far' ≡ put far r (value ∷ part far r (k - r))) where
          slot-at : Slot near far k (v x) x r
          slot-at = subst (λ (y : Float). Slot near far k y x r) ev slot

          far_at : far' ≡ put far r (v x ∷ part far r (k - r))
          far_at = ef ∙ ap (λ (y : Float). put far r (y ∷ part far r (k - r))) ev

          -- fewer than m are kept
          pub state-more : count ≡ k → count < m → State (xs ++ x ∷ []) near' far' (k + 1)
          state-more e g =
              held-more v bef m n (sooner-irr d cs active row rows whose) (sooner-trans d cs active row rows whose) (sooner-or d cs active row rows whose) by-places
              xs x once below near far count h k (omega arith) (omega arith) (λ j a b. absurd (omega arith)) r slot-at near' far' en far_at e

          -- m are kept, and it comes before the last of them
          pub state-full : count ≡ m → m ≡ k + 1 → before (place_key value x) (kept_key near far k) ≡ true → State (xs ++ x ∷ []) near' far' (k + 1)
          state-full e g f =
              held-full v bef m n (sooner-irr d cs active row rows whose) (sooner-trans d cs active row rows whose) (sooner-or d cs active row rows whose) by-places
              xs x once below near far count h k (omega arith) (omega arith) last r slot-at near' far' en far_at g
            where
              last : (j : ℕ) → k ≤ j → j < count → before (place_key (v x) x) (kept_key near far j) ≡ true
              last j a b =
                  let q : k ≡ j = omega arith in
                  subst (λ (i : ℕ). before (place_key (v x) x) (kept_key near far i) ≡ true) q
                  (subst (λ (y : Float). before (place_key y x) (kept_key near far k) ≡ true) ev f)

      -- THE END: the positions of all rows but the row itself were visited, each once
      pub state-found : All (λ q. q < length active) xs → Same (map (λ q. get_or active q 0) xs) (others active row)
          → (count ≤ m) × Found d cs active row m (take count near) (take count far)
      state-found below s = (h.most, kept-found d cs active row m xs (take count near) (take count far) below s h.kept h.vals)
