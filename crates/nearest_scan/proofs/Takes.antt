-- What the scan finds is what the definition takes. Assumes nothing.
-- Holds: other, other-true, other-false, sooner-irr, sooner-trans, sooner-or, sooner-late, near_none, near-over, near-left,
--   near-more, near-full, nearest-positions, found_none, found, found-taken, taken-found
use mathlib.Core.Path.{◌≡◌, refl, sym, ap, ◌∙◌, subst}
use mathlib.Core.Logic.{◌⊎◌, ⊎_elim}
use mathlib.Core.Bool.{Bool, true, false, not, ◌&&◌, ◌||◌}
use mathlib.Core.List.Memᴰ
use mathlib.Core.List.{List, ◌∷◌, map, map-map, Memᴰ}
use Prim.Native.Nat.{ℕ, ◌+◌, ◌-◌, ◌≤◌, ◌<◌}
use native.Mathlib.Omega.{arith}
use borrow.Author.Tests.{le-ltb, eq-eqb, ne_eqb}
use lib.Dec.{ltb, eqb}
use lib.ListN.{length, get_or, take}
use lib.Ieee.{Float, nan, is_nan, lt, eq}
use Rattle.lists.specs.Lists.{one_if, keep, count, from, put, part}
use Rattle.lists.specs.Ascends.{All, Ascends}
use Rattle.lists.proofs.All.{all_take, all-mem}
use Rattle.lists.proofs.Count.{count_map, count-keep, keep_same, keep-map}
use Rattle.lists.proofs.Members.{mem-map, map-mem}
use Rattle.lists.proofs.From.{list_at}
use Rattle.lists.proofs.Ascends.{ascends-at, ascends_same}
use Rattle.lists.proofs.Same.{same_mem}
use Rattle.definition.specs.Points.{rows_sq}
use Rattle.definition.specs.Keys.{Key, keyed, before, rank, first_rows_lem}
use Rattle.definition.specs.Overlaps.{others, nearest_others, nearest}
use Rattle.definition.proofs.Order.{before-irr, before-trans, before-or}
use Rattle.definition_laws.proofs.Finite.{rows-known}
use Rattle.definition_laws.proofs.OwnFirst.{itself-alone}
use Rattle.rows.specs.Rows.{GoodRow, GoodRows}
use Rattle.rows.proofs.Good.{good-at}
use Rattle.nearest_scan.specs.Near.{Spot, Ordered, apart, position_key, sooner, Found}
use Rattle.nearest_scan.proofs.Placed.{sorted_of, first-kept, count-sorted, sorted-below, ordered-take, ordered-sorted}
use Rattle.nearest_scan.proofs.Scans.{Scanned, scan-none, scan-over, scan-left, scan-more, scan-full}

or-none : (b c : Bool) → b || (c && false) ≡ b
or-none true c = refl
or-none false true = refl
or-none false false = refl

-- at the position q stands another row
abbrev pub other : List ℕ → ℕ → ℕ → Bool
other active row q = not (eqb (get_or active q 0) row)

pub other-true : (active : List ℕ) (row q : ℕ) → (get_or active q 0 ≡ row → ⊥) → other active row q ≡ true
other-true active row q n = ap not (ne_eqb (get_or active q 0) row n)

pub other-false : (active : List ℕ) (row q : ℕ) → get_or active q 0 ≡ row → other active row q ≡ false
other-false active row q e = ap not (eq-eqb (get_or active q 0) row e)

module _ (d : ℕ) (cs : List Float) (active : List ℕ) (row : ℕ) (rows : GoodRows d cs active) (whose : GoodRow d cs row) where
  abbrev bef : ℕ → ℕ → Bool
  bef = sooner d cs active row

  abbrev n : ℕ
  n = length active

  -- the position of another row, and all of these
  abbrev else-at : ℕ → Bool
  else-at = other active row

  abbrev others-at : List ℕ
  others-at = keep else-at (from 0 n)

  -- ---- the order of positions
  pub sooner-irr : (a : ℕ) → bef a a ≡ false
  unfolding sooner
  sooner-irr a = before-irr (position_key d cs active row a)

  pub sooner-trans : (a b c : ℕ) → bef a b ≡ true → bef b c ≡ true → bef a c ≡ true
  unfolding sooner
  sooner-trans a b c = before-trans (position_key d cs active row a) (position_key d cs active row b) (position_key d cs active row c)

  known : (p : ℕ) → p < n → is_nan (apart d cs active row p) ≡ false
  known p h = rows-known d cs row (get_or active p 0) whose.finite_row (good-at active rows p h).finite_row

  pub sooner-or : (p q : ℕ) → p < n → q < n → (p ≡ q → ⊥) → (bef p q ≡ true) ⊎ (bef q p ≡ true)
  unfolding sooner
  sooner-or p q h g e =
      before-or (position_key d cs active row p) (position_key d cs active row q) (known p h) (known q g) (λ s. e (ascends_same active p q rows.ascends h g s))

  -- the later of two positions comes first only by its value
  pub sooner-late : (p q : ℕ) → q < p → p < n → bef p q ≡ lt (apart d cs active row p) (apart d cs active row q)
  unfolding sooner before
  sooner-late p q h g =
      let a = ascends-at active q p rows.ascends h g in
      rw (le-ltb (get_or active p 0) (get_or active q 0) (omega arith)) (or-none (lt (apart d cs active row p) (apart d cs active row q)) (eq (apart d cs active row p) (apart d cs active row q)))

  -- ---- the turns of the scan
  module _ (neighbours : ℕ) (near₀ : List ℕ) (far₀ : List Float) (room : neighbours ≤ length near₀) (room2 : neighbours ≤ length far₀) where
    abbrev Turn : List ℕ → List Float → ℕ → ℕ → Type 0
    Turn = Scanned (apart d cs active row) bef else-at neighbours n near₀ far₀

    pub near_none : Turn near₀ far₀ 0 0
    near_none = scan-none (apart d cs active row) bef else-at neighbours n sooner-irr sooner-trans sooner-or sooner-late near₀ far₀ room room2

    module _ (near : List ℕ) (far : List Float) (c t : ℕ) (s : Turn near far c t) (here : t < n) where
      -- the row itself
      pub near-over : else-at t ≡ false → Turn near far c (t + 1)
      near-over = scan-over (apart d cs active row) bef else-at neighbours n sooner-irr sooner-trans sooner-or sooner-late near₀ far₀ room room2 near far c t s here

      module _ (value : Float) (ev : value ≡ apart d cs active row t) where
        -- there are as many as there are neighbours, and the row does not come before the last of them
        pub near-left : neighbours ≤ c → lt value (get_or far (c - 1) nan) ≡ false → Turn near far c (t + 1)
        near-left h f =
            scan-left (apart d cs active row) bef else-at neighbours n sooner-irr sooner-trans sooner-or sooner-late near₀ far₀ room room2 near far c t s here h
            (subst (λ (x : Float). lt x (get_or far (c - 1) nan) ≡ false) ev f)

        -- another row comes in among the first k
        module _ (else : else-at t ≡ true) (k r : ℕ) (spot : Spot far k value r) (near' : List ℕ) (far' : List Float)
            (ef : far' ≡ put far r (value ∷ part far r (k - r))) (en : near' ≡ put near r (t ∷ part near r (k - r))) where
          spot-at : Spot far k (apart d cs active row t) r
          spot-at = subst (λ (x : Float). Spot far k x r) ev spot

          far_at : far' ≡ put far r (apart d cs active row t ∷ part far r (k - r))
          far_at = ef ∙ ap (λ (x : Float). put far r (x ∷ part far r (k - r))) ev

          pub near-more : k ≡ c → c < neighbours → Turn near' far' (k + 1) (t + 1)
          near-more e h =
              scan-more (apart d cs active row) bef else-at neighbours n sooner-irr sooner-trans sooner-or sooner-late near₀ far₀ room room2 near far c t s here else k (omega arith) (omega arith)
              (λ j a b. absurd (omega arith)) r spot-at near' far' far_at en (sym e)

          pub near-full : k ≡ c - 1 → neighbours ≤ c → 0 < c → lt value (get_or far (c - 1) nan) ≡ true → Turn near' far' c (t + 1)
          near-full e h g l =
              let i = s.most in
              let z : k + 1 ≡ c = omega arith in
              subst (λ (x : ℕ). Turn near' far' x (t + 1)) z
              (scan-full (apart d cs active row) bef else-at neighbours n sooner-irr sooner-trans sooner-or sooner-late near₀ far₀ room room2 near far c t s here else k (omega arith) (omega arith)
              last r spot-at near' far' far_at en (omega arith))
            where
              last : (j : ℕ) → k ≤ j → j < c → lt (apart d cs active row t) (get_or far j nan) ≡ true
              last j a b = let q : c - 1 ≡ j = omega arith in
                  subst (λ (x : Float). lt x (get_or far j nan) ≡ true) ev (subst (λ (x : ℕ). lt value (get_or far x nan) ≡ true) q l)

  -- ---- the definition, by positions
  abbrev fewer : ℕ → ℕ → Bool
  fewer m q = ltb (count (λ p. bef p q) others-at) m

  keys-are : keyed (rows_sq d cs row) (others active row) ≡ map (position_key d cs active row) others-at
  unfolding keyed
  keys-are =
      let key : ℕ → Key = λ i. record { value = rows_sq d cs row i; row = i } in
      ap (λ (l : List ℕ). map key (keep (λ j. not (eqb j row)) l)) (list_at active 0)
      ∙ ap (map key) (keep-map (λ q. get_or active q 0) (λ j. not (eqb j row)) (from 0 n))
      ∙ map-map key (λ q. get_or active q 0) others-at

  rank_is : (q : ℕ) → rank (map (position_key d cs active row) others-at) (position_key d cs active row q) ≡ count (λ p. bef p q) others-at
  unfolding rank sooner
  rank_is q = count_map (position_key d cs active row) (λ k. before k (position_key d cs active row q)) others-at

  pub nearest-positions : (neighbours : ℕ) → nearest d cs neighbours active row ≡ row ∷ map (λ q. get_or active q 0) (keep (fewer neighbours) others-at)
  unfolding nearest nearest_others first_rows_lem
  nearest-positions neighbours =
      let ks = map (position_key d cs active row) others-at in
      ap (λ (r : List ℕ). row ∷ r) (ap (first_rows_lem neighbours) keys-are
      ∙ ap (map (λ (k : Key). k.row)) (keep-map (position_key d cs active row) (λ k. ltb (rank ks k) neighbours) others-at
      ∙ ap (map (position_key d cs active row)) (keep_same (λ q. ltb (rank ks (position_key d cs active row q)) neighbours) (fewer neighbours) others-at
      (λ q i. ap (λ (c : ℕ). ltb c neighbours) (rank_is q))))
      ∙ map-map (λ (k : Key). k.row) (position_key d cs active row) (keep (fewer neighbours) others-at))

  -- the first m in order, counted
  first_count : (p : ℕ → Bool) (m : ℕ) → count p (take m (sorted_of bef else-at n)) ≡ count p (keep (fewer m) others-at)
  first_count p m =
      let l = sorted_of bef else-at n in
      let t : ℕ → Bool = λ q. ltb (count (λ p. bef p q) l) m in
      ap (count p) (first-kept bef sooner-irr sooner-trans l m (ordered-sorted bef sooner-irr sooner-trans n sooner-or else-at n (omega arith)))
      ∙ ap (count p) (keep_same t (fewer m) l (λ q i. ap (λ (c : ℕ). ltb c m) (count-sorted bef else-at (λ p. bef p q) n)))
      ∙ count-keep p (fewer m) l ∙ count-sorted bef else-at (λ q. fewer m q && p q) n ∙ sym (count-keep p (fewer m) others-at)

  -- the positions found, with the row itself, counted
  all-count : (p : ℕ → Bool) (m : ℕ) → count p (row ∷ map (λ q. get_or active q 0) (take m (sorted_of bef else-at n))) ≡ count p (nearest d cs m active row)
  unfolding count
  all-count p m =
      let at : ℕ → ℕ = λ q. get_or active q 0 in
      ap (λ (k : ℕ). one_if (p row) + k)
      (count_map at p (take m (sorted_of bef else-at n)) ∙ first_count (λ q. p (at q)) m ∙ sym (count_map at p (keep (fewer m) others-at)))
      ∙ ap (count p) (sym (nearest-positions m))

  -- with no neighbours there is nothing to find
  pub found_none : (neighbours : ℕ) (near : List ℕ) (far : List Float) → neighbours ≡ 0 → (0 ≤ neighbours) × Found d cs active row neighbours (take 0 near) (take 0 far)
  unfolding Ordered All
  found_none neighbours near far e = (
    omega arith,
    record { within = tt; ordered = tt; taken = λ p. ap (count p) (sym (itself-alone d cs active row) ∙ ap (λ (k : ℕ). nearest d cs k active row) (sym e)); values = refl },
  )

  -- THE LAW: the end of the scan
  pub found : (neighbours : ℕ) (near₀ : List ℕ) (far₀ : List Float) (near : List ℕ) (far : List Float) (c t : ℕ)
      → Scanned (apart d cs active row) bef else-at neighbours n near₀ far₀ near far c t → n ≤ t
      → (c ≤ neighbours) × Found d cs active row neighbours (take c near) (take c far)
  found m near₀ far₀ near far c t s h =
      let i = s.inside in
      let e : t ≡ n = omega arith in
      let l = sorted_of bef else-at n in
      let r : take c near ≡ take m l = s.rows ∙ ap (λ (k : ℕ). take m (sorted_of bef else-at k)) e in (
        s.most,
        record {
          within = rw r (all_take (λ q. q < n) m l (sorted-below bef else-at n));
          ordered = rw r (ordered-take bef m l (ordered-sorted bef sooner-irr sooner-trans n sooner-or else-at n (omega arith)));
          taken = λ p. ap (λ (x : List ℕ). count p (row ∷ map (λ q. get_or active q 0) x)) r ∙ all-count p m;
          values = s.vals ∙ ap (λ (k : ℕ). map (apart d cs active row) (take m (sorted_of bef else-at k))) e ∙ sym (ap (map (apart d cs active row)) r);
        },
      )

-- ---- what a caller has of it
module _ (d : ℕ) (cs : List Float) (active : List ℕ) (row neighbours : ℕ) (near : List ℕ) (far : List Float) (f : Found d cs active row neighbours near far) where
  abbrev all : List ℕ
  all = row ∷ map (λ q. get_or active q 0) near

  -- the row of each position found is taken
  pub found-taken : (q : ℕ) → Memᴰ q near → (q < length active) × Memᴰ (get_or active q 0) (nearest d cs neighbours active row)
  found-taken q i = (
    all-mem (λ q. q < length active) near f.within q i,
    same_mem all (nearest d cs neighbours active row) f.taken (get_or active q 0) (Memᴰ.tail (mem-map (λ q. get_or active q 0) near i)),
  )

  -- the position of each row taken is found, but for the row itself
  pub taken-found : Ascends active → (q : ℕ) → q < length active → (get_or active q 0 ≡ row → ⊥) → Memᴰ (get_or active q 0) (nearest d cs neighbours active row) → Memᴰ q near
  taken-found up q h else i =
      let r = map-mem (λ q. get_or active q 0) near (later (same_mem (nearest d cs neighbours active row) all (λ p. sym (f.taken p)) (get_or active q 0) i)) in
      let e : q ≡ r.0 = ascends_same active q r.0 up h (all-mem (λ q. q < length active) near f.within r.0 r.1) r.2 in
      subst (λ (z : ℕ). Memᴰ z near) (sym e) r.1
    where
      later : Memᴰ (get_or active q 0) all → Memᴰ (get_or active q 0) (map (λ q. get_or active q 0) near)
      later m = ⊎_elim (λ e. absurd (else e)) (λ t. t) (Memᴰ.cases_cons m)
