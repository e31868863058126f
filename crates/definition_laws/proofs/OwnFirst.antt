-- A row takes itself first: where no more active rows stand at its place than it takes, they are the rows that are first by (squared
-- distance, row) among all active rows. Without neighbours it takes itself alone, and nothing is borrowed. Assumes nothing.
-- Holds: itself-alone, borrows-nothing, itself-zero, own-first-same
use mathlib.Core.Path.{◌≡◌, refl, sym, ap, ◌∙◌}
use mathlib.Core.Logic.{◌⊎◌, inl, inr, ⊎_elim}
use mathlib.Core.Bool.{Bool, true, false, not, ◌&&◌}
use mathlib.Core.List.{List, [], ◌∷◌, map, Memᴰ}
use Prim.Native.Nat.{ℕ, zero, suc, ◌+◌, ◌*◌, ◌≤◌, ◌<◌, zero-le}
use native.Mathlib.Omega.{arith}
use native.Mathlib.Decide.{dec_lt}
use native.Mathlib.Nat.{le_refl, mul-pos, sub_self, zero-mul}
use borrow.Author.Tests.{lt-ltb, le-ltb, ltb-true, eq-eqb, ne_eqb, eqb-true, eqb-false}
use lib.Dec.{ltb, eqb}
use lib.Ieee.{Float, nan, inf, fin, binary64, up, down, round, sum, add, sub, neg, mul, lt, eq, of_bits}
use lib.Ieee.Fits.{down_pos}
use lib.Ieee.Scale.{finite, round_same}
use Rattle.lists.specs.Lists.{one_if, keep, count, any_of, member}
use Rattle.lists.specs.Times.{times}
use Rattle.lists.proofs.Tests.{clash, true-or-false, and-of, and-true, or_left, or_right, fails, same_test, same_or}
use Rattle.lists.proofs.Count.{one-le, count-all, count_none, count-lt, count-sides, keep-none, length-keep}
use Rattle.lists.proofs.Members.{keep-mem, member-mem, member-nil, member-cons, member-keep, none_passes}
use Rattle.lists.proofs.Times.{mem-times, times-mem, member-some}
use Rattle.definition.specs.Number.{plus_zero, plus, minus, product}
use Rattle.definition.specs.Points.{coordinate, distance_sq_lem, rows_sq}
use Rattle.definition.specs.Keys.{Key, keyed, before, rank, first_rows_lem}
use Rattle.definition.specs.Overlaps.{others, nearest_others, nearest, borrowed_by}
use Rattle.definition.proofs.Order.{before-irr, before-trans}
use Rattle.definition.proofs.Halves.{key_of, rank-keyed, first_rows}
use Rattle.definition.proofs.Cuts.{Good}
use Rattle.root_laws.proofs.Order.{GoodFloat, top, num, view}
use Rattle.rows.specs.Rows.{FiniteRow}
use Rattle.definition_laws.proofs.Finite.{rows-sq-good}
use Rattle.definition_laws.proofs.Overlaps.{paired_others, borrowed-others}

-- ---- no neighbours
module _ (d : ℕ) (cs : List Float) (active : List ℕ) where
  -- a row takes none of the others
  no-others : (i : ℕ) → nearest_others d cs 0 active i ≡ []
  unfolding nearest_others first_rows_lem
  no-others i =
      let keys = keyed (rows_sq d cs i) (others active i) in
      ap (map (λ (p : Key). p.row)) (keep-none (λ p. ltb (rank keys p) 0) keys (λ p m. le-ltb (rank keys p) 0 zero-le))

  -- so it takes itself alone
  pub itself-alone : (i : ℕ) → nearest d cs 0 active i ≡ i ∷ []
  unfolding nearest
  itself-alone i = ap (λ (l : List ℕ). i ∷ l) (no-others i)

  -- and a leaf borrows nothing
  pub borrows-nothing : (own : List ℕ) → borrowed_by d cs 0 active own ≡ []
  unfolding borrowed_by
  borrows-nothing own = keep-none _ active (λ j m. fails _ (λ e. clash (borrowed-others d cs 0 active own j e) (unpaired j)))
    where
      unpaired : (j : ℕ) → any_of (λ i. paired_others d cs 0 active i j) own ≡ false
      unpaired j = none_passes (λ i. paired_others d cs 0 active i j) own (λ i n. rw (no-others i, no-others j, member-nil j, member-nil i))

-- ---- a row's squared distance to itself is +0

-- zero over any denominator rounds to +0
zero-rounds : (c : ℕ) → 0 < c → round binary64 false 0 c ≡ plus_zero
unfolding round of_bits
zero-rounds c h = round_same binary64 false 0 c 0 1 h (omega arith) (zero-mul 1 ∙ sym (zero-mul c)) ∙ refl

-- so does the sum of two values that differ in the sign only
opposites : (s : Bool) (a c : ℕ) → 0 < c → sum binary64 s a (not s) a c ≡ plus_zero
unfolding sum
opposites true a c h = rw (le-ltb a a (le_refl a), sub_self a) (zero-rounds c h)
opposites false a c h = rw (le-ltb a a (le_refl a), sub_self a) (zero-rounds c h)

-- a finite value less itself is +0
less-itself : (x : Float) → finite x ≡ true → minus x x ≡ plus_zero
unfolding sub add neg
less-itself nan h = clash h refl
less-itself (inf s) h = clash h refl
less-itself (fin s m e) h = opposites s (m * up e * down e) (down e * down e) (mul-pos (down_pos e) (down_pos e))

-- its square, added to +0, is +0
zero_more : plus plus_zero (product plus_zero plus_zero) ≡ plus_zero
unfolding add sum mul round of_bits
zero_more = refl

-- so is the squared distance of a point of finite coordinates to itself
distance-itself : (d : ℕ) (p : ℕ → Float) → ((a : ℕ) → a < d → finite (p a) ≡ true) → distance_sq_lem d p p ≡ plus_zero
unfolding distance_sq_lem
distance-itself zero p f = refl
distance-itself (suc d) p f = rw (less-itself (p d) (f d (omega arith)), distance-itself d p (λ a h. f a (omega arith))) zero_more

-- and that of a row
pub itself-zero : (d : ℕ) (cs : List Float) (i : ℕ) → FiniteRow d cs i → rows_sq d cs i i ≡ plus_zero
unfolding rows_sq
itself-zero d cs i f = distance-itself d (coordinate d cs i) f

-- ---- +0 is below each other value that is not negative
other-above : (a b : ℕ) → b ≡ 0 → eqb a b ≡ false → ltb b a ≡ true
other-above a b z h = elim (dec_lt b a) [
  | yes k ↦ lt-ltb b a k
  | no k ↦ absurd (eqb-false a b h (omega arith))
]

zero-least : {x : Float} → GoodFloat x → eq x plus_zero ≡ false → lt plus_zero x ≡ true
unfolding lt eq of_bits
zero-least top h = refl
zero-least (num m e) h = other-above (m * up e * 1) (0 * down e) (zero-mul (down e)) (sym (and-true (eqb (m * up e * 1) (0 * down e))) ∙ h)

-- ---- any rows

-- what is counted of rows that hold i once: i and the others
count-others : (p : ℕ → Bool) (rows : List ℕ) (i : ℕ) → times i rows ≡ 1 → count p rows ≡ one_if (p i) + count p (others rows i)
count-others p rows i once = omega (arith, count-sides p (λ j. eqb j i) rows, go (p i) refl)
  where
    same : (j : ℕ) → Memᴰ j (keep (λ j. eqb j i) rows) → p j ≡ p i
    same j m = ap p (eqb-true j i (keep-mem (λ j. eqb j i) rows m).1)

    go : (b : Bool) → p i ≡ b → count p (keep (λ j. eqb j i) rows) ≡ one_if (p i)
    go true e = rw e (count-all p (keep (λ j. eqb j i) rows) (λ j m. same j m ∙ e) ∙ length-keep (λ j. eqb j i) rows ∙ once)
    go false e = rw e (count_none p (keep (λ j. eqb j i) rows) (λ j m. same j m ∙ e))

-- a row is one of the first m where it is in the list and fewer than m come before it
member-first : (v : ℕ → Float) (m : ℕ) (rows : List ℕ) (j : ℕ)
    → member j (first_rows_lem m (keyed v rows)) ≡ member j rows && ltb (count (λ q. before (key_of v q) (key_of v j)) rows) m
member-first v m rows j =
    ap (member j) (first_rows v m rows) ∙ member-keep (λ i. ltb (rank (keyed v rows) (key_of v i)) m) rows j ∙ rw (rank-keyed v rows (key_of v j))

-- ---- the rows at the place of row i
module _ (d : ℕ) (cs : List Float) (i : ℕ) (here : FiniteRow d cs i) where
  -- row j is at squared distance zero
  abbrev at_place : ℕ → Bool
  at_place j = eq (rows_sq d cs i j) plus_zero

  abbrev key : ℕ → Key
  key j = key_of (rows_sq d cs i) j

  abbrev zero_key : ℕ → Key
  zero_key r = record { value = plus_zero; row = r }

  -- how many of the rows come before row j
  abbrev earlier : List ℕ → ℕ → ℕ
  earlier rows j = count (λ q. before (key q) (key j)) rows

  -- a row at the place comes before a key at zero with a higher row
  before-zero : (j r : ℕ) → j < r → at_place j ≡ true → before (key j) (zero_key r) ≡ true
  unfolding before
  before-zero j r l e = or_right (lt (rows_sq d cs i j) plus_zero) (at_place j && ltb j r) (and-of e (lt-ltb j r l))

  -- any key at zero comes before a row elsewhere
  zero-before : (r j : ℕ) → FiniteRow d cs j → at_place j ≡ false → before (zero_key r) (key j) ≡ true
  unfolding before
  zero-before r j f e =
      or_left (lt plus_zero (rows_sq d cs i j)) (eq plus_zero (rows_sq d cs i j) && ltb r j)
      (zero-least (view (rows_sq d cs i j) (rows-sq-good d cs i j here f)) e)

  -- row i stands there itself, so it comes before each row elsewhere
  itself-there : at_place i ≡ true
  unfolding eq of_bits
  itself-there = rw (itself-zero d cs i here)

  itself-before : (j : ℕ) → FiniteRow d cs j → at_place j ≡ false → before (key i) (key j) ≡ true
  itself-before j f e = rw (itself-zero d cs i here) (zero-before i j f e)

  -- what comes before a row at the place stands there too
  before-place : (q j : ℕ) → FiniteRow d cs q → at_place j ≡ true → before (key q) (key j) ≡ true → at_place q ≡ true
  before-place q j f e h = ⊎_elim (λ t. t) (λ n. clash (before-trans (key q) (key j) (key q) h (later n)) (before-irr (key q))) (true-or-false (at_place q))
    where
      later : at_place q ≡ false → before (key j) (key q) ≡ true
      later n = before-trans (key j) (zero_key (suc j)) (key q) (before-zero j (suc j) (omega arith) e) (zero-before (suc j) q f n)

  -- so of any rows fewer come before one at the place than stand there
  place-early : (rows : List ℕ) → ((r : ℕ) → Memᴰ r rows → FiniteRow d cs r) → (j : ℕ) → Memᴰ j rows → at_place j ≡ true → earlier rows j < count at_place rows
  place-early rows f j m e = count-lt (λ q. before (key q) (key j)) at_place rows (λ q n. before-place q j (f q n) e) j m (before-irr (key j)) e

  -- ---- the active rows
  module _ (active : List ℕ) (g : Good d cs active) (active-i : 0 < times i active) (neighbours : ℕ) (few : count at_place active ≤ suc neighbours) where
    finite-active : (r : ℕ) → Memᴰ r active → FiniteRow d cs r
    finite-active r m = g.finite-at r (mem-times active r m)

    -- what is counted of the active rows: row i and the others
    count-active : (p : ℕ → Bool) → count p active ≡ one_if (p i) + count p (others active i)
    count-active p = count-others p active i (omega (arith, g.once i))

    -- of the others one fewer comes before a row elsewhere, without row i, and fewer before a row at the place than stand there without row i
    one_fewer : (j : ℕ) → Memᴰ j (others active i) → earlier active j < suc neighbours → earlier (others active i) j < neighbours
    one_fewer j m l = go (true-or-false (at_place j))
      where
        inside : (r : ℕ) → Memᴰ r (others active i) → FiniteRow d cs r
        inside r k = finite-active r (keep-mem (λ j. not (eqb j i)) active k).0

        go : (at_place j ≡ true) ⊎ (at_place j ≡ false) → earlier (others active i) j < neighbours
        go (inl e) =
            let own : one_if (at_place i) ≡ 1 = rw itself-there in
            omega (arith, count-active at_place, place-early (others active i) inside j m e)
        go (inr e) =
            let own : one_if (before (key i) (key j)) ≡ 1 = rw (itself-before j (inside j m) e) in
            omega (arith, count-active (λ q. before (key q) (key j)))

    -- so the two orders take the same of the others
    same-others : (j : ℕ) → Memᴰ j (others active i) → ltb (earlier (others active i) j) neighbours ≡ ltb (earlier active j) (suc neighbours)
    same-others j m =
        let c = count-active (λ q. before (key q) (key j)) in
        let o = one-le (before (key i) (key j)) in
        same_test (ltb (earlier (others active i) j) neighbours) (ltb (earlier active j) (suc neighbours))
        (λ t. let s = ltb-true (earlier (others active i) j) neighbours t in lt-ltb (earlier active j) (suc neighbours) (omega arith))
        (λ t. lt-ltb (earlier (others active i) j) neighbours (one_fewer j m (ltb-true (earlier active j) (suc neighbours) t)))

    -- row j is one of the first of all active rows
    abbrev is_first : ℕ → Bool
    is_first j = member j active && ltb (earlier active j) (suc neighbours)

    -- row i is: fewer come before it than stand at its place
    itself-first : is_first i ≡ true
    itself-first =
        and-of (member-some i active active-i)
        (lt-ltb (earlier active i) (suc neighbours) (omega (arith, place-early active finite-active i (times-mem active i active-i) itself-there)))

    -- another row is where it is one of the nearest others
    other-first : (j : ℕ) → (i ≡ j → ⊥) → member j (nearest_others d cs neighbours active i) ≡ is_first j
    unfolding nearest_others
    other-first j n =
        member-first (rows_sq d cs i) neighbours (others active i) j ∙ go (member j (others active i)) refl
        ∙ ap (λ (b : Bool). b && ltb (earlier active j) (suc neighbours)) inside
      where
        inside : member j (others active i) ≡ member j active
        inside = member-keep (λ j. not (eqb j i)) active j ∙ rw (ne_eqb j i (λ e. n (sym e))) (and-true (member j active))

        go : (b : Bool) → member j (others active i) ≡ b
            → b && ltb (earlier (others active i) j) neighbours ≡ b && ltb (earlier active j) (suc neighbours)
        go true e = same-others j (member-mem (others active i) j e)
        go false e = refl

-- THE LAW: an active row at whose place no more active rows stand, itself included, than it takes, takes the rows that are first by
-- (squared distance, row) among all active rows
pub own-first-same : (d : ℕ) (cs : List Float) (active : List ℕ) → Good d cs active → (neighbours i : ℕ) → 0 < times i active
    → count (λ j. eq (rows_sq d cs i j) plus_zero) active ≤ suc neighbours
    → (j : ℕ) → member j (nearest d cs neighbours active i) ≡ member j (first_rows_lem (suc neighbours) (keyed (rows_sq d cs i) active))
unfolding nearest
own-first-same d cs active g neighbours i h few j =
    let here = g.finite-at i h in
    member-cons j i (nearest_others d cs neighbours active i)
    ∙ ⊎_elim
    (λ (e : i ≡ j). rw (← e, eq-eqb i i refl) (sym (itself-first d cs i here active g h neighbours few)))
    (λ (n : i ≡ j → ⊥). rw (ne_eqb i j n) (other-first d cs i here active g h neighbours few j n))
    (same_or i j)
    ∙ sym (member-first (rows_sq d cs i) (suc neighbours) active j)
