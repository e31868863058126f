-- The leaves' quotas (module 4), by largest remainder (Hamilton's apportionment). Definitions only.
use Rattle.std.specs.Prelude.{ℕ, ◌+◌, ◌-◌, ◌*◌, ◌/◌, ◌%◌, min, Bool, ◌&&◌, ◌||◌, cond, leb, ltb, eqb, length, get_or}
use mathlib.Core.List.{List, map, zip_with}
use Rattle.lists.specs.Lists.{one_if, count, total, from}

-- the size of leaf i, and its capacity in a list of capacities
abbrev pub size_at : List ℕ → ℕ → ℕ
size_at sizes i = get_or sizes i 0

-- how many leaves are nonempty
abbrev pub nonempty : List ℕ → ℕ
nonempty sizes = count (λ w. ltb 0 w) sizes

-- ---- `rest` seats shared by the leaves' capacities, by largest remainder

-- leaf i's share, rounded down, and the remainder that this leaves (both 0 where there is no capacity at all, and so no rest)
abbrev pub whole_at : List ℕ → ℕ → ℕ → ℕ
whole_at capacities rest i = rest * size_at capacities i / total capacities

abbrev pub remainder_at : List ℕ → ℕ → ℕ → ℕ
remainder_at capacities rest i = rest * size_at capacities i % total capacities

-- leaf j comes before leaf i, r being a leaf's remainder: a larger remainder, or an equal one and a lower leaf
abbrev pub comes_before_lem : (ℕ → ℕ) → ℕ → ℕ → Bool
comes_before_lem r j i = ltb (r i) (r j) || (eqb (r j) (r i) && ltb j i)

-- how many of n leaves come before leaf i
unfoldable pub leaves_before : ℕ → (ℕ → ℕ) → ℕ → ℕ
leaves_before n r i = count (λ j. comes_before_lem r j i) (from 0 n)

-- the seats that the shares, rounded down, leave over
abbrev pub leftover : List ℕ → ℕ → ℕ
leftover capacities rest = rest - total (map (whole_at capacities rest) (from 0 (length capacities)))

-- leaf i's seats: its share rounded down, and one more where fewer leaves than there are leftover seats come before it
abbrev pub seats_at : List ℕ → ℕ → ℕ → ℕ
seats_at capacities rest i =
    whole_at capacities rest i + one_if (ltb (leaves_before (length capacities) (remainder_at capacities rest) i) (leftover capacities rest))

unfoldable pub seats_of : List ℕ → ℕ → List ℕ
seats_of capacities rest = map (seats_at capacities rest) (from 0 (length capacities))

-- ---- quotas

-- S, held to the total
abbrev pub held_seats : List ℕ → ℕ → ℕ
held_seats sizes s = min s (total sizes)

-- The quotas for s seats, s being at most the total. Where s reaches the number of nonempty leaves, each of these gets one, and the
-- rest is shared by the capacity that remains; otherwise all seats are shared by size.
unfoldable pub quotas_for : List ℕ → ℕ → List ℕ
quotas_for sizes s =
    cond (leb (nonempty sizes) s)
    (zip_with (λ one more. one + more) (map (λ w. min 1 w) sizes) (seats_of (map (λ w. w - 1) sizes) (s - nonempty sizes)))
    (seats_of sizes s)

-- the quotas of leaves of these sizes for a level of S rows
unfoldable pub quotas : List ℕ → ℕ → List ℕ
quotas sizes s = quotas_for sizes (held_seats sizes s)
