-- What it is to read fields of a record. Definitions only.
use Rattle.std.specs.Prelude.{◌≡◌, ℕ, ◌+◌, ◌*◌, List, length, take, drop, map, cond, ltb, ◌≤◌, ◌<◌, Option, MatchOption}
use Rattle.definition.specs.Levels.{Policy, policy_from}
use Rattle.definition.specs.Tree.{Settings}
use Rattle.formats.specs.Bytes.{field, number_at, number_size}
use Rattle.lists.specs.Lists.{from}

-- a field of k bytes is read: none where fewer are left, and then all of them stay; else the field has the value of what is left, and
-- what stands behind it stays
abbrev pub Reads : {X : Type 0} → ℕ → (List ℕ → X) → List ℕ → List ℕ → Option X → Type 0
Reads k value old new r =
    MatchOption r ((length old < k) × (new ≡ old)) (λ x. (k ≤ length old) × (x ≡ value old) × (new ≡ drop k old))

-- the same of fields that stand together; what stays where they do not all stand, it does not say
abbrev pub ReadsAll : {X : Type 0} → ℕ → (List ℕ → X) → List ℕ → List ℕ → Option X → Type 0
ReadsAll k value old new r = MatchOption r (length old < k) (λ x. (k ≤ length old) × (x ≡ value old) × (new ≡ drop k old))

-- bytes with their count before them: the count's and theirs in all, and these bytes
abbrev pub bytes_size : List ℕ → ℕ
bytes_size bs = number_size + number_at 0 bs

abbrev pub bytes_read : List ℕ → List ℕ
bytes_read bs = take (number_at 0 bs) (drop number_size bs)

-- a list with its count before it, of entries of w bytes each
abbrev pub list_size : ℕ → List ℕ → ℕ
list_size w bs = number_size + w * number_at 0 bs

-- what is left behind it
abbrev pub list_left : ℕ → List ℕ → List ℕ
list_left w bs = drop (list_size w bs) bs

-- the bits of its i-th entry
abbrev pub entry_bits : ℕ → List ℕ → ℕ → ℕ
entry_bits w bs i = field w (number_size + w * i) bs

-- the values of its entries, one after the other
abbrev pub entries_read : {X : Type 0} → ℕ → (ℕ → X) → List ℕ → List X
entries_read w value bs = map (λ i. value (entry_bits w bs i)) (from 0 (number_at 0 bs))

-- what a list that agrees with it has as the bits of its i-th entry: those of the entry there, and those of 9 past its front
abbrev pub bits_wanted : ℕ → ℕ → List ℕ → ℕ → ℕ
bits_wanted w nine bs i = cond (ltb i (number_at 0 bs)) (entry_bits w bs i) nine

-- what is left behind such a list that has its length as a number before it
abbrev pub filled_left : ℕ → List ℕ → List ℕ
filled_left w bs = list_left w (drop number_size bs)

-- what is left behind n numbers
abbrev pub numbers_left : ℕ → List ℕ → List ℕ
numbers_left n bs = drop (number_size * n) bs

-- a policy: its kind in one byte, and its number
abbrev pub policy_read : List ℕ → Policy
policy_read bs = policy_from (field 1 0 bs) (number_at 1 bs)

-- the settings: the axes in one byte, three numbers, and the policy
abbrev pub settings_read : List ℕ → Settings
settings_read bs =
    record {
      dimension = field 1 0 bs;
      leaf = number_at 1 bs;
      neighbours = number_at 5 bs;
      factor = number_at 9 bs;
      policy = policy_from (field 1 13 bs) (number_at 14 bs);
    }
