-- The result slot of a call: what is written to it, and what becomes of a call whose slot is short. Definitions only.
use Rattle.std.specs.Prelude.{ℕ, ◌≡◌, Result, ◌+◌, ◌*◌, cond, List, [], ◌∷◌, ◌++◌, length, get_or, set, ltb, Float}
use Rattle.lists.specs.Lists.{part, put}
use Rattle.definition.specs.Packed.{Counts, BuildSizes, most_levels}
use Rattle.definition.specs.Refusals.{Verdict, refused}
use Rattle.definition.specs.Table.{Head, Table}
use Rattle.definition.specs.Outcome.{Answer, Shared, Sampled, written}
use Rattle.build_sizes.specs.Sizes.{lengths_of}
use Rattle.refusal.specs.declared.Refusal.{Refusal}
use Rattle.refusal.specs.declared.Report.{Report}
use Rattle.refusal.specs.Reports.{Reports}

-- ---- a slot that is to have n entries

-- x where the slot is shorter, and y otherwise
unfoldable pub unless_short : {A B : Type 0} → ℕ → List B → A → A → A
unless_short n slot x y = cond (ltb (length slot) n) x y

-- what the call returns: 11 for a short slot, and otherwise the refusal number of the answer
abbrev pub number_after : {A B : Type 0} → ℕ → List B → Answer A → ℕ
number_after n slot a = unless_short n slot 11 a.number

-- the slot after the call: xs at its front, and what stands past them as found; a short slot as found
abbrev pub slot_after : {B : Type 0} → ℕ → List B → List B → List B
slot_after n slot xs = unless_short n slot slot (written xs slot)

-- the tests of the call: the slot's length before any other
abbrev pub slot_first : {B : Type 0} → ℕ → List B → Verdict → Verdict
slot_first n slot v = unless_short n slot (refused (record { number = 11; place = 0 })) v

-- sampling has a slot for its cover too: x where that or the other one is too short, and y otherwise
abbrev pub unless_either : {A : Type 0} → List Float → List ℕ → A → A → A
unless_either cover slot x y = unless_short 1 cover x (unless_short 2 slot x y)

-- ---- what each call writes to its slot: its place, where the layout has one, and then its values

abbrev pub value_slot : {A : Type 0} → Answer A → List A
value_slot a = a.value ∷ []

abbrev pub quota_slot : Answer Shared → List ℕ
quota_slot a = a.value.leaves ∷ a.value.seats ∷ []

-- sampling's: the place, and how many rows were written; and its slot of one float, the cover
abbrev pub sample_slot : Answer Sampled → List ℕ
sample_slot a = a.place ∷ a.value.rows ∷ []

abbrev pub cover_slot : Answer Sampled → List Float
cover_slot a = a.value.cover ∷ []

-- the writer's: the place, and how many bytes were written; an add's: the place, and the slot taken; closing's: the place, and the new slot count
abbrev pub placed_slot : Answer ℕ → List ℕ
placed_slot a = a.place ∷ a.value ∷ []

-- the lengths that a build is to be lent, in the order of its lists
abbrev pub sizes_slot : Answer BuildSizes → List ℕ
sizes_slot a = lengths_of a.value

abbrev pub build_slot : Answer Counts → List ℕ
build_slot a = a.place ∷ a.value.levels ∷ a.value.rows ++ a.value.domains

-- the counts of a tree, from the slot that a build or a load wrote
abbrev pub counts_in : List ℕ → Counts
counts_in slot = record { levels = get_or slot 1 0; rows = part slot 2 most_levels; domains = part slot 6 most_levels }

-- what a call returns, and its slot of one value after it: what is told of its answer
abbrev pub PutValue : {A : Type 0} → (A → Type 0) → Result A Refusal → List A → List A → ℕ → Type 0
PutValue {A} IsZero answer slot slot' returned = (r : Report A) × Reports IsZero answer r × (returned ≡ r.number) × (slot' ≡ put slot 0 (r.value ∷ []))

-- ---- a table's head, as two numbers

-- the head that they are, and the two after a call that leaves another
abbrev pub head_given : List ℕ → Head
head_given numbers = record { slots = get_or numbers 0 0; live = get_or numbers 1 0 }

abbrev pub head_written : Head → List ℕ → List ℕ
head_written h numbers = set (set numbers 0 h.slots) 1 h.live

abbrev pub table_from : List ℕ → List ℕ → List Float → Table
table_from head flags coordinates =
    record { head = head_given head; flags = flags; coordinates = coordinates }

-- ---- the version, as one number
abbrev pub version_number : ℕ → ℕ → ℕ → ℕ
version_number major minor patch = major * 10000 + minor * 100 + patch
