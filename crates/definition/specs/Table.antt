-- The table of wells (document 02, request 7): a head, a flag for each slot, and coordinates; what adding and retiring answer, and what
-- they leave. Definitions only.
use Rattle.std.specs.Prelude.{ℕ, suc, ◌-◌, ◌*◌, min, max, Bool, not, ◌&&◌, ◌||◌, List, [], ◌∷◌, ◌++◌, length, get_or, set, leb, ltb, eqb, Float}
use Rattle.lists.specs.Lists.{keep, least, from, put}
use Rattle.definition.specs.Refusals.{Test, on, Verdict, verdict, most_points, wrong_dimension_lem, not_finite_lem}
use Rattle.definition.specs.Outcome.{Answer, answered, value_of}

-- ---- the table

-- the head: how many slots have been given out, and how many of them are live
pub record Head : Type 0 where
  pub slots : ℕ
  pub live : ℕ

-- a table as the caller keeps and lends it; the coordinates of slot i start at i * d
pub record Table : Type 0 where
  pub head : Head
  pub flags : List ℕ
  pub coordinates : List Float

-- the flag list's length, held to the most points that a build takes
abbrev pub capacity : List ℕ → ℕ
capacity flags = min most_points (length flags)

-- a flag but 0 is live
abbrev pub flagged : List ℕ → ℕ → Bool
flagged flags i = not (eqb (get_or flags i 0) 0)

-- the live slots, ascending: at or above the slot count none is live
unfoldable pub live_slots_lem : Head → List ℕ → List ℕ
live_slots_lem h flags = keep (flagged flags) (from 0 h.slots)

-- the lowest retired slot, else the next new one
unfoldable pub next_slot : Head → List ℕ → ℕ
next_slot h flags = least (λ i. not (flagged flags i)) h.slots

-- ---- refusals

-- 11: coordinates short of the capacity
abbrev pub coordinates_short : ℕ → Table → Bool
coordinates_short d t = ltb (length t.coordinates) (capacity t.flags * d)

-- 27: a slot count above the capacity, or a live count other than the live flags below the slot count
unfoldable pub unsound : Head → List ℕ → Bool
unsound h flags = ltb (capacity flags) h.slots || not (eqb h.live (length (live_slots_lem h flags)))

-- what every edit tries first: 1, 11 where a lent list is short, 27
abbrev pub edit_tests : ℕ → Table → Bool → List Test
edit_tests d t short = on (wrong_dimension_lem d) 1 ∷ on short 11 ∷ on (unsound t.head t.flags) 27 ∷ []

-- adding and retiring are lent no list but those of the table
abbrev pub table_tests : ℕ → Table → List Test
table_tests d t = edit_tests d t (coordinates_short d t)

-- 21: no retired slot, and the slot count at capacity
abbrev pub full : Table → Bool
full t = eqb (next_slot t.head t.flags) t.head.slots && eqb t.head.slots (capacity t.flags)

-- adding: 1, 11, 27, 7, 10, 21
unfoldable pub add_verdict : ℕ → Table → List Float → Verdict
add_verdict d t point = verdict (table_tests d t ++ on (not (eqb (length point) d)) 7 ∷ not_finite_lem point ∷ on (full t) 21 ∷ [])

-- 22: slot not live
abbrev pub not_live_lem : Table → ℕ → Bool
not_live_lem t slot = leb t.head.slots slot || not (flagged t.flags slot)

-- retiring: 1, 11, 27, 22
unfoldable pub retire_verdict : ℕ → Table → ℕ → Verdict
retire_verdict d t slot = verdict (table_tests d t ++ on (not_live_lem t slot) 22 ∷ [])

-- ---- outcomes

-- an accepted add: the flag becomes 1, the point's coordinates are written to the slot, and a new slot counts as one more
unfoldable pub added : ℕ → Table → List Float → Table
added d t point =
    let slot = next_slot t.head t.flags in
    record {
      head = record { slots = max t.head.slots (suc slot); live = suc t.head.live };
      flags = set t.flags slot 1;
      coordinates = put t.coordinates (slot * d) point;
    }

-- the slot is the answer
unfoldable pub add_answer_lem : ℕ → Table → List Float → Answer ℕ
add_answer_lem d t point = answered (add_verdict d t point) (next_slot t.head t.flags) 0

-- a refused edit alters neither head nor slots
unfoldable pub add_table : ℕ → Table → List Float → Table
add_table d t point = value_of (add_verdict d t point) (added d t point) t

-- an accepted retirement: the flag becomes 0; slot count and coordinates stay
unfoldable pub retired : Table → ℕ → Table
retired t slot =
    record {
      head = record { slots = t.head.slots; live = t.head.live - 1 };
      flags = set t.flags slot 0;
      coordinates = t.coordinates;
    }

-- nothing is answered but number and place
unfoldable pub retire_answer_lem : ℕ → Table → ℕ → Answer ℕ
retire_answer_lem d t slot = answered (retire_verdict d t slot) 0 0

unfoldable pub retire_table : ℕ → Table → ℕ → Table
retire_table d t slot = value_of (retire_verdict d t slot) (retired t slot) t
