-- The code's refusals and answers as those of the definition: document 01's number and place of each. Definitions only.
use Rattle.std.specs.Prelude.{ℕ, Result, Ok, Err}
use Rattle.definition.specs.Refusals as definition
use Rattle.definition.specs.Refusals.{Verdict, accepted, refused}
use Rattle.definition.specs.Outcome.{Answer}
use Rattle.refusal.specs.declared.Refusal.{Refusal}
use Rattle.refusal.specs.declared.Refusal.TheVariants.{WrongDimension, ZeroLeafThreshold, SmallFactor, ZeroThreshold, ManyNeighbours, NoPoints, MissingCoordinate, ManyPoints, WrongReductions, NotFinite, ShortList, StretchPastList, WrongChoice, NotAboveThreshold, NoRoot, BrokenRecord, LargeJob, OtherSettings, OtherPoints, NoSoundTree, FullTable, NoLiveSlot, UnsoundTable}

-- its number
abbrev pub refusal_number : Refusal → ℕ
refusal_number WrongDimension = 1
refusal_number ZeroLeafThreshold = 2
refusal_number SmallFactor = 3
refusal_number ZeroThreshold = 4
refusal_number ManyNeighbours = 5
refusal_number NoPoints = 6
refusal_number MissingCoordinate = 7
refusal_number ManyPoints = 8
refusal_number WrongReductions = 9
refusal_number (NotFinite position) = 10
refusal_number ShortList = 11
refusal_number StretchPastList = 12
refusal_number WrongChoice = 13
refusal_number NotAboveThreshold = 14
refusal_number NoRoot = 15
refusal_number (BrokenRecord start) = 16
refusal_number LargeJob = 17
refusal_number OtherSettings = 18
refusal_number OtherPoints = 19
refusal_number NoSoundTree = 20
refusal_number FullTable = 21
refusal_number NoLiveSlot = 22
refusal_number UnsoundTable = 27

-- its place, 0 where it names none
abbrev pub refusal_place : Refusal → ℕ
refusal_place (NotFinite position) = position
refusal_place (BrokenRecord start) = start
refusal_place r = 0

-- the definition's refusal
abbrev pub as_refusal : Refusal → definition.Refusal
as_refusal r = record { number = refusal_number r; place = refusal_place r }

-- the verdict that an answer stands for
abbrev pub verdict_of : {A : Type 0} → Result A Refusal → Verdict
verdict_of (Ok x) = accepted
verdict_of (Err r) = refused (as_refusal r)

-- the definition's answer: what an accepted call reports is `value` of what it gives, and a refused one reports `zeros`
abbrev pub answer_of : {A B : Type 0} → (A → B) → B → Result A Refusal → Answer B
answer_of value zeros (Ok x) = record { number = 0; place = 0; value = value x }
answer_of value zeros (Err r) = record { number = refusal_number r; place = refusal_place r; value = zeros }
