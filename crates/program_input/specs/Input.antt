-- What reading an input came to, and which streams it may be then. Definitions only.
use Rattle.std.specs.Prelude.{◌≡◌, ℕ, ◌≤◌, List, take}
use Rattle.program_input.specs.declared.Front.{Front}
use Rattle.program_input.specs.declared.Front.TheVariants.{Open, Ended}

-- how many bytes were read
abbrev pub front_count : Front → ℕ
front_count (Open n) = n
front_count (Ended n) = n

-- reading into a list of `most` bytes stopped: an input whose end was not seen has filled the list
abbrev pub Stopped : ℕ → Front → Type 0
Stopped most (Open n) = n ≡ most
Stopped most (Ended n) = n ≤ most

-- the streams that the input may be, when this much of it was read to the list `input`: those that begin so, or the bytes themselves, where
-- their end was seen
abbrev pub MayBe : Front → List ℕ → List ℕ → Type 0
MayBe (Open n) input stream = take n stream ≡ take n input
MayBe (Ended n) input stream = stream ≡ take n input
