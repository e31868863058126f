-- What is written for the input that was read. Definitions only.
use Rattle.std.specs.Prelude.{◌≡◌, ℕ, ◌≤◌, List, length, take, Option, Result, Ok, Err}
use Rattle.std.specs.Io.KnownBytes.{Appends, Keeps}
use Rattle.formats.specs.Printout.{refusal_text}
use Rattle.stored.specs.Programs.{Kept, file, nothing, kept}
use Rattle.refusal.specs.declared.Refusal.{Refusal}
use Rattle.refusal.specs.Refusals.{as_refusal}
use Rattle.program_input.specs.declared.Front.{Front}
use Rattle.program_input.specs.Input.{MayBe}

-- ---- what is kept of the input, whichever stream it is of those that it may be
abbrev pub KeptFor : Front → List ℕ → Kept → Type 0
KeptFor front input k = (stream : List ℕ) → MayBe front input stream → k ≡ kept stream

-- its file
abbrev pub FileFor : Front → List ℕ → List ℕ → Type 0
FileFor front input bytes = KeptFor front input (file bytes)

-- the text of its refusal
abbrev pub Tells : List ℕ → Kept → Type 0
Tells text (file bytes) = ⊥
Tells text (nothing r) = text ≡ refusal_text r

abbrev pub RefusalFor : Front → List ℕ → List ℕ → Type 0
RefusalFor front input text = (stream : List ℕ) → MayBe front input stream → Tells text (kept stream)

-- the text of its refusal is what a writer's known bytes grew by
abbrev pub RefusalAdded : Front → List ℕ → Option (List ℕ) → Option (List ℕ) → Type 0
RefusalAdded front input old new = (text : List ℕ) × RefusalFor front input text × Appends old new text

-- ---- what is kept, in the known bytes of two writers: a file is added to the first, the text of a refusal to the second, and the other
-- stays as it was
abbrev pub KeptIn : Kept → Option (List ℕ) → Option (List ℕ) → Option (List ℕ) → Option (List ℕ) → Type 0
KeptIn (file bytes) old new errors-old errors-new = Appends old new bytes × Keeps errors-old errors-new
KeptIn (nothing r) old new errors-old errors-new = Keeps old new × Appends errors-old errors-new (refusal_text r)

-- ---- the reply for the input: the file, at the front of `bytes`, or a refusal
abbrev pub Replies : Front → List ℕ → List ℕ → Result ℕ Refusal → Type 0
Replies front input bytes (Ok n) = (n ≤ length bytes) × FileFor front input (take n bytes)
Replies front input bytes (Err r) = KeptFor front input (nothing (as_refusal r))
