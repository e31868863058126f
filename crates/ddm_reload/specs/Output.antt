-- What is printed for the two inputs that were read. Definitions only.
use Rattle.std.specs.Prelude.{◌≡◌, ℕ, List}
use Rattle.stored.specs.Programs.{reloaded}
use Rattle.program_input.specs.declared.Front.{Front}
use Rattle.program_input.specs.Input.{MayBe}

-- the text is what is printed, whichever stream and whichever file the two inputs are of those that they may be
abbrev pub ReloadedFrom : Front → List ℕ → Front → List ℕ → List ℕ → Type 0
ReloadedFrom job input tree bytes text =
    (stream : List ℕ) → MayBe job input stream → (file : List ℕ) → MayBe tree bytes file → text ≡ reloaded stream file
