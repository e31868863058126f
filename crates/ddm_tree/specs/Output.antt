-- What is printed for the input that was read. Definitions only.
use Rattle.std.specs.Prelude.{◌≡◌, ℕ, List}
use Rattle.formats.specs.Printout.{printout}
use Rattle.program_input.specs.declared.Front.{Front}
use Rattle.program_input.specs.Input.{MayBe}

-- the text is the printout, whichever stream the input is of those that it may be
abbrev pub PrintoutFor : Front → List ℕ → List ℕ → Type 0
PrintoutFor front input text = (stream : List ℕ) → MayBe front input stream → text ≡ printout stream
