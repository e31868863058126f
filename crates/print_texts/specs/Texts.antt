-- The text of a row and of a float, as a list of them has it: a space, and the number or the bits. Definitions only.
use Rattle.std.specs.Prelude.{ℕ, List, [], ◌∷◌, Float}
use Rattle.std.specs.Float.{binary64}
use Rattle.std.specs.Float.Ieee.{to_bits}
use Rattle.formats.specs.Printout.{decimal, hex_onto}

abbrev pub row_text : ℕ → List ℕ
row_text j = 32 ∷ decimal j

abbrev pub float_text : Float → List ℕ
float_text x = 32 ∷ hex_onto 16 (to_bits binary64 x) []
