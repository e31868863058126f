-- The texts that are printed. Definitions only.
use Rattle.std.specs.Prelude.{ℕ, List, [], ◌∷◌, ◌++◌, codes, decimal}

-- a space and the number
abbrev pub number_text : ℕ → List ℕ
number_text n = codes " " ++ decimal n

-- a space and the number, for each of the list
unfoldable pub numbers_text : List ℕ → List ℕ
numbers_text [] = []
numbers_text (n ∷ ns) = number_text n ++ numbers_text ns
