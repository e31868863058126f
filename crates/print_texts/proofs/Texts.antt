-- The texts of rows and of floats, and the parts of a refusal's line. Assumes nothing.
-- Holds: floats-text, float-alone, rows-dash, rows-listed, refusal-parts
use mathlib.Core.Path.{◌≡◌, refl}
use Prim.Native.Nat.{ℕ, ◌<◌}
use native.Mathlib.Omega.{arith}
use mathlib.Core.List.{List, [], ◌∷◌, ◌++◌, append_assoc, map}
use lib.ListN.{length}
use lib.Ieee.{Float}
use Rattle.lists.specs.Lists.{joined}
use Rattle.lists.proofs.Joined.{joined-one}
use Rattle.formats.specs.Printout.{rows_text, floats_text, ascii, decimal, refusal_text}
use Rattle.print_texts.specs.Texts.{row_text, float_text}
use Rattle.print_texts.specs.Refusals.{refusal_of}

pub floats-text : (xs : List Float) → floats_text xs ≡ joined (map float_text xs)
unfolding floats_text
floats-text xs = refl

pub float-alone : (x : Float) → floats_text (x ∷ []) ≡ float_text x
unfolding floats_text
float-alone x = joined-one (float_text x)

pub rows-dash : (xs : List ℕ) → length xs ≡ 0 → rows_text xs ≡ 32 ∷ 45 ∷ []
unfolding rows_text ascii
rows-dash [] e = refl
rows-dash (x ∷ xs) e = absurd (omega arith)

pub rows-listed : (xs : List ℕ) → 0 < length xs → rows_text xs ≡ joined (map row_text xs)
unfolding rows_text
rows-listed [] h = absurd (omega arith)
rows-listed (x ∷ xs) h = refl

-- ---- a refusal's line
pub refusal-parts : (k p : ℕ) → refusal_text (refusal_of k p) ≡ (ascii "refused " ++ decimal k) ++ (ascii " at " ++ decimal p) ++ ascii "\n"
unfolding refusal_text
refusal-parts k p = simp append_assoc
