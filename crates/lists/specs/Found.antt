-- What is left of a list that was written to at its front only. Definitions only.
use Rattle.std.specs.Prelude.{ℕ, ◌≡◌, List, drop}

-- the list is as it was, from its k-th entry on
abbrev pub AsFoundFrom : {A : Type 0} → ℕ → List A → List A → Type 0
AsFoundFrom k before after = drop k after ≡ drop k before
