-- Sorts of values that the laws of the root speak of. Definitions only.
use Rattle.std.specs.Prelude.{ℕ, zero, suc, ◌+◌, ◌*◌, ◌<◌, Bool, true, false, not, ◌&&◌, Float}
use Rattle.std.specs.Float.{nan, inf, fin, binary64}
use Rattle.std.specs.Float.Ieee.{fits}

-- any value but NaN
abbrev pub is_number : Float → Bool
is_number nan = false
is_number (inf s) = true
is_number (fin s m e) = true

-- +0, a positive number or +infinity
abbrev pub not_negative_lem : Float → Bool
not_negative_lem nan = false
not_negative_lem (inf s) = not s
not_negative_lem (fin s m e) = not s

-- one that an f64 holds
abbrev pub good : Float → Bool
good x = not_negative_lem x && fits binary64 x

-- whether x has a root: those, and -0
abbrev pub has_root : Float → Bool
has_root nan = false
has_root (inf s) = not s
has_root (fin s zero e) = true
has_root (fin s (suc m) e) = not s

-- Of two sizes, R is nearer to the root of W than Y is: the root is on R's side of the middle between them. Never halfway.
abbrev pub Nearer : ℕ → ℕ → ℕ → Type 0
Nearer W R Y = (Y < R → (Y + R) * (Y + R) < 4 * W) × (R < Y → 4 * W < (Y + R) * (Y + R))
