-- A row against the least one that may stand there. Assumes nothing.
use mathlib.Core.Path.{◌≡◌, sym, ◌∙◌}
use mathlib.Core.Bool.{Bool, true, false}
use Prim.Native.Nat.{ℕ, ◌≤◌, ◌<◌}
use lib.Dec.{leb}
use borrow.Author.Tests.{leb-true, leb-false}

module _ (least row : ℕ) (r : Bool) (said : r ≡ leb least row) where
  pub too-low : r ≡ false → row < least
  too-low e = leb-false least row (sym said ∙ e)

  pub not_low : r ≡ true → least ≤ row
  not_low e = leb-true least row (sym said ∙ e)
