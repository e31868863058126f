-- Which bytes are well-formed: exactly the files of settings, points and trees that can be written (`well-formed-iff`), and each of
-- one only (`stored-once`); record by record, in the order in which a reader meets them (`well-formed-in-turn`). Assumes nothing.
-- Holds: well-formed-file, well-formed-sound, well-formed-bytes, well-formed-writable, well-formed-has, well-formed-of,
--   well-formed-iff, stored-once, well-formed-in-turn
use mathlib.Core.Path.{◌≡◌, refl, sym, ap, subst, ◌∙◌}
use mathlib.Core.Logic.{◌↔◌}
use Prim.Native.Nat.{ℕ}
use mathlib.Core.Bool.{Bool, true, false, ◌&&◌}
use mathlib.Core.List.{List}
use lib.ListN.{drop}
use lib.Ieee.{Float}
use Rattle.lists.specs.Ascends.{All}
use Rattle.lists.proofs.Tests.{and-fst, and-snd, three-pass}
use Rattle.definition.specs.Tree.{Settings, Level}
use Rattle.definition.specs.Packed.{most_levels}
use Rattle.formats.specs.Stream.{settings_in}
use Rattle.stored.specs.File.{file_bytes}
use Rattle.stored.specs.Sound.{same, sound}
use Rattle.stored.specs.Stored.{count_in, points_in, levels_place, tree_in, buildable, well_formed}
use Rattle.tree_tests.specs.Whole.{front_whole, levels_whole}
use Rattle.tree_tests.proofs.AllRows.{same-is}
use Rattle.stored_laws.specs.Writable.{IsByte, Writable, Stores}
use Rattle.stored_laws.proofs.ReadBack.{back-settings, back-points, back-tree, written-well}
use Rattle.stored_laws.proofs.WrittenBytes.{file-bytes}
use Rattle.stored_laws.proofs.FileIsWhole.{read-writable, file-is-whole}

-- ---- well-formed bytes are the file of what stands in them, and that can be written
module _ (bs : List ℕ) (h : well_formed bs ≡ true) where
  facts : (buildable (settings_in bs) (points_in bs) ≡ true) × (sound (settings_in bs) (count_in bs) (tree_in bs) ≡ true) × (same bs (file_bytes (settings_in bs) (points_in bs) (tree_in bs)) ≡ true)
  unfolding well_formed
  facts =
      three-pass (buildable (settings_in bs) (points_in bs)) (sound (settings_in bs) (count_in bs) (tree_in bs)) (same bs (file_bytes (settings_in bs) (points_in bs) (tree_in bs))) h

  pub well-formed-file : bs ≡ file_bytes (settings_in bs) (points_in bs) (tree_in bs)
  well-formed-file = same-is bs (file_bytes (settings_in bs) (points_in bs) (tree_in bs)) facts.2

  pub well-formed-sound : sound (settings_in bs) (count_in bs) (tree_in bs) ≡ true
  well-formed-sound = facts.1

  pub well-formed-bytes : All IsByte bs
  well-formed-bytes = subst (All IsByte) (sym well-formed-file) (file-bytes (settings_in bs) (points_in bs) (tree_in bs))

  pub well-formed-writable : Writable (settings_in bs) (points_in bs) (tree_in bs)
  well-formed-writable = read-writable bs well-formed-bytes facts.0 well-formed-sound

-- ---- in two directions
pub well-formed-has : (bs : List ℕ) → well_formed bs ≡ true → Stores bs (settings_in bs) (points_in bs) (tree_in bs)
well-formed-has bs h = record { writable = well-formed-writable bs h; file = sym (well-formed-file bs h) }

pub well-formed-of : (bs : List ℕ) (s : Settings) (cs : List Float) (ls : List Level) → Stores bs s cs ls → well_formed bs ≡ true
well-formed-of bs s cs ls k = ap well_formed (sym k.file) ∙ written-well s cs ls k.writable

pub well-formed-iff : (bs : List ℕ) → (well_formed bs ≡ true) ↔ ((s : Settings) × (cs : List Float) × (ls : List Level) × Stores bs s cs ls)
well-formed-iff bs = (λ h. (settings_in bs, points_in bs, tree_in bs, well-formed-has bs h), λ k. well-formed-of bs k.0 k.1 k.2 k.3)

-- ---- they hold no others
pub stored-once : (bs : List ℕ) (s : Settings) (cs : List Float) (ls : List Level) → Stores bs s cs ls → (s ≡ settings_in bs) × (cs ≡ points_in bs) × (ls ≡ tree_in bs)
stored-once bs s cs ls k = (
  sym (back-settings s cs ls k.writable) ∙ ap settings_in k.file,
  sym (back-points s cs ls k.writable) ∙ ap points_in k.file,
  sym (back-tree s cs ls k.writable) ∙ ap tree_in k.file,
)

-- ---- as a reader finds out
pub well-formed-in-turn : (bs : List ℕ) → All IsByte bs
    → well_formed bs
    ≡ buildable (settings_in bs) (points_in bs) && sound (settings_in bs) (count_in bs) (tree_in bs)
    && (front_whole bs && levels_whole (settings_in bs).dimension most_levels (drop (levels_place bs) bs))
unfolding well_formed
well-formed-in-turn bs bytes =
    go (buildable (settings_in bs) (points_in bs) && sound (settings_in bs) (count_in bs) (tree_in bs)) refl
  where
    a : Bool
    a = buildable (settings_in bs) (points_in bs)

    b : Bool
    b = sound (settings_in bs) (count_in bs) (tree_in bs)

    go : (t : Bool) → a && b ≡ t → t && same bs (file_bytes (settings_in bs) (points_in bs) (tree_in bs)) ≡ t && (front_whole bs && levels_whole (settings_in bs).dimension most_levels (drop (levels_place bs) bs))
    go true e = file-is-whole bs bytes (and-fst a b e) (and-snd a b e)
    go false e = refl
