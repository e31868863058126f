-- The covers of what leaves send up: of one leaf, leaf after leaf behind the working room, and as the definition has them. Assumes
-- nothing.
-- Holds: cover-empty, cover-unsent, leaf-sampled, covers-first, covers-next, covers-zip
use mathlib.Core.Path.{◌≡◌, refl, sym, ap, ◌∙◌}
use mathlib.Core.List.{List, [], ◌∷◌, map, zip_with}
use Prim.Native.Nat.{ℕ, ◌+◌, ◌≤◌, ◌<◌}
use native.Mathlib.Omega.{arith}
use lib.ListN.{length, get_or, set, take}
use lib.Ieee.{Float}
use Rattle.lists.specs.Lists.{from}
use Rattle.lists.proofs.From.{map-from-nil, fill_more, zip-from-at}
use Rattle.lists.proofs.Map.{zip_length, zip-at}
use Rattle.definition.specs.Number.{plus_zero, plus_infinity}
use Rattle.definition.specs.Sampling.{seed_of, sample, sent_by, cover_of, leaf_cover}
use Rattle.definition.proofs.Sampling.{sent-length}
use Rattle.packed.specs.Reading.{own_at, read_own}
use Rattle.packed.proofs.OwnRows.{read_length, read_at}
use Rattle.coarse_points.specs.Sent.{covers_at}
use Rattle.coarse_points.proofs.Sending.{sent-none, sent-some}

-- ---- one leaf
module _ (d : ℕ) (cs : List Float) where
  pub cover-empty : (rows sent : List ℕ) → length rows < 1 → plus_zero ≡ leaf_cover d cs rows sent
  unfolding leaf_cover
  cover-empty [] sent h = refl
  cover-empty (i ∷ rows) sent h = absurd (omega arith)

  none-sent : (rows : List ℕ) → 1 ≤ length rows → plus_infinity ≡ leaf_cover d cs rows []
  unfolding leaf_cover
  none-sent [] h = absurd (omega arith)
  none-sent (i ∷ rows) h = refl

  pub cover-unsent : (rows : List ℕ) (quota : ℕ) → 1 ≤ length rows → quota < 1 → plus_infinity ≡ leaf_cover d cs rows (sent_by d cs rows quota)
  cover-unsent rows quota h q = none-sent rows h ∙ ap (leaf_cover d cs rows) (sym (sent-none d cs rows quota q))

  some-sent : (rows sent : List ℕ) → 1 ≤ length rows → 1 ≤ length sent → cover_of d cs rows sent ≡ leaf_cover d cs rows sent
  unfolding leaf_cover
  some-sent [] sent h k = absurd (omega arith)
  some-sent (i ∷ rows) [] h k = absurd (omega arith)
  some-sent (i ∷ rows) (j ∷ sent) h k = refl

  -- a leaf that sends some of its rows, from its seed on
  pub leaf-sampled : (rows : List ℕ) (quota seed : ℕ) → 1 ≤ length rows → 1 ≤ quota → seed ≡ seed_of d cs rows
      → (new : List ℕ) (x : Float) → new ≡ sample d cs rows quota seed → x ≡ cover_of d cs rows (sample d cs rows quota seed)
      → (new ≡ sent_by d cs rows quota) × (x ≡ leaf_cover d cs rows (sent_by d cs rows quota))
  leaf-sampled rows quota seed h q e new x w f =
      let s : sample d cs rows quota seed ≡ sent_by d cs rows quota = ap (sample d cs rows quota) e ∙ sym (sent-some d cs rows quota q) in (
        w ∙ s,
        f ∙ ap (cover_of d cs rows) s ∙ some-sent rows (sent_by d cs rows quota) h (omega (arith, sent-length d cs rows quota)),
      )

-- ---- leaf after leaf: a cover at l
module _ (d : ℕ) (cs : List Float) (I D : List ℕ) (first : ℕ) (shares : List ℕ) where
  abbrev covers : ℕ → Float
  covers l = leaf_cover d cs (own_at I D (first + l)) (sent_by d cs (own_at I D (first + l)) (get_or shares l 0))

  pub covers-first : (xs : List Float) → take 0 xs ≡ covers_at d cs I D first shares 0
  covers-first xs = sym (map-from-nil covers 0)

  pub covers-next : (xs : List Float) (l : ℕ) (x : Float) → l < length xs
      → x ≡ leaf_cover d cs (own_at I D (first + l)) (sent_by d cs (own_at I D (first + l)) (get_or shares l 0))
      → take l xs ≡ covers_at d cs I D first shares l → take (l + 1) (set xs l x) ≡ covers_at d cs I D first shares (l + 1)
  covers-next xs l x h q p = fill_more covers xs l x h q p

  -- as the definition has them, quota by quota
  pub covers-zip : (m : ℕ) (ws : List ℕ) → length ws ≡ m → ((l : ℕ) → l < m → get_or shares l 0 ≡ get_or ws l 0)
      → covers_at d cs I D first shares m ≡ zip_with (leaf_cover d cs) (read_own I D first m) (zip_with (sent_by d cs) (read_own I D first m) ws)
  covers-zip m ws e h =
      let own = read_own I D first m in
      let n = read_length I D first m in
      let w : length ws ≡ length own = e ∙ sym n in
      ap (λ (k : ℕ). map covers (from 0 k)) (sym n)
      ∙ zip-from-at covers (leaf_cover d cs) [] [] own (zip_with (sent_by d cs) own ws) 0 (zip_length (sent_by d cs) own ws w)
      (λ i l.
      let z : 0 + i ≡ i = omega arith in
      let b : i < m = omega (arith, n) in
      rw (z, zip-at (sent_by d cs) own ws w i [] 0 [] l, read_at I D first m i b, h i b))
