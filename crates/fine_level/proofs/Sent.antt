-- The leaves of a level before any row is sent up, and those that the definition has: alike in all but the covers; and the floats of their
-- domain rows, as the stages leave them. Assumes nothing.
-- Holds: sent-own, sent-borrowed, sent-number, sent-stretches, floats-are, lent_fits, boxes-packed
use mathlib.Core.Path.{◌≡◌, refl, sym, ap, ap₂, ◌∙◌}
use mathlib.Core.List.{List, [], ◌∷◌, ◌++◌, map, map-map, zip_with, append-nil}
use Prim.Native.Nat.{ℕ, ◌+◌, ◌*◌, ◌≤◌, ◌<◌}
use native.Mathlib.Omega.{arith}
use native.Mathlib.Nat.{zero-add, mul-add, add-mul, one-mul, mul-le-mul_left, mul-le-mul_right}
use lib.ListN.{length, get_or, take, length-map}
use lib.Seq.{take-length}
use lib.Ieee.{Float, nan}
use Rattle.lists.specs.Lists.{total, put, part, joined, from}
use Rattle.lists.specs.Ascends.{All}
use Rattle.lists.proofs.All.{all_map, all-at}
use Rattle.lists.proofs.Map.{zip-map, zip_length, zip_first}
use Rattle.lists.proofs.From.{zip-from-at}
use Rattle.lists.proofs.Put.{length-put, put-longer, part-put-in}
use Rattle.lists.proofs.Joined.{joined_at, even-lengths, length-joined}
use Rattle.definition.specs.Cut.{Domain, leaves_of}
use Rattle.definition.specs.Points.{box_width_lem}
use Rattle.definition.specs.Quotas.{quotas}
use Rattle.definition.specs.Sampling.{sent_by, leaf_cover}
use Rattle.definition.specs.Tree.{Leaf, fine_leaf, fine_level_lem, sent_lists}
use Rattle.definition.specs.Packed.{row_floats_lem, row_of, numbers_of, leaf_floats, stretches}
use Rattle.definition.specs.Overlaps.{borrowed_by}
use Rattle.definition.proofs.FineLeaves.{sent-many}
use Rattle.definition_laws.proofs.Shape.{leaves-boxes}
use Rattle.coarse_points.specs.Sent.{sent_covers}
use Rattle.covers.specs.Covered.{covered_box, covered}
use Rattle.covers.proofs.Moved.{covered-length}
use Rattle.fine_level.specs.Fine.{divided_at, leaves_at_lem}
use Rattle.fine_level.proofs.Stages.{level_rows}

-- ---- boxes that stand packed, each with its cover behind it
module _ (d : ℕ) (bs : List (List Float)) (even : All (λ (b : List Float). length b ≡ box_width_lem d) bs) where
  abbrev w : ℕ
  w = box_width_lem d

  boxes-length : length (joined bs) ≡ w * length bs
  boxes-length =
      length-joined bs ∙ ap (λ (x : List (List Float)). total (map length x)) (sym (take-length bs)) ∙ even-lengths w bs even (length bs) (omega arith)

  box-at : (i : ℕ) → i < length bs → part (joined bs) (w * i) w ≡ get_or bs i []
  box-at i h =
      ap₂ (λ (x : List Float) (k : ℕ). part x k w) (sym (append-nil (joined bs))) (sym (even-lengths w bs even i (omega arith)))
      ∙ ap (part (joined bs ++ []) (total (map length (take i bs)))) (sym (all-at (λ (b : List Float). length b ≡ w) bs i [] even h))
      ∙ joined_at bs [] i h

  covered-are : (B : List Float) (s : ℕ) → s ≤ length B → (cv : List Float) → length cv ≡ length bs
      → covered d (put B s (joined bs)) s cv ≡ joined (zip_with (λ b c. b ++ c ∷ []) bs cv)
  unfolding covered
  covered-are B s fits cv many =
      let B₁ = put B s (joined bs) in
      ap (λ (k : ℕ). joined (map (covered_box d B₁ s cv) (from 0 k))) many
      ∙ ap joined (zip-from-at (covered_box d B₁ s cv) (λ b c. b ++ c ∷ []) [] nan bs cv 0 many (λ i h. ap (covered_box d B₁ s cv) (zero-add i) ∙ one i h))
    where
      one : (i : ℕ) → i < length bs → covered_box d (put B s (joined bs)) s cv i ≡ get_or bs i [] ++ get_or cv i nan ∷ []
      one i h =
          ap (λ (x : List Float). x ++ get_or cv i nan ∷ [])
          (part-put-in B s (joined bs) (w * i) w fits (omega (arith, boxes-length, mul-add w i 1, mul-le-mul_left w h)) ∙ box-at i h)

module _ (d : ℕ) (cs : List Float) (leaf neighbours size : ℕ) (active : List ℕ) where
  abbrev qs : List Domain
  qs = leaves_of d cs leaf active

  abbrev sent : List (List ℕ)
  sent = sent_lists d cs qs size

  abbrev to_leaf : Domain → List ℕ → Leaf
  to_leaf = fine_leaf d cs neighbours active

  many : length sent ≡ length qs
  many = sent-many d cs qs size

  -- ---- what does not look at the rows sent up
  alike : {A : Type 0} (g : Leaf → A) → ((q : Domain) (up : List ℕ) → g (to_leaf q up) ≡ g (to_leaf q []))
      → map g (leaves_at_lem d cs leaf neighbours size active) ≡ map g (divided_at d cs leaf neighbours active)
  unfolding fine_level_lem
  alike g e = zip_first to_leaf g (λ q. g (to_leaf q [])) e qs sent many ∙ sym (map-map g (λ q. to_leaf q []) qs)

  pub sent-own : map (λ f. f.own) (leaves_at_lem d cs leaf neighbours size active) ≡ map (λ f. f.own) (divided_at d cs leaf neighbours active)
  sent-own = alike (λ f. f.own) (λ q up. refl)

  pub sent-borrowed : map (λ f. f.borrowed) (leaves_at_lem d cs leaf neighbours size active) ≡ map (λ f. f.borrowed) (divided_at d cs leaf neighbours active)
  sent-borrowed = alike (λ f. f.borrowed) (λ q up. refl)

  pub sent-number : length (leaves_at_lem d cs leaf neighbours size active) ≡ length (divided_at d cs leaf neighbours active)
  unfolding fine_level_lem
  sent-number = zip_length to_leaf qs sent many ∙ sym (length-map qs (λ q. to_leaf q []))

  stretched : (a b : ℕ) (qs : List Domain) (ups : List (List ℕ)) → length ups ≡ length qs
      → stretches a b (zip_with to_leaf qs ups) ≡ stretches a b (map (λ q. to_leaf q []) qs)
  unfolding stretches zip_with
  stretched a b [] ups e = refl
  stretched a b (q ∷ qs) [] e = absurd (omega arith)
  stretched a b (q ∷ qs) (up ∷ ups) e =
      ap (λ (x : List ℕ). numbers_of (row_of a b (to_leaf q [])) ++ x)
      (stretched (a + length q.rows) (b + length (borrowed_by d cs neighbours active q.rows)) qs ups (omega arith))

  pub sent-stretches : (a b : ℕ) → stretches a b (leaves_at_lem d cs leaf neighbours size active) ≡ stretches a b (divided_at d cs leaf neighbours active)
  unfolding fine_level_lem
  sent-stretches a b = stretched a b qs sent many

  -- ---- the floats of the domain rows
  floats-zip : (qs : List Domain) (ups : List (List ℕ))
      → zip_with (λ b c. b ++ c ∷ []) (map (λ q. q.box) qs) (zip_with (leaf_cover d cs) (level_rows qs) ups) ≡ map leaf_floats (zip_with to_leaf qs ups)
  unfolding zip_with
  floats-zip [] ups = refl
  floats-zip (q ∷ qs) [] = refl
  floats-zip (q ∷ qs) (up ∷ ups) = rw (floats-zip qs ups)

  covers_are : sent_covers d cs (level_rows qs) size ≡ zip_with (leaf_cover d cs) (level_rows qs) sent
  unfolding sent_covers sent_lists
  covers_are =
      rw (map-map length (λ (q : Domain). q.rows) qs, ← zip-map (sent_by d cs) (λ (q : Domain). q.rows) qs (quotas (map (λ (q : Domain). length q.rows) qs) size))

  covers-many : length (sent_covers d cs (level_rows qs) size) ≡ length qs
  covers-many =
      let n : length (level_rows qs) ≡ length qs = length-map qs (λ q. q.rows) in
      ap length covers_are ∙ zip_length (leaf_cover d cs) (level_rows qs) sent (many ∙ sym n) ∙ n

  -- THE LAW: the boxes are packed, and each is put to its row with its cover behind it
  pub floats-are : (B B₁ B₂ : List Float) (s : ℕ) (cv : List Float) → s + row_floats_lem d * length (leaves_of d cs leaf active) ≤ length B
      → B₁ ≡ put B s (joined (map (λ f. f.box) (divided_at d cs leaf neighbours active)))
      → cv ≡ sent_covers d cs (level_rows (leaves_of d cs leaf active)) size
      → B₂ ≡ put B₁ s (covered d B₁ s cv) → B₂ ≡ put B s (joined (map leaf_floats (leaves_at_lem d cs leaf neighbours size active)))
  unfolding fine_level_lem
  floats-are B B₁ B₂ s cv fits e₁ ec e₂ =
      let bs : List (List Float) = map (λ q. q.box) qs in
      let even : All (λ (b : List Float). length b ≡ box_width_lem d) bs = all_map (λ (b : List Float). length b ≡ box_width_lem d) (λ q. q.box) qs (leaves-boxes d cs leaf active) in
      let boxes : B₁ ≡ put B s (joined bs) = e₁ ∙ ap (λ (x : List (List Float)). put B s (joined x)) (map-map (λ (f : Leaf). f.box) (λ q. to_leaf q []) qs) in
      let n : length cv ≡ length bs = ap length ec ∙ covers-many ∙ sym (length-map qs (λ q. q.box)) in
      let rows : covered d B₁ s cv ≡ joined (map leaf_floats (zip_with to_leaf qs sent)) =
      ap (λ (x : List Float). covered d x s cv) boxes ∙ covered-are d bs even B s (omega arith) cv n
      ∙ ap joined (ap (zip_with (λ b c. b ++ c ∷ []) bs) (ec ∙ covers_are) ∙ floats-zip qs sent) in
      let few : box_width_lem d * length qs ≤ row_floats_lem d * length qs = mul-le-mul_right (length qs) (wider (box_width_lem d)) in
      let wide : length (joined bs) ≡ box_width_lem d * length qs = boxes-length d bs even ∙ ap (λ (k : ℕ). box_width_lem d * k) (length-map qs (λ (q : Domain). q.box)) in
      let m : row_floats_lem d * length cv ≡ row_floats_lem d * length qs = ap (λ (k : ℕ). row_floats_lem d * k) (n ∙ length-map qs (λ (q : Domain). q.box)) in
      let same : length B₁ ≡ length B = ap length boxes ∙ length-put B s (joined bs) (omega arith) in
      let long : length (joined (map leaf_floats (zip_with to_leaf qs sent))) ≡ row_floats_lem d * length qs =
      ap length (sym rows) ∙ covered-length d B₁ s cv (omega arith) ∙ m in
      e₂ ∙ ap₂ (λ (x y : List Float). put x s y) boxes rows ∙ put-longer B s (joined bs) (joined (map leaf_floats (zip_with to_leaf qs sent))) (omega arith) (omega arith)
    where
      wider : (k : ℕ) → k ≤ k + 1
      wider k = omega arith

-- ---- the boxes as the engine leaves them: packed behind as many boxes as there are rows before, and a float for the cover of each of those
module _ (d : ℕ) (cs : List Float) (leaf neighbours : ℕ) (active : List ℕ) (B : List Float) (first : ℕ) where
  -- a row's floats are a box's and one more
  row_is : (k : ℕ) → row_floats_lem d * k ≡ box_width_lem d * k + k
  row_is k = add-mul (box_width_lem d) 1 k ∙ ap (λ (z : ℕ). box_width_lem d * k + z) (one-mul k)

  pub lent_fits : row_floats_lem d * (first + 2 * length active) ≤ length B → first + box_width_lem d * (first + 2 * length active) ≤ length B
  lent_fits fits = omega (arith, fits, row_is (first + 2 * length active))

  pub boxes-packed : put B (first + box_width_lem d * first) (joined (map (λ q. q.box) (leaves_of d cs leaf active)))
      ≡ put B (row_floats_lem d * first) (joined (map (λ f. f.box) (divided_at d cs leaf neighbours active)))
  boxes-packed =
      let at : first + box_width_lem d * first ≡ row_floats_lem d * first = omega (arith, row_is first) in
      ap₂ (λ (k : ℕ) (x : List (List Float)). put B k (joined x)) at (sym (map-map (λ (f : Leaf). f.box) (λ q. fine_leaf d cs neighbours active q []) (leaves_of d cs leaf active)))
