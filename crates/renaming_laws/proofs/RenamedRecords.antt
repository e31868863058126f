-- The record of the cuts of renamed rows is that of the rows: a node holds an axis and a plane, or a leaf's number, and no row.
-- Assumes nothing.
-- Holds: renamed_under, leaves-under-kept, nodes-kept, cuts-kept, level-cuts-kept, record-kept, fine-levels-renamed,
--   nodes-in-kept, levels-in, record-renamed, cuts-renamed, planes-renamed, record-over
use mathlib.Core.Path.{◌≡◌, refl, sym, ap, ap₂, ◌∙◌}
use mathlib.Core.Bool.{Bool, true, false, cond}
use mathlib.Core.List.{List, [], ◌∷◌, ◌++◌, map, map-map, map-append}
use Prim.Native.Nat.{ℕ, zero, suc, ◌+◌, ◌*◌, ◌<◌}
use lib.ListN.{length, length-map}
use lib.Dec.{leb}
use lib.Ieee.{Float}
use Rattle.lists.specs.Lists.{joined}
use Rattle.lists.specs.Ascends.{All}
use Rattle.lists.specs.Times.{Once}
use Rattle.lists.proofs.All.{all-mem, all-of}
use Rattle.lists.proofs.Map.{map_same}
use Rattle.lists.proofs.Members.{mem-member}
use Rattle.definition.specs.Levels.{threshold, reductions}
use Rattle.definition.specs.Cut.{Domain, root_domain, longest_axis_lem, plane, left_of, right_of}
use Rattle.definition.specs.Tree.{Settings, Level, coarse_level_lem, fine_level_lem, most_fine, levels_over}
use Rattle.definition.specs.Record.{Cuts, uncut, cut_at, cuts_of, level_cuts, leaves_under, depths_of, leaf_number, Node, whole_of, float_of, cut_node, nodes_from, record_of, fine_levels, nodes_in, packed_cuts, packed_planes}
use Rattle.definition.proofs.Levels.{next-times, levels-all}
use Rattle.renaming_laws.specs.Renaming.{Renames, renamed_level}
use Rattle.renaming_laws.proofs.RenamedKeys.{In}
use Rattle.renaming_laws.proofs.RenamedPoints.{part_in, extents-kept, axis-kept}
use Rattle.renaming_laws.proofs.RenamedCuts.{renamed_domain, plane-kept, left-kept, right_kept, left_in, right-in}
use Rattle.renaming_laws.proofs.Renaming.{levels-renamed}

-- cuts whose rows are renamed
unfoldable pub renamed_under : (ℕ → ℕ) → Cuts → Cuts
renamed_under f (uncut q) = uncut (renamed_domain f q)
renamed_under f (cut_at a p l r) = cut_at a p (renamed_under f l) (renamed_under f r)

-- ---- their leaves, and their nodes
module _ (f : ℕ → ℕ) where
  pub leaves-under-kept : (t : Cuts) → leaves_under (renamed_under f t) ≡ map (renamed_domain f) (leaves_under t)
  unfolding leaves_under renamed_under
  leaves-under-kept (uncut q) = refl
  leaves-under-kept (cut_at a p l r) =
      ap₂ (λ (x y : List Domain). x ++ y) (leaves-under-kept l) (leaves-under-kept r) ∙ sym (map-append (renamed_domain f) (leaves_under l) (leaves_under r))

  depths-kept : (t : Cuts) → depths_of (leaves_under (renamed_under f t)) ≡ depths_of (leaves_under t)
  depths-kept t = ap depths_of (leaves-under-kept t) ∙ map-map (λ (q : Domain). q.depth) (renamed_domain f) (leaves_under t)

  many-kept : (t : Cuts) → length (leaves_under (renamed_under f t)) ≡ length (leaves_under t)
  many-kept t = ap length (leaves-under-kept t) ∙ length-map (leaves_under t) (renamed_domain f)

  pub nodes-kept : (number : ℕ → ℕ) (k : ℕ) (t : Cuts) → nodes_from number k (renamed_under f t) ≡ nodes_from number k t
  unfolding nodes_from renamed_under
  nodes-kept number k (uncut q) = refl
  nodes-kept number k (cut_at a p l r) =
      ap₂ (λ (x y : List Node). cut_node a p ∷ x ++ y) (nodes-kept number k l)
      (ap (λ (n : ℕ). nodes_from number (k + n) (renamed_under f r)) (many-kept l) ∙ nodes-kept number (k + length (leaves_under l)) r)

  -- one of two, by the same test
  either-kept : (b : Bool) (x y x' y' : Cuts) → x' ≡ renamed_under f x → y' ≡ renamed_under f y → cond b x' y' ≡ renamed_under f (cond b x y)
  either-kept true x y x' y' e g = e
  either-kept false x y x' y' e g = g

-- ---- the cuts of a domain, and the record of a level
module _ (d : ℕ) (cs cs' : List Float) (all : List ℕ) (f : ℕ → ℕ) (r : Renames d cs cs' all f) (pos : 0 < d) where
  -- a cut, with what is under its halves
  cut-kept : (q : Domain) → All (In all) q.rows → (x y x' y' : Cuts) → x' ≡ renamed_under f x → y' ≡ renamed_under f y
      → cut_at (longest_axis_lem d cs' (map f q.rows)) (plane d cs' (map f q.rows)) x' y' ≡ renamed_under f (cut_at (longest_axis_lem d cs q.rows) (plane d cs q.rows) x y)
  unfolding renamed_under
  cut-kept q h x y x' y' e g =
      ap₂ (λ (a : ℕ) (p : Float). cut_at a p x' y') (axis-kept d cs cs' all f r q.rows h pos) (plane-kept d cs cs' all f r pos q.rows h)
      ∙ ap₂ (λ (u v : Cuts). cut_at (longest_axis_lem d cs q.rows) (plane d cs q.rows) u v) e g

  pub cuts-kept : (leaf fuel : ℕ) (q : Domain) → All (In all) q.rows → cuts_of d cs' leaf fuel (renamed_domain f q) ≡ renamed_under f (cuts_of d cs leaf fuel q)
  unfolding cuts_of renamed_under
  cuts-kept leaf zero q h = refl
  cuts-kept leaf (suc fuel) q h =
      let l = left_of d cs q in
      let m = right_of d cs q in
      let l' = left_of d cs' (renamed_domain f q) in
      let m' = right_of d cs' (renamed_domain f q) in
      let a = longest_axis_lem d cs q.rows in
      let p = plane d cs q.rows in
      let a' = longest_axis_lem d cs' (map f q.rows) in
      let p' = plane d cs' (map f q.rows) in
      let left = left-kept d cs cs' all f r pos q h in
      let right = right_kept d cs cs' all f r pos q h in
      ap (λ (n : ℕ). cond (leb (2 * leaf) n) (cut_at a' p' (cuts_of d cs' leaf fuel l') (cuts_of d cs' leaf fuel m')) (cut_at a' p' (uncut l') (uncut m'))) (length-map q.rows f)
      ∙ either-kept f (leb (2 * leaf) (length q.rows)) (cut_at a p (cuts_of d cs leaf fuel l) (cuts_of d cs leaf fuel m)) (cut_at a p (uncut l) (uncut m))
      (cut_at a' p' (cuts_of d cs' leaf fuel l') (cuts_of d cs' leaf fuel m')) (cut_at a' p' (uncut l') (uncut m'))
      (cut-kept q h (cuts_of d cs leaf fuel l) (cuts_of d cs leaf fuel m) (cuts_of d cs' leaf fuel l') (cuts_of d cs' leaf fuel m')
      (ap (cuts_of d cs' leaf fuel) left ∙ cuts-kept leaf fuel l (left_in d cs cs' all f r pos q h))
      (ap (cuts_of d cs' leaf fuel) right ∙ cuts-kept leaf fuel m (right-in d cs cs' all f r pos q h)))
      (cut-kept q h (uncut l) (uncut m) (uncut l') (uncut m') (ap uncut left) (ap uncut right))

  module _ (leaf : ℕ) (active : List ℕ) (h : All (In all) active) where
    pub level-cuts-kept : level_cuts d cs' leaf (map f active) ≡ renamed_under f (level_cuts d cs leaf active)
    unfolding level_cuts root_domain
    level-cuts-kept =
        ap₂ (λ (n : ℕ) (box : List Float). cuts_of d cs' leaf n (record { rows = map f active; box = box; depth = 0 })) (length-map active f) (extents-kept d cs cs' all f r active h)
        ∙ cuts-kept leaf (length active) (root_domain d cs active) h

    -- THE LAW of a level
    pub record-kept : record_of d cs' leaf (map f active) ≡ record_of d cs leaf active
    unfolding record_of
    record-kept =
        let t = level_cuts d cs leaf active in
        ap (λ (u : Cuts). nodes_from (leaf_number (depths_of (leaves_under u))) 0 u) level-cuts-kept
        ∙ ap (λ (es : List ℕ). nodes_from (leaf_number es) 0 (renamed_under f t)) (depths-kept f t)
        ∙ nodes-kept f (leaf_number (depths_of (leaves_under t))) 0 t

-- ---- the record of a tree

-- the fine levels of a renamed tree are the renamed fine levels
pub fine-levels-renamed : (f : ℕ → ℕ) (ls : List Level) → fine_levels (map (renamed_level f) ls) ≡ map (renamed_level f) (fine_levels ls)
unfolding fine_levels
fine-levels-renamed f [] = refl
fine-levels-renamed f (l ∷ []) = refl
fine-levels-renamed f (l ∷ m ∷ ls) = ap (λ (rest : List Level). renamed_level f l ∷ rest) (fine-levels-renamed f (m ∷ ls))

fine-all : (P : Level → Type 0) (ls : List Level) → All P ls → All P (fine_levels ls)
unfolding fine_levels All
fine-all P [] h = tt
fine-all P (l ∷ []) h = tt
fine-all P (l ∷ m ∷ ls) h = (h.0, fine-all P (m ∷ ls) h.1)

module _ (s : Settings) (cs cs' : List Float) (all : List ℕ) (f : ℕ → ℕ) (r : Renames s.dimension cs cs' all f) (pos : 0 < s.dimension) where
  abbrev Inside : Level → Type 0
  Inside l = All (In all) l.points

  -- levels of rows that are renamed
  pub nodes-in-kept : (ls : List Level) → All (λ (l : Level). All (In all) l.points) ls → nodes_in s cs' (map (renamed_level f) ls) ≡ nodes_in s cs ls
  unfolding nodes_in
  nodes-in-kept ls h =
      let part : Level → List Node = λ l. record_of s.dimension cs' s.leaf l.points in
      ap (λ (us : List Level). joined (map part us)) (fine-levels-renamed f ls)
      ∙ ap joined
      (map-map part (renamed_level f) (fine_levels ls)
      ∙ map_same (λ (l : Level). record_of s.dimension cs' s.leaf (map f l.points)) (λ l. record_of s.dimension cs s.leaf l.points) (fine_levels ls)
      (λ l m. record-kept s.dimension cs cs' all f r pos s.leaf l.points (all-mem Inside (fine_levels ls) (fine-all Inside ls h) l m)))

  -- the levels over such rows are
  pub levels-in : (active : List ℕ) → All (In all) active → All (λ (l : Level). All (In all) l.points) (levels_over s cs active)
  unfolding levels_over fine_level_lem coarse_level_lem
  levels-in active h =
      let c = threshold s.policy (length active) in
      levels-all s cs c (reductions (length active) c s.factor) (All (In all)) (λ rows sent g. part_in all rows _ g (next-times rows sent)) Inside (λ size rows g m. g) (λ rows g. g)
      most_fine 0 active h

-- THE LAW
module _ (s : Settings) (cs cs' : List Float) (rows : List ℕ) (f : ℕ → ℕ) (pos : 0 < s.dimension) (r : Renames s.dimension cs cs' rows f) where
  pub record-renamed : nodes_in s cs' (map (renamed_level f) (levels_over s cs rows)) ≡ nodes_in s cs (levels_over s cs rows)
  record-renamed =
      nodes-in-kept s cs cs' rows f r pos (levels_over s cs rows) (levels-in s cs cs' rows f r pos rows (all-of (In rows) rows (λ i m. mem-member rows i m)))

  -- as lent: the whole numbers and the planes
  pub cuts-renamed : packed_cuts s cs' (map (renamed_level f) (levels_over s cs rows)) ≡ packed_cuts s cs (levels_over s cs rows)
  unfolding packed_cuts
  cuts-renamed = ap (map whole_of) record-renamed

  pub planes-renamed : packed_planes s cs' (map (renamed_level f) (levels_over s cs rows)) ≡ packed_planes s cs (levels_over s cs rows)
  unfolding packed_planes
  planes-renamed = ap (map float_of) record-renamed

  -- the build of the renamed rows themselves
  pub record-over : Once rows → nodes_in s cs' (levels_over s cs' (map f rows)) ≡ nodes_in s cs (levels_over s cs rows)
  record-over once = ap (nodes_in s cs') (levels-renamed s cs cs' rows f pos once r) ∙ record-renamed
