-- The cut record (document 02, request 2): the cuts of a level from the root downwards, the left half completely before the right; its
-- leaves, and their numbers. Definitions only.
use Rattle.std.specs.Prelude.{ℕ, zero, suc, ◌+◌, ◌*◌, cond, List, [], ◌∷◌, ◌++◌, map, length, get_or, take, leb, ltb, eqb, Float}
use Rattle.lists.specs.Lists.{count, joined}
use Rattle.definition.specs.Number.{plus_zero}
use Rattle.definition.specs.Cut.{Domain, root_domain, longest_axis_lem, plane, left_of, right_of}
use Rattle.definition.specs.Tree.{Settings, Level}

-- ---- the cuts of a domain

-- a leaf, or a domain that is cut on an axis at a plane, with the cuts of its two halves
pub data Cuts : Type 0 where
  uncut : Domain → Cuts
  cut_at : ℕ → Float → Cuts → Cuts → Cuts

-- A domain is cut. Where its size is at least 2 times the leaf threshold its halves are cut too; otherwise they are leaves.
-- `fuel` bounds the depth.
unfoldable pub cuts_of : ℕ → List Float → ℕ → ℕ → Domain → Cuts
cuts_of d cs leaf zero q = uncut q
cuts_of d cs leaf (suc fuel) q =
    let l = left_of d cs q in
    let r = right_of d cs q in
    let a = longest_axis_lem d cs q.rows in
    let p = plane d cs q.rows in
    let more = cut_at a p (cuts_of d cs leaf fuel l) (cuts_of d cs leaf fuel r) in
    let done = cut_at a p (uncut l) (uncut r) in
    cond (leb (2 * leaf) (length q.rows)) more done

-- the cuts of a level: it is at most as deep as it has active rows
unfoldable pub level_cuts : ℕ → List Float → ℕ → List ℕ → Cuts
level_cuts d cs leaf active = cuts_of d cs leaf (length active) (root_domain d cs active)

-- ---- leaves

-- the leaves from left to right
unfoldable pub leaves_under : Cuts → List Domain
leaves_under (uncut q) = q ∷ []
leaves_under (cut_at a p l r) = leaves_under l ++ leaves_under r

-- how deep they are, the root's depth being 0
abbrev pub depths_of : List Domain → List ℕ
depths_of qs = map (λ q. q.depth) qs

-- Leaves are numbered by depth, and then from left to right: the number of the k-th leaf from the left, from 0, is how many leaves
-- are less deep, and how many to its left are as deep.
unfoldable pub leaf_number : List ℕ → ℕ → ℕ
leaf_number depths k =
    let e = get_or depths k 0 in
    count (λ x. ltb x e) depths + count (λ x. eqb x e) (take k depths)

-- ---- the record

-- a node: a cut, with its axis and the coordinate of its plane, or a leaf with its number
pub data Node : Type 0 where
  cut_node : ℕ → Float → Node
  leaf_node : ℕ → Node

-- as lent: a whole number (the axis from 0, or 3 plus the leaf's number) and a float (the plane, or +0)
abbrev pub whole_of : Node → ℕ
whole_of (cut_node a p) = a
whole_of (leaf_node k) = 3 + k

abbrev pub float_of : Node → Float
float_of (cut_node a p) = p
float_of (leaf_node k) = plus_zero

-- each cut before its halves; `number` gives the number of the k-th leaf from the left, and k leaves stand to the left
unfoldable pub nodes_from : (ℕ → ℕ) → ℕ → Cuts → List Node
nodes_from number k (uncut q) = leaf_node (number k) ∷ []
nodes_from number k (cut_at a p l r) = cut_node a p ∷ nodes_from number k l ++ nodes_from number (k + length (leaves_under l)) r

-- the record of a level
unfoldable pub record_of : ℕ → List Float → ℕ → List ℕ → List Node
record_of d cs leaf active =
    let t = level_cuts d cs leaf active in
    nodes_from (leaf_number (depths_of (leaves_under t))) 0 t

-- ---- the records of a tree

-- the fine levels: all but the last
unfoldable pub fine_levels : List Level → List Level
fine_levels [] = []
fine_levels (l ∷ []) = []
fine_levels (l ∷ m ∷ ls) = l ∷ fine_levels (m ∷ ls)

-- each fine level has its own record, one after the other
unfoldable pub nodes_in : Settings → List Float → List Level → List Node
nodes_in s cs ls = joined (map (λ l. record_of s.dimension cs s.leaf l.points) (fine_levels ls))

unfoldable pub packed_cuts : Settings → List Float → List Level → List ℕ
packed_cuts s cs ls = map whole_of (nodes_in s cs ls)

unfoldable pub packed_planes : Settings → List Float → List Level → List Float
packed_planes s cs ls = map float_of (nodes_in s cs ls)

-- the entries that each of the two lists that take them is to have for n points
abbrev pub most_nodes : ℕ → ℕ
most_nodes n = 12 * n
