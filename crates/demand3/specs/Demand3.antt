-- Demand 3, as a statement about what a build hands back. A well is a row, and the active rows of a level are those that it lists.
-- Rows are counted in the lists themselves (`times`). Definitions only: proofs/Demand.antt has the theorem.
use Rattle.std.specs.Prelude.{ℕ, suc, ◌+◌, ◌-◌, ◌*◌, ◌≤◌, ◌<◌, ◌≡◌, ◌⊎◌, cond, List, [], map, length, get_or, replicate, leb, Float}
use Rattle.lists.specs.Lists.{keep, member, from, joined}
use Rattle.lists.specs.Times.{times}
use Rattle.definition.specs.Number.{plus_zero}
use Rattle.definition.specs.Points.{box_width_lem}
use Rattle.definition.specs.Levels.{threshold, reductions, level_size_lem}
use Rattle.definition.specs.Quotas.{nonempty, quotas}
use Rattle.definition.specs.Cut.{leaves_of}
use Rattle.definition.specs.Overlaps.{borrowed_by}
use Rattle.definition.specs.Sampling.{sent_by, leaf_cover}
use Rattle.definition.specs.Tree.{Settings, reductions_left, most_fine, point_count}
use Rattle.definition.specs.Outcome.{TreeLists, RecordLists, build_answer, build_lists}
use Rattle.demand3.specs.Handed.{Handed, handed, level_count, rows_on_lem, leaves_on, HasNext, listed, domain_row, own_of, borrowed_of, box_of, cover_in, own_lists, leaf_sizes, leaf_boxes, leaf_depths_lem}

-- ---- the rules that speak of the lists alone

module _ (h : Handed) (l : ℕ) where
  -- own and borrowed rows of a level's leaves
  pub record Rows : Type 0 where
    -- each active row is internal to exactly one leaf, once, and no other row to any
    pub internal_once : (r : ℕ) → 0 < times r (listed h l) → times r (joined (own_lists h l)) ≡ 1
    pub internal_none : (r : ℕ) → times r (listed h l) ≡ 0 → times r (joined (own_lists h l)) ≡ 0
    -- no leaf borrows its own row, or one row twice
    pub borrows_not_own : (i : ℕ) → i < leaves_on h l → (r : ℕ) → 0 < times r (own_of h l i) → times r (borrowed_of h l i) ≡ 0
    pub borrows_once : (i : ℕ) → i < leaves_on h l → (r : ℕ) → times r (borrowed_of h l i) ≤ 1

  -- the next level lists fewer rows, each once and all from this one
  pub record NextRows : Type 0 where
    pub fewer : length (listed h (suc l)) < length (listed h l)
    pub each_once : (r : ℕ) → times r (listed h (suc l)) ≤ 1
    pub from_this : (r : ℕ) → 0 < times r (listed h (suc l)) → 0 < times r (listed h l)

  -- the counts are those of the lists: no stretch is cut short by its list's end
  pub record Counted : Type 0 where
    pub of_level : length (listed h l) ≡ rows_on_lem h l
    pub of_own : (i : ℕ) → i < leaves_on h l → length (own_of h l i) ≡ (domain_row h l i).own_count
    pub of_borrowed : (i : ℕ) → i < leaves_on h l → length (borrowed_of h l i) ≡ (domain_row h l i).borrowed_count

-- a level on d axes with a single domain, which holds all its rows, without overlaps and with +0 for a box
pub record SingleDomain (d : ℕ) (h : Handed) (l : ℕ) : Type 0 where
  pub one_domain : leaves_on h l ≡ 1
  pub holds_all : own_of h l 0 ≡ listed h l
  pub borrows_none : borrowed_of h l 0 ≡ []
  pub no_box : box_of d h l 0 ≡ replicate (box_width_lem d) plus_zero

-- ---- document 01's numbers, for n rows: c, k, and the size S of the level after level l, which has a active rows

abbrev pub coarse_at : Settings → ℕ → ℕ
coarse_at s n = threshold s.policy n

abbrev pub reduction_count : Settings → ℕ → ℕ
reduction_count s n = reductions n (coarse_at s n) s.factor

abbrev pub size_after : Settings → ℕ → ℕ → ℕ → ℕ
size_after s n l a = level_size_lem a (coarse_at s n) (reductions_left (reduction_count s n) l)

-- ---- the share of a leaf

-- an exact fraction
pub record Fraction : Type 0 where
  pub top : ℕ
  pub bottom : ℕ

-- The share of a leaf of w rows, with S rows sent up of a active rows on d nonempty leaves: 1 + (S - d)(w - 1) / (a - d) where S is
-- at least d, and S w / a otherwise. The first is written over one divisor: ((a - d) + (S - d)(w - 1)) / (a - d).
unfoldable pub share_of : ℕ → ℕ → ℕ → ℕ → Fraction
share_of size d a w =
    cond (leb d size)
    (record { top = (a - d) + (size - d) * (w - 1); bottom = a - d })
    (record { top = size * w; bottom = a })

-- w is the whole part of the fraction x: w is at most x, and x is below w + 1. Both sides are multiplied by the divisor, so that
-- only whole numbers are compared.
pub record WholePart (w : ℕ) (x : Fraction) : Type 0 where
  pub divides : 0 < x.bottom
  pub at_most : w * x.bottom ≤ x.top
  pub no_less : x.top < (w + 1) * x.bottom

-- q is one more than the whole part of the fraction x, which isn't whole: the whole part, times the divisor, falls short of x's top
pub record OneMore (q : ℕ) (x : Fraction) : Type 0 where
  pub whole : ℕ
  pub is_part : WholePart whole x
  pub not_whole : whole * x.bottom < x.top
  pub one_more : q ≡ whole + 1

-- ---- a fine level of a build over n rows

module _ (s : Settings) (cs : List Float) (n : ℕ) (h : Handed) (l : ℕ) where
  -- a, S and d of the level
  abbrev pub active : ℕ
  active = length (listed h l)

  abbrev pub size : ℕ
  size = size_after s n l (length (listed h l))

  abbrev pub filled : ℕ
  filled = nonempty (leaf_sizes h l)

  -- the rows that leaf i sends up: those that document 01's sampling takes of its own rows, at document 01's quota
  unfoldable pub sent_of : ℕ → List ℕ
  sent_of i = sent_by s.dimension cs (own_of h l i) (get_or (quotas (leaf_sizes h l) size) i 0)

  -- the rows that the level sends up, leaf by leaf
  unfoldable pub sent_up : List ℕ
  sent_up = joined (map sent_of (from 0 (leaves_on h l)))

  pub record FineLevel : Type 0 where
    -- each active row is internal to exactly one leaf, once, and no other row to any; no leaf borrows its own row, or one row twice
    pub rows : Rows h l
    -- The next level lists exactly the rows sent up, each once (so no row is sent by two leaves), S of them and fewer than before, in
    -- the order that they have here: seeds and ties further down go by it.
    pub next : NextRows h l
    pub next_lists_sent : (r : ℕ) → times r (listed h (suc l)) ≡ times r sent_up
    pub next_order : listed h (suc l) ≡ keep (λ i. member i sent_up) (listed h l)
    pub next_size : length (listed h (suc l)) ≡ size
    -- a nonempty leaf of w rows sends, of its own rows, the whole part of its share, or one more where the share isn't whole, never
    -- above w; an empty leaf sends none
    pub sends_own : (i : ℕ) → i < leaves_on h l → (r : ℕ) → times r (sent_of i) ≤ times r (own_of h l i)
    pub sends_share : (i : ℕ) → i < leaves_on h l → 0 < length (own_of h l i)
        → WholePart (length (sent_of i)) (share_of size filled active (length (own_of h l i)))
        ⊎ OneMore (length (sent_of i)) (share_of size filled active (length (own_of h l i)))
    pub sends_within : (i : ℕ) → i < leaves_on h l → length (sent_of i) ≤ length (own_of h l i)
    pub empty_sends_none : (i : ℕ) → i < leaves_on h l → length (own_of h l i) ≡ 0 → sent_of i ≡ []
    -- what a leaf sends up shows in the lists alone: it is what the next level lists of the leaf's own rows
    pub sent_shows : (i : ℕ) → i < leaves_on h l → (r : ℕ) → 0 < times r (own_of h l i) → times r (sent_of i) ≡ times r (listed h (suc l))
    -- the leaves (own rows, boxes and depths) and the rows borrowed are those of document 01; S and the rows sent up are, by `size` and `sent_of`
    pub leaves_are : own_lists h l ≡ map (λ q. q.rows) (leaves_of s.dimension cs s.leaf (listed h l))
    pub boxes_are : leaf_boxes s.dimension h l ≡ map (λ q. q.box) (leaves_of s.dimension cs s.leaf (listed h l))
    pub depths_are : leaf_depths_lem h l ≡ map (λ q. q.depth) (leaves_of s.dimension cs s.leaf (listed h l))
    pub borrowed_are : (i : ℕ) → i < leaves_on h l → borrowed_of h l i ≡ borrowed_by s.dimension cs s.neighbours (listed h l) (own_of h l i)
    -- a leaf's cover is that of the rows that it sends up, over its own rows
    pub covers_are : (i : ℕ) → i < leaves_on h l → cover_in s.dimension h l i ≡ leaf_cover s.dimension cs (own_of h l i) (sent_of i)

  -- ---- the coarse level: at most c rows, in a single domain, whose cover is +0
  pub record CoarseLevel : Type 0 where
    pub few : length (listed h l) ≤ coarse_at s n
    pub single : SingleDomain s.dimension h l
    pub no_cover : cover_in s.dimension h l 0 ≡ plus_zero

-- ---- the demand, for a build over a first active list

pub record Demand3Over (s : Settings) (cs : List Float) (first : List ℕ) (h : Handed) : Type 0 where
  -- on the first level all rows are active
  pub first_lists_all : listed h 0 ≡ first
  -- every level that has a next one is a fine level
  pub each_fine : (l : ℕ) → HasNext h l → FineLevel s cs (length first) h l
  -- beside that: a level has a next one exactly where its active rows outnumber c
  pub next_outnumbers : (l : ℕ) → HasNext h l → coarse_at s (length first) < rows_on_lem h l
  pub outnumbers_next : (l : ℕ) → coarse_at s (length first) < rows_on_lem h l → HasNext h l
  -- at most three fine levels, and then the coarse one
  pub some_level : 1 ≤ level_count h
  pub few_levels : level_count h ≤ suc most_fine
  pub last_coarse : CoarseLevel s cs (length first) h (level_count h - 1)
  -- the reported counts are those of the lists, and 0 beyond the last level
  pub counted : (l : ℕ) → Counted h l
  pub none_beyond : (l : ℕ) → level_count h ≤ l → (rows_on_lem h l ≡ 0) × (leaves_on h l ≡ 0)

-- over all points: 0, 1, .., n - 1
abbrev pub Demand3 : Settings → List Float → Handed → Type 0
Demand3 s cs h = Demand3Over s cs (from 0 (point_count s.dimension cs)) h

-- ---- what a call of the build hands back, by its contract
abbrev pub handed_back : Settings → List Float → TreeLists → List Float → List ℕ → RecordLists → Handed
handed_back s cs old floats wholes records = handed (build_answer s cs old floats wholes records) (build_lists s cs old floats wholes records)
