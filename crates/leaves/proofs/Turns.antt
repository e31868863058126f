-- The loop over the queue of the definition's domains, each with its place in the record: the rows in one list; room for an ordering, packed
-- leaves and queue in another; the boxes of what waits in a third; and the record. Where it begins, its two turns, and where it ends.
-- Assumes nothing.
-- Holds: placed_box, Run, Known, head_start, head_count, head_depth, head_place, Lent, Front, front, known, lent-good, lent-some,
--   spare-length, lent-room, rows-kept, room-kept, axis-fit, wait, wait-less, next-leaves, next-leaves-less, run_end, run-record,
--   length-extents, width-most, run-first, found_all, KeptLengths, kept_next
use mathlib.Core.Path.{◌≡◌, refl, sym, ap, ◌∙◌}
use Prim.Native.Nat.{ℕ, suc, ◌+◌, ◌-◌, ◌*◌, ◌/◌, ◌^◌, ◌≤◌, ◌<◌}
use native.Mathlib.Nat.{mul-add, mul-one, mul-le-mul_left}
use native.Mathlib.Omega.{arith}
use native.Mathlib.Numerals.{add-one}
use mathlib.Core.List.{List, [], ◌∷◌, ◌++◌, map, map-map}
use lib.ListN.{length, get_or, set, take, drop, length-set, length-append, length-drop, length-map}
use lib.Seq.{length-take-le}
use lib.Ieee.{Float}
use borrow.Rule.Slice.PartMut.{put_mid}
use Rattle.lists.specs.Lists.{put, part, joined}
use Rattle.lists.specs.Found.{AsFoundFrom}
use Rattle.lists.proofs.Put.{put-zero, put_whole, length_part, length-put, part-put-same, part-lent, part-back}
use Rattle.lists.proofs.Found.{found-on, found-put}
use Rattle.lists.proofs.From.{length_from}
use Rattle.definition.specs.Packed.{row_numbers}
use Rattle.definition.specs.Points.{box_width_lem, extents}
use Rattle.definition.specs.Number.{plus_zero}
use Rattle.definition.specs.Record.{whole_of, float_of, record_of}
use Rattle.definition.specs.Cut.{Domain, root_domain, longest_axis_lem, plane, left_of, right_of, leaves_of}
use Rattle.definition.proofs.Cuts.{axis-below}
use Rattle.queue.specs.Rows.{Own, waiting_width, two_halves, two_own, domain_own, with_own}
use Rattle.queue.specs.Nodes.{nodes_under_lem}
use Rattle.queue.proofs.Kind.{leaf_own}
use Rattle.queue.proofs.Loop.{Inv, queued, places, first-places, turn-places, wait-places, cuts_left, inv-first, inv-next, inv-end, inv-wait, inv-done, less-wait, less_done}
use Rattle.queue.proofs.Loop.{turn_inside, turn-good, turn-same, turn-shallow, turn-left, turn-right, turn-full, turn-rows, turn-leaves, turn-room, turn_end, turn-wait, turn-done}
use Rattle.queue.proofs.View.{packed_in, room_in, packed-most, packed-length, room-length, start-at, view-count, view-depth, view-place, spare-room, spare-packed, packed-put, packed-room, room-put, room-packed, first-room}
use Rattle.queue.proofs.Columns.{Boxes, boxes-first, boxes_now, boxes-wait, boxes-done, boxes-end}
use Rattle.rows.specs.Rows.{GoodRows}
use Rattle.halving.specs.Cuts.{halved}
use Rattle.cut.proofs.Halves.{cut-is}
use Rattle.record_laws.proofs.Domains.{leaves_are, leaves-fill}
use Rattle.record_laws.proofs.Placed.{Placed, root_placed, domains_of, placed_halves, placed_leaves, placed-domains, placed_kind}
use Rattle.leaves.proofs.Recorded.{Recorded, NodeRoom, recorded-first, recorded-end, node-room, recorded-wait, recorded-done}

abbrev pub placed_box : Placed → List Float
placed_box x = x.domain.box

-- Where the loop is. It began with the rows `active`, and with the lists O₀, B₀, w₀, floats₀, C₀ and P₀; `done` rows are packed, the domain
-- rows are written up to the k-th, and the record stands from `node` on. What it has not used of the room yet is as found.
pub record Run (d : ℕ) (cs : List Float) (leaf : ℕ) (active O₀ : List ℕ) (B₀ : List Float) (w₀ : List ℕ) (floats₀ : List Float) (C₀ : List ℕ) (P₀ : List Float) (at₀ k₀ node : ℕ)
    (rows w O : List ℕ) (floats B : List Float) (C : List ℕ) (P : List Float) (head tail done k : ℕ) : Type 0 where
  pub pos : 0 < d
  pub few : d ≤ 3
  pub lp : 1 ≤ leaf
  pub some : 1 ≤ length active
  pub good : GoodRows d cs active
  pub same : length rows ≡ length active
  pub qs : List Placed
  pub inv :
      Inv (placed_kind d cs leaf pos lp) (length active) (root_placed d cs active node) (packed_in (length active) w₀) O₀ at₀ k₀
      rows (room_in (length active) w) (packed_in (length active) w) O qs head tail done k
  pub boxes :
      Boxes (placed_kind d cs leaf pos lp) placed_box (box_width_lem d) (put B₀ (box_width_lem d * k₀) (joined (map placed_box (placed_leaves d cs leaf (root_placed d cs active node ∷ []))))) floats B qs head tail k
  pub nodes : Recorded d cs leaf active node k₀ C₀ P₀ qs (room_in (length active) w) head tail k C P
  pub fit-w : 10 * length active ≤ length w
  pub fit-floats : box_width_lem d * (2 * length active) ≤ length floats
  pub fit-B : box_width_lem d * (k₀ + 2 * length active) ≤ length B
  pub begun : 1 ≤ tail
  pub turns : tail + k ≡ 2 * head + 1 + k₀
  pub found-w : AsFoundFrom (2 * length active + waiting_width * tail) w₀ w
  pub found-floats : AsFoundFrom (box_width_lem d * tail) floats₀ floats

-- what is known in a turn: n rows, of which the first stretch has c from s on, at depth e and with its node at p
pub record Known (d : ℕ) (leaf n k₀ : ℕ) (rows w O : List ℕ) (floats B : List Float) (C : List ℕ) (P : List Float) (head tail done k s c e p : ℕ) : Type 0 where
  pub inside : s + c ≤ n
  pub same : length rows ≡ n
  pub full : 1 ≤ c
  pub fit-w : 10 * n ≤ length w
  pub shallow : e < 2 * n
  pub rows_fit : done + c ≤ n
  pub leaves-fit : row_numbers * (k + 2) ≤ length O
  pub number-fits : (k₀ ≤ k) × (k + 2 ≤ k₀ + 2 * n)
  pub nodes_fit : NodeRoom leaf c p C P
  pub room-fit : leaf ≤ c / 2 → waiting_width * tail + 2 * waiting_width ≤ 2 * waiting_width * n
  pub read-fit : box_width_lem d * head + box_width_lem d ≤ box_width_lem d * tail
  pub floats-all : box_width_lem d * tail ≤ length floats
  pub floats_fit : leaf ≤ c / 2 → box_width_lem d * tail + 2 * box_width_lem d ≤ length floats
  pub boxes_fit : box_width_lem d * k + 2 * box_width_lem d ≤ length B

-- the stretch that stands first in the queue
abbrev pub head_start : ℕ → List ℕ → ℕ → ℕ
head_start n w head = get_or w (2 * n + waiting_width * head) 0

abbrev pub head_count : ℕ → List ℕ → ℕ → ℕ
head_count n w head = get_or w (2 * n + waiting_width * head + 1) 0

abbrev pub head_depth : ℕ → List ℕ → ℕ → ℕ
head_depth n w head = get_or w (2 * n + waiting_width * head + 2) 0

abbrev pub head_place : ℕ → List ℕ → ℕ → ℕ
head_place n w head = get_or w (2 * n + waiting_width * head + 3) 0

-- the rows that are lent to the cut: those of the stretch
abbrev pub Lent : List ℕ → ℕ → ℕ → List ℕ
Lent rows s c = take (s + c - s) (drop s rows)

-- products of the width
wider : (w a b : ℕ) → a + 1 ≤ b → w * a + w ≤ w * b
wider w a b h = let e = mul-le-mul_left w h in let f = mul-add w a 1 in let g = mul-one w in omega arith

wider2 : (w a b : ℕ) → a + 2 ≤ b → w * a + 2 * w ≤ w * b
wider2 w a b h = let e = mul-le-mul_left w h in let f = mul-add w a 2 in omega arith

-- the boxes of the halves: the domain's box with one bound changed
box-left : (d : ℕ) (cs : List Float) (q : Domain) → (left_of d cs q).box ≡ set q.box (d + longest_axis_lem d cs q.rows) (plane d cs q.rows)
unfolding left_of
box-left d cs q = refl

box-right : (d : ℕ) (cs : List Float) (q : Domain) → (right_of d cs q).box ≡ set q.box (longest_axis_lem d cs q.rows) (plane d cs q.rows)
unfolding right_of
box-right d cs q = refl

-- the same where `first` stands first, and its stretch was read as s, c, e and p
pub record Front (d : ℕ) (cs : List Float) (leaf : ℕ) (active O₀ : List ℕ) (B₀ : List Float) (w₀ : List ℕ) (floats₀ : List Float) (C₀ : List ℕ) (P₀ : List Float) (at₀ k₀ node : ℕ)
    (rows w O : List ℕ) (floats B : List Float) (C : List ℕ) (P : List Float) (head tail done k s c e p : ℕ) : Type 0 where
  pub run : Run d cs leaf active O₀ B₀ w₀ floats₀ C₀ P₀ at₀ k₀ node rows w O floats B C P head tail done k
  pub more : head < tail
  pub first : Placed
  pub rest : List Placed
  pub inv :
      Inv (placed_kind d cs leaf run.pos run.lp) (length active) (root_placed d cs active node) (packed_in (length active) w₀) O₀ at₀ k₀
      rows (room_in (length active) w) (packed_in (length active) w) O (first ∷ rest) head tail done k
  pub boxes :
      Boxes (placed_kind d cs leaf run.pos run.lp) placed_box (box_width_lem d) (put B₀ (box_width_lem d * k₀) (joined (map placed_box (placed_leaves d cs leaf (root_placed d cs active node ∷ []))))) floats B (first ∷ rest) head tail k
  pub nodes : Recorded d cs leaf active node k₀ C₀ P₀ (first ∷ rest) (room_in (length active) w) head tail k C P
  pub read : (s ≡ head_start (length active) w head) × (c ≡ head_count (length active) w head) × (e ≡ head_depth (length active) w head) × (p ≡ head_place (length active) w head)

module _ {d : ℕ} {cs : List Float} {leaf : ℕ} {active O₀ : List ℕ} {B₀ : List Float} {w₀ : List ℕ} {floats₀ : List Float} {C₀ : List ℕ} {P₀ : List Float} {at₀ k₀ node : ℕ}
    {rows w O : List ℕ} {floats B : List Float} {C : List ℕ} {P : List Float} {head tail done k : ℕ} where
  -- as long as the loop goes on, a domain waits
  pub front : {s c e p : ℕ} → Run d cs leaf active O₀ B₀ w₀ floats₀ C₀ P₀ at₀ k₀ node rows w O floats B C P head tail done k → head < tail
      → (s ≡ head_start (length active) w head) × (c ≡ head_count (length active) w head) × (e ≡ head_depth (length active) w head) × (p ≡ head_place (length active) w head)
      → Front d cs leaf active O₀ B₀ w₀ floats₀ C₀ P₀ at₀ k₀ node rows w O floats B C P head tail done k s c e p
  front {s} {c} {e} {p} x h read = go x.qs x.inv x.boxes x.nodes
    where
      go : (qs : List Placed)
          → Inv (placed_kind d cs leaf x.pos x.lp) (length active) (root_placed d cs active node) (packed_in (length active) w₀) O₀ at₀ k₀
          rows (room_in (length active) w) (packed_in (length active) w) O qs head tail done k
          → Boxes (placed_kind d cs leaf x.pos x.lp) placed_box (box_width_lem d) (put B₀ (box_width_lem d * k₀) (joined (map placed_box (placed_leaves d cs leaf (root_placed d cs active node ∷ []))))) floats B qs head tail k
          → Recorded d cs leaf active node k₀ C₀ P₀ qs (room_in (length active) w) head tail k C P
          → Front d cs leaf active O₀ B₀ w₀ floats₀ C₀ P₀ at₀ k₀ node rows w O floats B C P head tail done k s c e p
      go [] inv b r = absurd (inv-next inv h)
      go (q ∷ qs) inv b r = record { run = x; more = h; first = q; rest = qs; inv = inv; boxes = b; nodes = r; read = read }

  -- ---- a turn
  module _ {s c e p : ℕ} (x : Front d cs leaf active O₀ B₀ w₀ floats₀ C₀ P₀ at₀ k₀ node rows w O floats B C P head tail done k s c e p) where
    abbrev n : ℕ
    n = length active

    abbrev q : Domain
    q = x.first.domain

    ten : 10 * n ≤ length w
    ten = x.run.fit-w

    e-s : get_or (room_in n w) (waiting_width * head) 0 ≡ s
    e-s = start-at n w ten head (omega (arith, x.more, x.inv.fits)) ∙ sym x.read.0

    e-c : get_or (room_in n w) (waiting_width * head + 1) 0 ≡ c
    e-c = view-count n w ten head (omega (arith, x.more, x.inv.fits)) ∙ sym x.read.1

    e-e : get_or (room_in n w) (waiting_width * head + 2) 0 ≡ e
    e-e = view-depth n w ten head (omega (arith, x.more, x.inv.fits)) ∙ sym x.read.2

    e-p : get_or (room_in n w) (waiting_width * head + 3) 0 ≡ p
    e-p = view-place n w ten head (omega (arith, x.more, x.inv.fits)) ∙ sym x.read.3

    inside : s + c ≤ n
    inside = omega (arith, turn_inside x.inv x.more e-s e-c e-e e-p, x.run.same)

    lent-q : Lent rows s c ≡ q.rows
    lent-q = part-lent rows s c ∙ turn-same x.inv x.more e-s e-c e-e e-p

    box-q : part floats (box_width_lem d * head) (box_width_lem d) ≡ q.box
    box-q = boxes_now x.more x.boxes

    floats-all : box_width_lem d * tail ≤ length floats
    floats-all = let e : box_width_lem d * tail ≤ box_width_lem d * (2 * n) = mul-le-mul_left (box_width_lem d) (omega (arith, x.inv.fits)) in omega (arith, x.run.fit-floats)

    good-q : GoodRows d cs q.rows
    good-q = turn-good x.inv x.more e-s e-c e-e e-p

    size-q : length q.rows ≡ c
    size-q = sym (ap length (turn-same x.inv x.more e-s e-c e-e e-p)) ∙ length_part rows s c (omega (arith, inside, x.run.same))

    some-q : 1 ≤ length q.rows
    some-q = omega (arith, size-q, turn-full x.inv x.more e-s e-c e-e e-p)

    places-q : places (queued (room_in n w) head tail) ≡ p ∷ places (queued (room_in n w) (head + 1) tail)
    places-q = turn-places x.inv x.more e-s e-c e-e e-p

    pub known : Known d leaf n k₀ rows w O floats B C P head tail done k s c e p
    known =
        record {
          inside = inside;
          same = x.run.same;
          full = turn-full x.inv x.more e-s e-c e-e e-p;
          fit-w = ten;
          shallow = omega (arith, turn-shallow x.inv x.more e-s e-c e-e e-p, x.more, x.inv.fits);
          rows_fit = omega (arith, turn-rows x.inv x.more e-s e-c e-e e-p, packed-length n w ten);
          leaves-fit = turn-leaves x.inv x.more e-s e-c e-e e-p;
          number-fits = (x.inv.up, turn_end x.inv x.more e-s e-c e-e e-p);
          nodes_fit = node-room x.run.pos x.run.lp x.nodes good-q some-q size-q places-q;
          room-fit = λ g. omega (arith, turn-room x.inv x.more e-s e-c e-e e-p g);
          read-fit = wider (box_width_lem d) head tail (omega (arith, x.more));
          floats-all = floats-all;
          floats_fit = λ g. omega (arith, x.run.fit-floats, wider2 (box_width_lem d) tail (2 * n) (omega (arith, turn-room x.inv x.more e-s e-c e-e e-p g)));
          boxes_fit = omega (arith, x.run.fit-B, wider2 (box_width_lem d) k (k₀ + 2 * n) (turn_end x.inv x.more e-s e-c e-e e-p));
        }

    -- the rows that are lent to the cut, and its room
    pub lent-good : GoodRows d cs (Lent rows s c)
    lent-good = rw lent-q (turn-good x.inv x.more e-s e-c e-e e-p)

    lent_length : length (Lent rows s c) ≡ c
    lent_length = ap length (part-lent rows s c) ∙ length_part rows s c (omega (arith, inside, x.run.same))

    pub lent-some : 1 ≤ length (Lent rows s c)
    lent-some = omega (arith, lent_length, turn-full x.inv x.more e-s e-c e-e e-p)

    pub spare-length : length (take c w) ≡ c
    spare-length = length-take-le c w (omega (arith, inside, ten))

    pub lent-room : length (take c w) ≡ length (Lent rows s c)
    lent-room = spare-length ∙ sym lent_length

    -- the lists that were lent in part keep their lengths
    pub rows-kept : (ys : List ℕ) → length ys ≡ length (Lent rows s c) → length (put_mid s (s + c - s) rows ys) ≡ length rows
    rows-kept ys e =
        let m = e ∙ lent_length in
        ap length (part-back rows s c ys m) ∙ length-put rows s ys (omega (arith, inside, x.run.same))

    pub room-kept : (zs : List ℕ) → length zs ≡ length (take c w) → length (zs ++ drop c w) ≡ length w
    room-kept zs e = simp (length-append, length-drop) (omega (arith, spare-length, inside, ten))

    pub axis-fit : (y : ℕ) → y ≡ longest_axis_lem d cs (Lent rows s c) → y < d
    axis-fit y e = rw e (axis-below d cs (Lent rows s c) x.run.pos)

    -- the boxes of the halves
    abbrev l-box : List Float
    l-box = (left_of d cs q).box

    abbrev r-box : List Float
    r-box = (right_of d cs q).box

    wide : length q.box ≡ box_width_lem d
    wide =
        let u = known in
        sym (ap length box-q) ∙ length_part floats (box_width_lem d * head) (box_width_lem d) (omega (arith, u.read-fit, floats-all))

    l-wide : length l-box ≡ box_width_lem d
    l-wide = rw (box-left d cs q) (length-set q.box (d + longest_axis_lem d cs q.rows) (plane d cs q.rows) ∙ wide)

    r-wide : length r-box ≡ box_width_lem d
    r-wide = rw (box-right d cs q) (length-set q.box (longest_axis_lem d cs q.rows) (plane d cs q.rows) ∙ wide)

    both-wide : length (l-box ++ r-box) ≡ 2 * box_width_lem d
    both-wide = length-append l-box r-box ∙ omega (arith, l-wide, r-wide)

    -- What the cut and the loads bring: the lent rows as ys and the lent room as zs; axis and plane; and the floats and the dimension of
    -- the domain's box. Where both lists are again whole, they are rows₁ and w₁.
    module _ (ys zs : List ℕ) (ey : ys ≡ halved d cs (longest_axis_lem d cs (Lent rows s c)) (Lent rows s c)) (ez : length zs ≡ length (take c w))
        (y : ℕ) (v : Float) (b : List Float) (bd : ℕ)
        (ea : y ≡ longest_axis_lem d cs (Lent rows s c)) (ev : v ≡ plane d cs (Lent rows s c)) (eb : b ≡ part floats (box_width_lem d * head) (box_width_lem d)) (ed : bd ≡ d) where
      abbrev both : List ℕ
      both = (left_of d cs q).rows ++ (right_of d cs q).rows

      abbrev rows₁ : List ℕ
      rows₁ = put_mid s (s + c - s) rows ys

      abbrev w₁ : List ℕ
      w₁ = zs ++ drop c w

      both-boxes : set b (bd + y) v ++ set b y v ≡ l-box ++ r-box
      both-boxes = rw (eb, ed, ea, ev, lent-q, box-q, box-left d cs q, box-right d cs q)

      both-length : length both ≡ c
      both-length =
          length-append (left_of d cs q).rows (right_of d cs q).rows
          ∙ omega (arith, turn-left x.inv x.more e-s e-c e-e e-p, turn-right x.inv x.more e-s e-c e-e e-p)

      ys-is : ys ≡ both
      ys-is = ey ∙ cut-is d cs q (Lent rows s c) lent-q

      rows_cut : rows₁ ≡ put rows s both
      rows_cut = part-back rows s c ys (ap length ys-is ∙ both-length) ∙ ap (put rows s) ys-is

      rows_same : length rows₁ ≡ length active
      rows_same = ap length rows_cut ∙ length-put rows s both (omega (arith, both-length, inside, x.run.same)) ∙ x.run.same

      -- the room's front holds something else
      zs-length : length zs ≡ c
      zs-length = ez ∙ spare-length

      spent : w₁ ≡ put w 0 zs
      spent = sym (rw zs-length at (put-zero w zs))

      same_w : length w₁ ≡ length w
      same_w = room-kept zs ez

      ten₁ : 10 * n ≤ length w₁
      ten₁ = omega (arith, same_w, ten)

      room₁ : room_in n w₁ ≡ room_in n w
      room₁ = rw spent (spare-room n w ten zs (omega (arith, zs-length, inside)))

      packed₁ : packed_in n w₁ ≡ packed_in n w
      packed₁ = rw spent (spare-packed n w ten zs (omega (arith, zs-length, inside)))

      found₁ : AsFoundFrom (2 * n + waiting_width * tail) w₀ w₁
      found₁ = rw spent (found-put (2 * n + waiting_width * tail) w₀ w 0 zs x.run.found-w (omega arith) (omega (arith, zs-length, inside)))

      axis-q : longest_axis_lem d cs (Lent rows s c) ≡ longest_axis_lem d cs q.rows
      axis-q = ap (longest_axis_lem d cs) lent-q

      plane-q : plane d cs (Lent rows s c) ≡ plane d cs q.rows
      plane-q = ap (plane d cs) lent-q

      -- the halves wait: w₂ is the room after they joined the queue, and floats₁ the boxes of what waits
      module _ (g : leaf ≤ c / 2) (below : ℕ) (w₂ : List ℕ) (joined-w : w₂ ≡ put w₁ (2 * n + waiting_width * tail) (two_halves s c (e + 1) p below)) where
        f : w₂ ≡ put w₁ (2 * n + waiting_width * tail) (two_halves s c (suc e) p below)
        f = rw (← add-one e) joined-w

        joins : waiting_width * tail + 2 * waiting_width ≤ 2 * waiting_width * n
        joins = known.room-fit g

        room₂ : room_in n w₂ ≡ put (room_in n w) (waiting_width * tail) (two_halves s c (suc e) p below)
        room₂ = rw f (room-put n w₁ ten₁ (waiting_width * tail) (two_halves s c (suc e) p below) joins ∙ rw room₁)

        packed₂ : packed_in n w₂ ≡ packed_in n w
        packed₂ = rw f (room-packed n w₁ ten₁ (waiting_width * tail) (two_halves s c (suc e) p below) joins ∙ packed₁)

        pub wait : (floats₁ : List Float) → floats₁ ≡ put floats (box_width_lem d * tail) (set b (bd + y) v ++ set b y v)
            → below ≡ nodes_under_lem (c / 2) leaf → (C₁ : List ℕ) (P₁ : List Float) → C₁ ≡ set C p (longest_axis_lem d cs (Lent rows s c)) → P₁ ≡ set P p (plane d cs (Lent rows s c))
            → Run d cs leaf active O₀ B₀ w₀ floats₀ C₀ P₀ at₀ k₀ node rows₁ w₂ O floats₁ B C₁ P₁ (head + 1) (tail + 2) done k
        wait floats₁ i under C₁ P₁ eC eP =
            let u = known in
            let j : floats₁ ≡ put floats (box_width_lem d * tail) (l-box ++ r-box) = i ∙ ap (put floats (box_width_lem d * tail)) both-boxes in
            record {
              pos = x.run.pos;
              few = x.run.few;
              lp = x.run.lp;
              some = x.run.some;
              good = x.run.good;
              same = rows_same;
              qs = x.rest ++ placed_halves d cs leaf x.first;
              inv = rw packed₂ (inv-wait x.inv x.more e-s e-c e-e e-p g below rows₁ (room_in n w₂) rows_cut room₂);
              boxes = boxes-wait x.more x.boxes l-wide r-wide floats₁ (turn-wait x.inv x.more e-s e-c e-e e-p g) floats-all j;
              nodes =
                  recorded-wait x.run.pos x.run.lp x.nodes good-q some-q size-q places-q axis-q plane-q C₁ P₁ g under
                  (wait-places x.inv x.more e-s e-c e-e e-p g below (room_in n w₂) room₂) (turn-wait x.inv x.more e-s e-c e-e e-p g) eC eP;
              fit-w = rw (f, length-put w₁ (2 * n + waiting_width * tail) (two_halves s c (suc e) p below) (omega (arith, joins, ten₁)), same_w) ten;
              fit-floats = rw (j, length-put floats (box_width_lem d * tail) (l-box ++ r-box) (omega (arith, both-wide, u.floats_fit g))) x.run.fit-floats;
              fit-B = x.run.fit-B;
              begun = omega arith;
              turns = omega (arith, x.run.turns);
              found-w =
                  rw f (found-put (2 * n + waiting_width * (tail + 2)) w₀ w₁ (2 * n + waiting_width * tail) (two_halves s c (suc e) p below)
                  (found-on (2 * n + waiting_width * tail) (2 * n + waiting_width * (tail + 2)) w₀ w₁ found₁ (omega arith)) (omega (arith, joins, ten₁)) (omega arith));
              found-floats =
                  let e = mul-add (box_width_lem d) tail 2 in
                  rw j (found-put (box_width_lem d * (tail + 2)) floats₀ floats (box_width_lem d * tail) (l-box ++ r-box)
                  (found-on (box_width_lem d * tail) (box_width_lem d * (tail + 2)) floats₀ floats x.run.found-floats (omega arith)) floats-all (omega (arith, both-wide)));
            }

        pub wait-less : cuts_left (room_in n w₂) (head + 1) (tail + 2) < cuts_left (room_in n w) head tail
        wait-less = less-wait x.inv x.more e-s e-c e-e e-p g below (room_in n w₂) room₂

      -- they are the next two leaves: w₂ is the room after they were packed
      module _ (g : c / 2 < leaf) (w₂ : List ℕ) (f : w₂ ≡ put w₁ (n + done) (part rows₁ s c)) where
        stretch : part rows₁ s c ≡ both
        stretch = ap (λ (z : List ℕ). part z s c) rows_cut ∙ part-put-same rows s both c (omega (arith, inside, x.run.same)) both-length

        two-length : length (part rows₁ s c) ≡ c
        two-length = ap length stretch ∙ both-length

        fits₂ : done + length (part rows₁ s c) ≤ n
        fits₂ = omega (arith, two-length, known.rows_fit)

        room₃ : room_in n w₂ ≡ room_in n w
        room₃ = rw f (packed-room n w₁ ten₁ done (part rows₁ s c) fits₂ ∙ room₁)

        packed₃ : packed_in n w₂ ≡ put (packed_in n w) done (part rows₁ s c)
        packed₃ = rw f (packed-put n w₁ ten₁ done (part rows₁ s c) fits₂ ∙ rw packed₁)

        pub next-leaves : (O₁ : List ℕ) (B₁ : List Float) → O₁ ≡ two_own O k (at₀ + done) c (e + 1) → B₁ ≡ put B (box_width_lem d * k) (set b (bd + y) v ++ set b y v)
            → (C₁ : List ℕ) (P₁ : List Float) → C₁ ≡ set (set (set C p (longest_axis_lem d cs (Lent rows s c))) (p + 1) (3 + (k - k₀))) (p + 1 + 1) (3 + (k - k₀ + 1))
            → P₁ ≡ set (set (set P p (plane d cs (Lent rows s c))) (p + 1) plus_zero) (p + 1 + 1) plus_zero
            → Run d cs leaf active O₀ B₀ w₀ floats₀ C₀ P₀ at₀ k₀ node rows₁ w₂ O₁ floats B₁ C₁ P₁ (head + 1) tail (done + c) (k + 2)
        next-leaves O₁ B₁ o i C₁ P₁ eC eP =
            let u = known in
            let j : B₁ ≡ put B (box_width_lem d * k) (l-box ++ r-box) = i ∙ ap (put B (box_width_lem d * k)) both-boxes in
            record {
              pos = x.run.pos;
              few = x.run.few;
              lp = x.run.lp;
              some = x.run.some;
              good = x.run.good;
              same = rows_same;
              qs = x.rest;
              inv = rw room₃ (inv-done x.inv x.more e-s e-c e-e e-p g rows₁ (packed_in n w₂) O₁ rows_cut packed₃ (rw (← add-one e) o));
              boxes = boxes-done x.more x.boxes l-wide r-wide B₁ (turn-done x.inv x.more e-s e-c e-e e-p g) (omega (arith, u.boxes_fit)) j;
              nodes =
                  rw room₃ (recorded-done x.run.pos x.run.lp x.nodes good-q some-q size-q places-q axis-q plane-q C₁ P₁ g x.inv.up (turn-done x.inv x.more e-s e-c e-e e-p g) eC eP);
              fit-w = rw (f, length-put w₁ (n + done) (part rows₁ s c) (omega (arith, fits₂, ten₁)), same_w) ten;
              fit-floats = x.run.fit-floats;
              fit-B = rw (j, length-put B (box_width_lem d * k) (l-box ++ r-box) (omega (arith, both-wide, u.boxes_fit))) x.run.fit-B;
              begun = x.run.begun;
              turns = omega (arith, x.run.turns);
              found-w = rw f (found-put (2 * n + waiting_width * tail) w₀ w₁ (n + done) (part rows₁ s c) found₁ (omega (arith, fits₂, ten₁)) (omega (arith, fits₂)));
              found-floats = x.run.found-floats;
            }

        pub next-leaves-less : cuts_left (room_in n w₂) (head + 1) tail < cuts_left (room_in n w) head tail
        next-leaves-less = rw room₃ (less_done x.inv x.more e-s e-c e-e e-p)

  -- ---- the loop ends with what is due; the packed leaves fill the place of the rows
  pub run_end : (x : Run d cs leaf active O₀ B₀ w₀ floats₀ C₀ P₀ at₀ k₀ node rows w O floats B C P head tail done k) → tail ≤ head
      → (k ≡ k₀ + length (leaves_of d cs leaf active)) × (packed_in (length active) w ≡ joined (map (λ (q : Domain). q.rows) (leaves_of d cs leaf active)))
      × (O ≡ with_own at₀ (map domain_own (leaves_of d cs leaf active)) k₀ O₀)
      × (B ≡ put B₀ (box_width_lem d * k₀) (joined (map (λ (q : Domain). q.box) (leaves_of d cs leaf active)))) × (k ≡ k₀ + tail + 1)
  run_end x h =
      let e = inv-end x.inv h in
      let ws = placed_leaves d cs leaf (root_placed d cs active node ∷ []) in
      let are : domains_of ws ≡ leaves_of d cs leaf active =
      placed-domains d cs leaf (root_placed d cs active node ∷ []) ∙ sym (leaves_are d cs x.pos leaf x.lp active x.good x.some) in
      let full = leaves-fill d cs x.pos leaf x.lp active x.good x.some in
      let rows_are : map (λ (w : Placed). w.domain.rows) ws ≡ map (λ (q : Domain). q.rows) (leaves_of d cs leaf active) =
      sym (map-map (λ (q : Domain). q.rows) (λ (w : Placed). w.domain) ws) ∙ ap (map (λ (q : Domain). q.rows)) are in
      let own_are : leaf_own (placed_kind d cs leaf x.pos x.lp) (root_placed d cs active node ∷ []) ≡ map domain_own (leaves_of d cs leaf active) =
      sym (map-map domain_own (λ (w : Placed). w.domain) ws) ∙ ap (map domain_own) are in
      let boxes_are : map placed_box ws ≡ map (λ (q : Domain). q.box) (leaves_of d cs leaf active) =
      sym (map-map (λ (q : Domain). q.box) (λ (w : Placed). w.domain) ws) ∙ ap (map (λ (q : Domain). q.box)) are in
      let many : length ws ≡ length (leaves_of d cs leaf active) = sym (length-map ws (λ (w : Placed). w.domain)) ∙ ap length are in (
        omega (arith, e.0, many),
        e.1 ∙ ap (λ (z : List (List ℕ)). put (packed_in (length active) w₀) 0 (joined z)) rows_are
            ∙ put_whole (packed_in (length active) w₀) _ (omega (arith, packed-most (length active) w₀, full)),
        e.2 ∙ ap (λ (z : List Own). with_own at₀ z k₀ O₀) own_are,
        boxes-end h x.qs x.boxes ∙ ap (λ (z : List (List Float)). put B₀ (box_width_lem d * k₀) (joined z)) boxes_are,
        omega (arith, x.turns, x.inv.order),
      )

  -- and the record is written
  pub run-record : (x : Run d cs leaf active O₀ B₀ w₀ floats₀ C₀ P₀ at₀ k₀ node rows w O floats B C P head tail done k) → tail ≤ head
      → (C ≡ put C₀ node (map whole_of (record_of d cs leaf active))) × (P ≡ put P₀ node (map float_of (record_of d cs leaf active)))
  run-record x h = recorded-end x.pos x.lp h x.nodes

-- ---- where it begins: the first stretch is in the room, and the root's box in the other list
pub length-extents : (d : ℕ) (cs : List Float) (rows : List ℕ) → length (extents d cs rows) ≡ box_width_lem d
unfolding extents
length-extents d cs rows = simp (length-append, length-map, length_from) (omega arith)

root-rows : (d : ℕ) (cs : List Float) (active : List ℕ) → (root_domain d cs active).rows ≡ active
unfolding root_domain
root-rows d cs active = refl

root-depth : (d : ℕ) (cs : List Float) (active : List ℕ) → ◌≡◌ {A = ℕ} (root_domain d cs active).depth 0
unfolding root_domain
root-depth d cs active = refl

root-box : (d : ℕ) (cs : List Float) (active : List ℕ) → (root_domain d cs active).box ≡ extents d cs active
unfolding root_domain
root-box d cs active = refl

pub width-most : (d n : ℕ) → 1 ≤ n → box_width_lem d ≤ box_width_lem d * (2 * n)
width-most d n h = let a : box_width_lem d * 1 ≤ box_width_lem d * (2 * n) = mul-le-mul_left (box_width_lem d) (omega arith) in omega (arith, mul-one (box_width_lem d))

module _ (d : ℕ) (cs : List Float) (pos : 0 < d) (few : d ≤ 3) (leaf : ℕ) (lp : 1 ≤ leaf) (active : List ℕ) (some : 1 ≤ length active) (good : GoodRows d cs active)
    (w w₁ : List ℕ) (floats floats₁ : List Float) (fw : 10 * length active ≤ length w) (fh : box_width_lem d * (2 * length active) ≤ length floats)
    (node : ℕ) (ew : w₁ ≡ put w (2 * length active) (0 ∷ length active ∷ 0 ∷ node ∷ [])) (eh : floats₁ ≡ put floats 0 (extents d cs active)) where
  abbrev m : ℕ
  m = length active

  length-w : length w₁ ≡ length w
  length-w = ap length ew ∙ length-put w (2 * m) (0 ∷ m ∷ 0 ∷ node ∷ []) (omega arith)

  length-floats : length floats₁ ≡ length floats
  length-floats = ap length eh ∙ length-put floats 0 (extents d cs active) (omega (arith, length-extents d cs active, width-most d m some))

  floats-box : part floats₁ 0 (box_width_lem d) ≡ (root_domain d cs active).box
  floats-box = rw (eh, part-put-same floats 0 (extents d cs active) (box_width_lem d) (omega arith) (length-extents d cs active), root-box d cs active)

  pub run-first : (O₀ : List ℕ) (B₀ : List Float) (C₀ : List ℕ) (P₀ : List Float) (at₀ k₀ : ℕ) → row_numbers * (k₀ + 2 * m) ≤ length O₀ → box_width_lem d * (k₀ + 2 * m) ≤ length B₀
      → node + 4 * m ≤ length C₀ → node + 4 * m ≤ length P₀
      → Run d cs leaf active O₀ B₀ w₁ floats₁ C₀ P₀ at₀ k₀ node active w₁ O₀ floats₁ B₀ C₀ P₀ 0 1 0 k₀
  run-first O₀ B₀ C₀ P₀ at₀ k₀ o z hC hP =
      let K = placed_kind d cs leaf pos lp in
      let root = root_placed d cs active node in
      let queue = first-room m node w w₁ fw some ew in
      let ten = rw (← length-w) at fw in
      record {
        pos = pos;
        few = few;
        lp = lp;
        some = some;
        good = good;
        same = refl;
        qs = root ∷ [];
        inv =
            inv-first K m root (packed_in m w₁) O₀ at₀ k₀ node active (room_in m w) (room_in m w₁) lp (sym (root-rows d cs active)) (rw (root-rows d cs active) good) (sym (root-depth d cs active))
            refl some (omega (arith, room-length m w fw)) (omega (arith, packed-length m w₁ ten)) o queue;
        boxes = boxes-first K placed_box (box_width_lem d) floats₁ B₀ root k₀ floats-box;
        nodes = recorded-first pos lp good some hC hP (first-places m node (room_in m w) (room_in m w₁) (omega (arith, room-length m w fw)) queue);
        fit-w = ten;
        fit-floats = rw length-floats fh;
        fit-B = z;
        begun = omega arith;
        turns = omega arith;
        found-w = refl;
        found-floats = refl;
      }

  -- from the lists as the function found them to those that the loop ends with
  pub found_all : (w₂ : List ℕ) (floats₂ : List Float) (t : ℕ) → 1 ≤ t → AsFoundFrom (2 * length active + waiting_width * t) w₁ w₂ → AsFoundFrom (box_width_lem d * t) floats₁ floats₂
      → AsFoundFrom (2 * length active + waiting_width * t) w w₂ × AsFoundFrom (box_width_lem d * t) floats floats₂
  found_all w₂ floats₂ t h f g =
      let e : box_width_lem d * 1 ≤ box_width_lem d * t = mul-le-mul_left (box_width_lem d) h in (
        f ∙ rw ew (found-put (2 * m + waiting_width * t) w w (2 * m) (0 ∷ m ∷ 0 ∷ node ∷ []) refl (omega arith) (omega arith)),
        g ∙ rw eh (found-put (box_width_lem d * t) floats floats 0 (extents d cs active) refl (omega arith) (omega (arith, length-extents d cs active, mul-one (box_width_lem d)))),
      )

-- ---- the lists keep their lengths, which the loop's sums need
pub record KeptLengths (w₀ O₀ C₀ : List ℕ) (floats₀ B₀ : List Float) (w O : List ℕ) (floats B : List Float) : Type 0 where
  pub same_w : length w ≡ length w₀
  pub same-O : length O ≡ length O₀
  pub same-floats : length floats ≡ length floats₀
  pub same-B : length B ≡ length B₀
  pub cap-w : length w₀ < 2 ^ 64
  pub cap-O : length O₀ < 2 ^ 64
  pub cap-C : length C₀ < 2 ^ 64
  pub cap-floats : length floats₀ < 2 ^ 64
  pub cap-B : length B₀ < 2 ^ 64

pub kept_next : {w₀ O₀ C₀ : List ℕ} {floats₀ B₀ : List Float} {w O : List ℕ} {floats B : List Float} → KeptLengths w₀ O₀ C₀ floats₀ B₀ w O floats B
    → {w₁ O₁ : List ℕ} {floats₁ B₁ : List Float} → length w₁ ≡ length w → length O₁ ≡ length O → length floats₁ ≡ length floats → length B₁ ≡ length B
    → KeptLengths w₀ O₀ C₀ floats₀ B₀ w₁ O₁ floats₁ B₁
kept_next h a c d e =
    record {
      same_w = a ∙ h.same_w;
      same-O = c ∙ h.same-O;
      same-floats = d ∙ h.same-floats;
      same-B = e ∙ h.same-B;
      cap-w = h.cap-w;
      cap-O = h.cap-O;
      cap-C = h.cap-C;
      cap-floats = h.cap-floats;
      cap-B = h.cap-B;
    }
