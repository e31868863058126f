-- The loop over the levels: those before the cursor are written and counted. Assumes nothing.
-- Holds: row_count_lem, domain_count_lem, start, tree-room, Inv, levels-start, points-long, end-points, end-internals,
--   end-domains, end-boxes, end-borrowed, end-counts, level-stands, levels-below, points-room, level-room, levels-next
use mathlib.Core.Path.{◌≡◌, refl, sym, ap, ◌∙◌}
use mathlib.Core.Bool.{Bool, true, false, cond}
use mathlib.Core.List.{List, [], ◌∷◌, ◌++◌, map, append_assoc, append-nil}
use Prim.Native.Nat.{ℕ, ◌+◌, ◌-◌, ◌*◌, ◌≤◌, ◌<◌}
use native.Mathlib.Omega.{arith}
use native.Mathlib.Nat.{mul-zero, zero-add}
use lib.Dec.{eqb}
use lib.ListN.{length, drop, set, replicate, length-append, length-map}
use Rattle.lists.specs.Lists.{put, joined}
use Rattle.lists.proofs.Map.{map_snoc}
use Rattle.lists.proofs.Put.{put-nil, put-next-at, put-snoc, length-put}
use Rattle.lists.proofs.Joined.{joined-map-append, joined-map-snoc}
use Rattle.definition.specs.Tree.{Level}
use Rattle.definition.specs.Packed.{row_floats_lem, most_levels, leaves_in_lem, packed_level_points, packed_internals, packed_domains, packed_boxes, packed_borrowed, counts_of}
use Rattle.definition_laws.proofs.Fit.{length-domains}
use Rattle.packed.specs.Reading.{Packed}
use Rattle.packed.proofs.Counts.{counts-put}
use Rattle.packed.proofs.Packing.{points-cons}
use Rattle.stored.specs.Stored.{second_count, one_domain, after_level, levels_at}
use Rattle.tree_tests.specs.Whole.{level_whole, levels_whole}
use Rattle.tree_tests.proofs.Lengths.{length-leaves-in}
use Rattle.load_lists.specs.declared.Cursor.{Cursor}
use Rattle.load_lists.specs.Places.{ahead, level_at_lem, Room, Written, tree_from, CanHold}
use Rattle.load_lists.proofs.Writing.{Wide, wide-append, written_none, room-front, room_after, written-append}
use Rattle.load_lists.proofs.Ahead.{level-wide, levels-wide, levels-first, level-first, wholes-next}

-- how many rows, and how many domains, a level has
abbrev pub row_count_lem : Level → ℕ
row_count_lem l = length l.points

abbrev pub domain_count_lem : Level → ℕ
domain_count_lem l = length l.leaves

-- ---- lists of levels, one after the other
module _ (xs ys : List Level) where
  points-both : packed_level_points (xs ++ ys) ≡ packed_level_points xs ++ packed_level_points ys
  unfolding packed_level_points
  points-both = joined-map-append (λ (l : Level). l.points) xs ys

  leaves-both : leaves_in_lem (xs ++ ys) ≡ leaves_in_lem xs ++ leaves_in_lem ys
  unfolding leaves_in_lem
  leaves-both = joined-map-append (λ (l : Level). l.leaves) xs ys

module _ (ls : List Level) (l : Level) where
  points-snoc : packed_level_points (ls ++ l ∷ []) ≡ packed_level_points ls ++ l.points
  unfolding packed_level_points
  points-snoc = joined-map-snoc (λ (l : Level). l.points) ls l

  points-next : (P : List ℕ) {P₁ P₂ : List ℕ} {k : ℕ} → P₁ ≡ put P 0 (packed_level_points ls) → k ≡ length (packed_level_points ls) → P₂ ≡ put P₁ k l.points
      → P₂ ≡ put P 0 (packed_level_points (ls ++ l ∷ []))
  points-next P {k = k} e₁ ek e₂ =
      e₂ ∙ rw (e₁, points-snoc) (put-next-at P 0 (packed_level_points ls) l.points k (omega arith) (omega arith))

  leaves-snoc : leaves_in_lem (ls ++ l ∷ []) ≡ leaves_in_lem ls ++ l.leaves
  unfolding leaves_in_lem
  leaves-snoc = joined-map-snoc (λ (l : Level). l.leaves) ls l

-- ---- the counts of levels, one to a level
abbrev zeros : List ℕ
zeros = replicate most_levels 0

module _ (f : Level → ℕ) (ls : List Level) {counts : List ℕ} (e : counts ≡ put (replicate most_levels 0) 0 (map f ls)) where
  counts-next : (l : Level) (n x : ℕ) → n ≡ length ls → n < most_levels → x ≡ f l → set counts n x ≡ put (replicate most_levels 0) 0 (map f (ls ++ l ∷ []))
  counts-next l n x en h ex =
      rw (e, ex, map_snoc f ls l) (put-snoc zeros 0 (map f ls) (f l) n (omega (arith, length-map ls f)) (omega arith))

counts-are : (ls : List Level) {levels : ℕ} {rows counts : List ℕ} → levels ≡ length ls → rows ≡ put (replicate most_levels 0) 0 (map row_count_lem ls)
    → counts ≡ put (replicate most_levels 0) 0 (map domain_count_lem ls) → length ls ≤ most_levels → record { levels = levels; rows = rows; domains = counts } ≡ counts_of ls
unfolding counts_of
counts-are ls n a b few = rw (n, a, b, counts-put row_count_lem ls few, counts-put domain_count_lem ls few)

-- ---- before the first level
abbrev pub start : ℕ → Cursor
start at = record { at = at; points = 0; own = 0; borrowed = 0; row = 0 }

pub tree-room : (at : ℕ) (ls : List Level) (P : List ℕ) (p : Packed) → Wide p.dimension (leaves_in_lem ls) → CanHold ls P p → Room (leaves_in_lem ls) (start at) p
unfolding packed_internals packed_boxes packed_borrowed
tree-room at ls P p wide h = record {
  internals = omega (arith, h.internals);
  domains = omega (arith, h.domains, length-domains ls);
  boxes = rw (zero-add (length (leaves_in_lem ls)), ← wide) h.boxes;
  borrowed = omega (arith, h.borrowed);
}

-- ---- THE INVARIANT: P and p are the lists before the loop, P₁ and q are now; `done` levels are before the cursor, and at most `left` ahead
pub record Inv (d : ℕ) (file : List ℕ) (at : ℕ) (c : Cursor) (P P₁ : List ℕ) (p q : Packed) (rows counts : List ℕ) (levels left : ℕ) : Type 0 where
  pub done : List Level
  pub all : done ++ levels_at d left (ahead c file) ≡ tree_from d at file
  pub wide : Wide d (leaves_in_lem done)
  pub written : Written (leaves_in_lem done) (start at) c p q
  pub points : c.points ≡ length (packed_level_points done)
  pub level_points : P₁ ≡ put P 0 (packed_level_points done)
  pub row_counts : rows ≡ put (replicate most_levels 0) 0 (map row_count_lem done)
  pub domain-counts : counts ≡ put (replicate most_levels 0) 0 (map domain_count_lem done)
  pub number : levels ≡ length done
  pub few : levels + left ≤ most_levels
  pub stand : 0 < left → levels_whole d left (ahead c file) ≡ true

pub levels-start : (d : ℕ) (file : List ℕ) (at : ℕ) (P : List ℕ) (p : Packed) → levels_whole d most_levels (drop at file) ≡ true
    → Inv d file at (start at) P P p p (replicate most_levels 0) (replicate most_levels 0) 0 most_levels
unfolding leaves_in_lem packed_level_points joined
levels-start d file at P p h = record {
  done = [];
  all = refl;
  wide = sym (mul-zero (row_floats_lem d));
  written = written_none (start at) p;
  points = refl;
  level_points = sym (put-nil P 0);
  row_counts = sym (put-nil zeros 0);
  domain-counts = sym (put-nil zeros 0);
  number = refl;
  few = omega arith;
  stand = λ _. h;
}

module _ {d : ℕ} {file : List ℕ} {at : ℕ} {c : Cursor} {P P₁ : List ℕ} {p q : Packed} {rows counts : List ℕ} {levels left : ℕ}
    (v : Inv d file at c P P₁ p q rows counts levels left) (same : q.dimension ≡ p.dimension) (axes : p.dimension ≡ d)
    (h : CanHold (tree_from d at file) P p) where
  abbrev tree : List Level
  tree = tree_from d at file

  abbrev done : List Level
  done = v.done

  room : Room (leaves_in_lem tree) (start at) p
  room = tree-room at tree P p (rw axes (levels-wide d most_levels (drop at file))) h

  wide : Wide p.dimension (leaves_in_lem done)
  wide = v.wide ∙ ap (λ (n : ℕ). row_floats_lem n * length (leaves_in_lem v.done)) (sym axes)

  -- ---- how long the lists are
  points_few : length (packed_level_points done) + length (packed_level_points (levels_at d left (ahead c file))) ≤ length P
  points_few =
      omega (
        arith,
        h.points,
        ap (λ (ls : List Level). length (packed_level_points ls)) v.all,
        ap length (points-both done (levels_at d left (ahead c file))),
        length-append (packed_level_points done) (packed_level_points (levels_at d left (ahead c file))),
      )

  pub points-long : length P₁ ≡ length P
  points-long = ap length v.level_points ∙ length-put P 0 (packed_level_points done) (omega (arith, points_few))

  -- ---- none is left
  module _ (none : left ≡ 0) where
    nothing : [] ≡ levels_at d left (ahead c file)
    unfolding levels_at
    nothing = rw none

    all_done : done ≡ tree
    all_done = sym (append-nil done) ∙ ap (λ (ls : List Level). done ++ ls) nothing ∙ v.all

    pub end-points : P₁ ≡ put P 0 (packed_level_points (tree_from d at file))
    end-points = rw (← all_done) v.level_points

    pub end-internals : q.internals ≡ put p.internals 0 (packed_internals (tree_from d at file))
    unfolding packed_internals
    end-internals = rw (← all_done) v.written.internals

    pub end-domains : q.domains ≡ put p.domains 0 (packed_domains (tree_from d at file))
    unfolding packed_domains
    end-domains = rw (← all_done) v.written.domains

    pub end-boxes : q.boxes ≡ put p.boxes 0 (packed_boxes (tree_from d at file))
    unfolding packed_boxes
    end-boxes = rw (← all_done, ← mul-zero (row_floats_lem p.dimension)) v.written.boxes

    pub end-borrowed : q.borrowed ≡ put p.borrowed 0 (packed_borrowed (tree_from d at file))
    unfolding packed_borrowed
    end-borrowed = rw (← all_done) v.written.borrowed

    pub end-counts : record { levels = levels; rows = rows; domains = counts } ≡ counts_of (tree_from d at file)
    end-counts = counts-are done v.number v.row_counts v.domain-counts (omega (arith, v.few, v.number)) ∙ ap counts_of all_done

  -- ---- one more
  module _ (some : 0 < left) where
    abbrev this : Level
    this = level_at_lem d c file

    abbrev rest : List Level
    rest = levels_at d (cond (one_domain (ahead c file)) 0 (left - 1)) (after_level d (ahead c file))

    pub level-stands : level_whole d (ahead c file) ≡ true
    level-stands = level-first d left (ahead c file) some (v.stand some)

    now : levels_at d left (ahead c file) ≡ this ∷ rest
    now = levels-first d left (ahead c file) some

    all-next : (done ++ this ∷ []) ++ rest ≡ tree
    all-next = append_assoc done (this ∷ []) rest ∙ ap (λ (ls : List Level). done ++ ls) (sym now) ∙ v.all

    pub levels-below : levels < most_levels
    levels-below = omega (arith, v.few)

    pub points-room : c.points + length (level_at_lem d c file).points ≤ length P₁
    points-room =
        omega (
          arith,
          points_few,
          points-long,
          v.points,
          ap (λ (ls : List Level). length (packed_level_points ls)) now,
          ap length (points-cons this rest),
          length-append this.points (packed_level_points rest),
        )

    next-room : Room ((leaves_in_lem done ++ this.leaves) ++ leaves_in_lem rest) (start at) p
    next-room = rw (← leaves-snoc done this, ← leaves-both (done ++ this ∷ []) rest, all-next) room

    two-room : Room (leaves_in_lem done ++ this.leaves) (start at) p
    two-room = room-front (leaves_in_lem done ++ this.leaves) (leaves_in_lem rest) next-room

    pub level-room : Room (level_at_lem d c file).leaves c q
    level-room = room_after (leaves_in_lem done) this.leaves same wide two-room v.written

    -- what the level has left: the cursor r, the level points P₂ and the lists t
    module _ {r : Cursor} {P₂ : List ℕ} {t : Packed} (after : ahead r file ≡ after_level d (ahead c file)) (points : r.points ≡ c.points + length (level_at_lem d c file).points)
        (eP : P₂ ≡ put P₁ c.points (level_at_lem d c file).points) (w : Written (level_at_lem d c file).leaves c r q t) where
      domains-many : r.row - c.row ≡ second_count (ahead c file)
      domains-many = omega (arith, w.row_end, length-leaves-in d (ahead c file))

      pub levels-next : {left₁ : ℕ} → left₁ ≡ cond (eqb (r.row - c.row) 1) 0 (left - 1)
          → Inv d file at r P P₂ p t (set rows levels (r.points - c.points)) (set counts levels (r.row - c.row)) (levels + 1) left₁
      levels-next e =
          let l : _ ≡ cond (one_domain (ahead c file)) 0 (left - 1) = e ∙ ap (λ (n : ℕ). cond (eqb n 1) 0 (left - 1)) domains-many in
          record {
            done = done ++ this ∷ [];
            all = rw (l, after) all-next;
            wide = rw (leaves-snoc done this) (wide-append d (leaves_in_lem done) this.leaves v.wide (level-wide d (ahead c file)));
            written = rw (leaves-snoc done this) (written-append (leaves_in_lem done) this.leaves same wide two-room v.written w);
            points = rw (points-snoc done this) (omega (arith, points, v.points, length-append (packed_level_points done) this.points));
            level_points = points-next done this P v.level_points v.points eP;
            row_counts = counts-next row_count_lem done v.row_counts this levels (r.points - c.points) v.number levels-below (omega (arith, points));
            domain-counts =
                counts-next domain_count_lem done v.domain-counts this levels (r.row - c.row) v.number levels-below (omega (arith, w.row_end));
            number = omega (arith, v.number, length-append done (this ∷ []));
            few = rw l (fewer (one_domain (ahead c file)));
            stand = rw (l, after) (λ s. wholes-next d left (ahead c file) (v.stand some) s);
          }
        where
          fewer : (b : Bool) → levels + 1 + cond b 0 (left - 1) ≤ most_levels
          fewer true = omega (arith, v.few)
          fewer false = omega (arith, v.few)
