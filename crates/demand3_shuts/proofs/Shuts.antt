-- What demand 3 shuts out: for each of its fields lists that are wrong in one thing, and that this field refuses. The right lists have
-- it: those of document 01's example, those of a tree with two fine levels, and those of rows at one place. Each is computed. No lists
-- can break `sends_within` and `empty_sends_none`: what a leaf sends up is the definition's sampling of the rows that the lists name,
-- whatever these are. Assumes nothing.
-- Holds: not-empty, not-unwritten, not-many, not-after-coarse, not-coarse, not-ended, not-repeated, not-dropped, not-unsent,
--   not-elsewhere, not-one-more, not-all-again, not-counted, not-own-counted, not-borrowed-counted, not-leaves-beyond,
--   not_beyond, not-shared, not-left-out, not-foreign, not-renumbered, not-two-coarse, not-coarse-borrowing, not-coarse-boxed,
--   not-below, not_own, not-twice, not-far, not-measured, not-deeper, six-has-it, not-out-of-order, nested-has-it,
--   not-lowest-first, not-covered-by-none, not-uncovered, not-coarse-covered, not-squared, not-uneven, not-sent-by-none,
--   not-shared-out, not-one-too-few, not-two-more, not-more-than-whole, shares
use Prim.Native.Nat.{ℕ, ◌+◌, ◌-◌, ◌*◌, ◌≤◌, ◌<◌}
use mathlib.Core.Path.{◌≡◌, refl, ap, subst}
use mathlib.Core.List.{List, [], ◌∷◌, ◌++◌}
use mathlib.Core.Logic.{◌⊎◌, ⊎_elim}
use native.Mathlib.Omega.{arith}
use lib.ListN.{length, get_or, replicate}
use lib.Ieee.{Float, nan, binary64, to_bits}
use Rattle.lists.specs.Lists.{joined}
use Rattle.definition.specs.Number.{plus_zero, plus_infinity}
use Rattle.definition.proofs.WorkedSamples.{line, on_line, nines, float_room, whole_room, record_room}
use Rattle.demand3.specs.Handed.{Handed}
use Rattle.demand3.specs.Demand3.{share_of, WholePart, OneMore, Demand3, handed_back}
use Rattle.demand3.proofs.Demand.{demand-3}
use Rattle.demand3_shuts.proofs.RightLists.{all-open, four, set, in_lists, counts, level_points, two, level-points-but, internals-but, domains_with, domains-but, coarse_floats, boxes_with, boxes-but, borrowed-but}

-- nothing written and nothing counted; nothing written, though the counts are right
pub not-empty : Demand3 set four (in_lists [] [] [] [] [] (counts 0 (replicate 4 0) (replicate 4 0))) → ⊥
not-empty h = omega (arith, h.some_level)

pub not-unwritten : Demand3 set four (in_lists [] [] [] [] [] two) → ⊥
unfolding all-open
not-unwritten h = let e : ◌≡◌ {A = ℕ} 9 0 = ap (λ (l : List ℕ). get_or l 0 5) h.first_lists_all in omega arith

-- five levels are counted
pub not-many : Demand3 set four (level-points-but level_points (counts 5 (4 ∷ 2 ∷ 0 ∷ 0 ∷ []) (4 ∷ 1 ∷ 0 ∷ 0 ∷ []))) → ⊥
not-many h = let e : 5 ≤ 4 = h.few_levels in omega arith

-- a level follows one that has c rows
pub not-after-coarse : Demand3 set four (level-points-but (0 ∷ 1 ∷ 2 ∷ 3 ∷ 0 ∷ 1 ∷ 0 ∷ []) (counts 3 (4 ∷ 2 ∷ 1 ∷ 0 ∷ []) (4 ∷ 1 ∷ 1 ∷ 0 ∷ []))) → ⊥
unfolding all-open
not-after-coarse h = let e : 2 < 2 = h.next_outnumbers 1 (omega arith) in omega arith

-- the second level is missing: the first has more than c rows, and so is neither the last nor a coarse one
pub not-coarse : Demand3 set four (level-points-but (0 ∷ 1 ∷ 2 ∷ 3 ∷ []) (counts 1 (4 ∷ 0 ∷ 0 ∷ 0 ∷ []) (4 ∷ 0 ∷ 0 ∷ 0 ∷ []))) → ⊥
unfolding all-open
not-coarse h = let e : 4 ≤ 2 = h.last_coarse.few in omega arith

pub not-ended : Demand3 set four (level-points-but (0 ∷ 1 ∷ 2 ∷ 3 ∷ []) (counts 1 (4 ∷ 0 ∷ 0 ∷ 0 ∷ []) (4 ∷ 0 ∷ 0 ∷ 0 ∷ []))) → ⊥
unfolding all-open
not-ended h = let e : 2 ≤ 1 = h.outnumbers_next 0 (omega arith) in omega arith

-- it lists a row twice, drops one, lists one that was not sent up, or is not on the level above, one more than S, or all of them again
pub not-repeated : Demand3 set four (level-points-but (0 ∷ 1 ∷ 2 ∷ 3 ∷ 0 ∷ 0 ∷ []) two) → ⊥
unfolding all-open
not-repeated h = let e : 2 ≤ 1 = (h.each_fine 0 (omega arith)).next.each_once 0 in omega arith

pub not-dropped : Demand3 set four (level-points-but (0 ∷ 1 ∷ 2 ∷ 3 ∷ 0 ∷ []) (counts 2 (4 ∷ 1 ∷ 0 ∷ 0 ∷ []) (4 ∷ 1 ∷ 0 ∷ 0 ∷ []))) → ⊥
unfolding all-open
not-dropped h = let e : ◌≡◌ {A = ℕ} 1 2 = (h.each_fine 0 (omega arith)).next_size in omega arith

pub not-unsent : Demand3 set four (level-points-but (0 ∷ 1 ∷ 2 ∷ 3 ∷ 0 ∷ 2 ∷ []) two) → ⊥
unfolding all-open
not-unsent h = let e : ◌≡◌ {A = ℕ} 1 0 = (h.each_fine 0 (omega arith)).next_lists_sent 2 in omega arith

pub not-elsewhere : Demand3 set four (level-points-but (0 ∷ 1 ∷ 2 ∷ 3 ∷ 0 ∷ 8 ∷ []) two) → ⊥
unfolding all-open
not-elsewhere h = let e : 0 < 0 = (h.each_fine 0 (omega arith)).next.from_this 8 (omega arith) in omega arith

pub not-one-more : Demand3 set four (level-points-but (0 ∷ 1 ∷ 2 ∷ 3 ∷ 0 ∷ 1 ∷ 2 ∷ []) (counts 2 (4 ∷ 3 ∷ 0 ∷ 0 ∷ []) (4 ∷ 1 ∷ 0 ∷ 0 ∷ []))) → ⊥
unfolding all-open
not-one-more h = let e : ◌≡◌ {A = ℕ} 3 2 = (h.each_fine 0 (omega arith)).next_size in omega arith

pub not-all-again : Demand3 set four (level-points-but (0 ∷ 1 ∷ 2 ∷ 3 ∷ 0 ∷ 1 ∷ 2 ∷ 3 ∷ []) (counts 2 (4 ∷ 4 ∷ 0 ∷ 0 ∷ []) (4 ∷ 1 ∷ 0 ∷ 0 ∷ []))) → ⊥
unfolding all-open
not-all-again h = let e : 4 < 4 = (h.each_fine 0 (omega arith)).next.fewer in omega arith

-- a count past its list: the second level is said to have thirty rows, and the list ends after twelve
pub not-counted : Demand3 set four (level-points-but level_points (counts 2 (4 ∷ 30 ∷ 0 ∷ 0 ∷ []) (4 ∷ 1 ∷ 0 ∷ 0 ∷ []))) → ⊥
unfolding all-open
not-counted h = let e : ◌≡◌ {A = ℕ} 12 30 = (h.counted 1).of_level in omega arith

-- a leaf's own rows, or the rows that it borrows, are said to go past their list
pub not-own-counted : Demand3 set four (domains-but (0 ∷ 1 ∷ 0 ∷ 1 ∷ 2 ∷ 1 ∷ 1 ∷ 1 ∷ 2 ∷ 2 ∷ 2 ∷ 1 ∷ 3 ∷ 2 ∷ 2 ∷ 3 ∷ 1 ∷ 5 ∷ 1 ∷ 2 ∷ 4 ∷ 30 ∷ 6 ∷ 0 ∷ 0 ∷ [])) → ⊥
unfolding all-open
not-own-counted h = let e : ◌≡◌ {A = ℕ} 12 30 = (h.counted 1).of_own 0 (omega arith) in omega arith

pub not-borrowed-counted : Demand3 set four (domains-but (0 ∷ 1 ∷ 0 ∷ 1 ∷ 2 ∷ 1 ∷ 1 ∷ 1 ∷ 2 ∷ 2 ∷ 2 ∷ 1 ∷ 3 ∷ 2 ∷ 2 ∷ 3 ∷ 1 ∷ 5 ∷ 90 ∷ 2 ∷ 4 ∷ 2 ∷ 6 ∷ 0 ∷ 0 ∷ [])) → ⊥
unfolding all-open
not-borrowed-counted h = let e : ◌≡◌ {A = ℕ} 43 90 = (h.counted 0).of_borrowed 3 (omega arith) in omega arith

-- rows, or leaves, are counted beyond the last level
pub not-leaves-beyond : Demand3 set four (level-points-but level_points (counts 2 (4 ∷ 2 ∷ 0 ∷ 0 ∷ []) (4 ∷ 1 ∷ 1 ∷ 0 ∷ []))) → ⊥
not-leaves-beyond h = let e : ◌≡◌ {A = ℕ} 1 0 = (h.none_beyond 2 (omega arith)).1 in omega arith

pub not_beyond : Demand3 set four (level-points-but level_points (counts 2 (4 ∷ 2 ∷ 1 ∷ 0 ∷ []) (4 ∷ 1 ∷ 0 ∷ 0 ∷ []))) → ⊥
not_beyond h = let e : ◌≡◌ {A = ℕ} 1 0 = (h.none_beyond 2 (omega arith)).0 in omega arith

-- a row is internal to two leaves; the other that is missing then is internal to none
pub not-shared : Demand3 set four (internals-but (0 ∷ 1 ∷ 2 ∷ 2 ∷ 0 ∷ 1 ∷ [])) → ⊥
unfolding all-open
not-shared h = let e : ◌≡◌ {A = ℕ} 2 1 = (h.each_fine 0 (omega arith)).rows.internal_once 2 (omega arith) in omega arith

pub not-left-out : Demand3 set four (internals-but (0 ∷ 1 ∷ 2 ∷ 2 ∷ 0 ∷ 1 ∷ [])) → ⊥
unfolding all-open
not-left-out h = let e : ◌≡◌ {A = ℕ} 0 1 = (h.each_fine 0 (omega arith)).rows.internal_once 3 (omega arith) in omega arith

-- a row that is not active is internal to a leaf
pub not-foreign : Demand3 set four (internals-but (0 ∷ 1 ∷ 2 ∷ 8 ∷ 0 ∷ 1 ∷ [])) → ⊥
unfolding all-open
not-foreign h = let e : ◌≡◌ {A = ℕ} 1 0 = (h.each_fine 0 (omega arith)).rows.internal_none 8 refl in omega arith

-- the leaves of another cut: two leaves change places
pub not-renumbered : Demand3 set four (internals-but (0 ∷ 2 ∷ 1 ∷ 3 ∷ 0 ∷ 1 ∷ [])) → ⊥
unfolding all-open
not-renumbered h = let e : ◌≡◌ {A = ℕ} 2 1 = ap (λ (x : List (List ℕ)). get_or (get_or x 1 []) 0 9) (h.each_fine 0 (omega arith)).leaves_are in omega arith

-- the coarse level has two domains; its domain borrows a row; it has a box
pub not-two-coarse : Demand3 set four (level-points-but level_points (counts 2 (4 ∷ 2 ∷ 0 ∷ 0 ∷ []) (4 ∷ 2 ∷ 0 ∷ 0 ∷ []))) → ⊥
unfolding all-open
not-two-coarse h = let e : ◌≡◌ {A = ℕ} 2 1 = h.last_coarse.single.one_domain in omega arith

pub not-coarse-borrowing : Demand3 set four (domains-but (0 ∷ 1 ∷ 0 ∷ 1 ∷ 2 ∷ 1 ∷ 1 ∷ 1 ∷ 2 ∷ 2 ∷ 2 ∷ 1 ∷ 3 ∷ 2 ∷ 2 ∷ 3 ∷ 1 ∷ 5 ∷ 1 ∷ 2 ∷ 4 ∷ 2 ∷ 5 ∷ 1 ∷ 0 ∷ [])) → ⊥
unfolding all-open
not-coarse-borrowing h = let e : ◌≡◌ {A = ℕ} 1 0 = ap length h.last_coarse.single.borrows_none in omega arith

pub not-coarse-boxed : Demand3 set four (boxes-but (boxes_with plus_zero plus_infinity (line (0 ∷ 1 ∷ 0 ∷ [])))) → ⊥
unfolding all-open
not-coarse-boxed h = let e : ◌≡◌ {A = ℕ} 0x3ff0000000000000 0 = ap (λ (x : List Float). to_bits binary64 (get_or x 1 nan)) h.last_coarse.single.no_box in omega arith

-- the coarse domain repeats a row
pub not-below : Demand3 set four (internals-but (0 ∷ 1 ∷ 2 ∷ 3 ∷ 0 ∷ 0 ∷ [])) → ⊥
unfolding all-open
not-below h = let e : ◌≡◌ {A = ℕ} 0 1 = ap (λ (x : List ℕ). get_or x 1 9) h.last_coarse.single.holds_all in omega arith

-- a leaf borrows its own row; one borrows a row twice; one borrows a row that it should not
pub not_own : Demand3 set four (borrowed-but (0 ∷ 0 ∷ 2 ∷ 1 ∷ 3 ∷ 2 ∷ [])) → ⊥
unfolding all-open
not_own h = let e : ◌≡◌ {A = ℕ} 1 0 = (h.each_fine 0 (omega arith)).rows.borrows_not_own 0 (omega arith) 0 (omega arith) in omega arith

pub not-twice : Demand3 set four (borrowed-but (1 ∷ 2 ∷ 2 ∷ 1 ∷ 3 ∷ 2 ∷ [])) → ⊥
unfolding all-open
not-twice h = let e : 2 ≤ 1 = (h.each_fine 0 (omega arith)).rows.borrows_once 1 (omega arith) 2 in omega arith

pub not-far : Demand3 set four (borrowed-but (3 ∷ 0 ∷ 2 ∷ 1 ∷ 3 ∷ 2 ∷ [])) → ⊥
unfolding all-open
not-far h = let e : ◌≡◌ {A = ℕ} 3 1 = ap (λ (x : List ℕ). get_or x 0 9) ((h.each_fine 0 (omega arith)).borrowed_are 0 (omega arith)) in omega arith

-- boxes measured from the leaves' own points: 0 0 for the first
pub not-measured : Demand3 set four (boxes-but (line (0 ∷ 0 ∷ 0 ∷ 1 ∷ 1 ∷ 0 ∷ 3 ∷ 3 ∷ []) ++ plus_infinity ∷ line (7 ∷ 7 ∷ []) ++ plus_infinity ∷ coarse_floats)) → ⊥
unfolding all-open
not-measured h =
    let e : ◌≡◌ {A = ℕ} 0 0x3ff0000000000000 = ap (λ (x : List (List Float)). to_bits binary64 (get_or (get_or x 0 []) 1 nan)) (h.each_fine 0 (omega arith)).boxes_are in
    omega arith

-- the root's depth is taken as 1, and so every leaf is one too deep: the sizes would fit these depths, but the cut's depths are others
pub not-deeper : Demand3 set four (domains-but (domains_with 3 3 3 3 0)) → ⊥
unfolding all-open
not-deeper h = let e : ◌≡◌ {A = ℕ} 3 2 = ap (λ (x : List ℕ). get_or x 0 9) (h.each_fine 0 (omega arith)).depths_are in omega arith

-- ---- two fine levels: the points 0 to 5, with leaf 4

abbrev six : List Float
six = line (0 ∷ 1 ∷ 2 ∷ 3 ∷ 4 ∷ 5 ∷ [])

-- with these rows on the levels, and the same for the leaves' own rows
abbrev in-six : List ℕ → Handed
in-six rows =
    record {
      lists = record {
        level_points = rows ++ replicate 12 9;
        internals = rows ++ replicate 12 9;
        domains =
            0 ∷ 3 ∷ 0 ∷ 1 ∷ 1 ∷ 3 ∷ 3 ∷ 1 ∷ 1 ∷ 1 ∷ 6 ∷ 2 ∷ 2 ∷ 0 ∷ 1 ∷ 8 ∷ 2 ∷ 2 ∷ 0 ∷ 1 ∷ 10 ∷ 2 ∷ 2 ∷ 0 ∷ 0 ∷ replicate 160 9;
        boxes = line (0 ∷ 3 ∷ 1 ∷ 3 ∷ 5 ∷ 1 ∷ 0 ∷ 3 ∷ 1 ∷ 3 ∷ 4 ∷ 1 ∷ 0 ∷ 0 ∷ 0 ∷ replicate 96 9);
        borrowed = 3 ∷ 2 ∷ replicate 70 9;
      };
      counts = counts 3 (6 ∷ 4 ∷ 2 ∷ 0 ∷ []) (2 ∷ 2 ∷ 1 ∷ 0 ∷ []);
    }

-- a build hands these back, and so they have demand 3
is-six : handed_back (on_line 4 2) six (nines 6) (float_room 6) (whole_room 6) (record_room 6) ≡ in-six (0 ∷ 1 ∷ 2 ∷ 3 ∷ 4 ∷ 5 ∷ 0 ∷ 1 ∷ 3 ∷ 4 ∷ 0 ∷ 3 ∷ [])
unfolding all-open
is-six = refl

pub six-has-it : Demand3 (on_line 4 2) six (in-six (0 ∷ 1 ∷ 2 ∷ 3 ∷ 4 ∷ 5 ∷ 0 ∷ 1 ∷ 3 ∷ 4 ∷ 0 ∷ 3 ∷ []))
unfolding all-open
six-has-it = subst (Demand3 (on_line 4 2) six) is-six (demand-3 (on_line 4 2) six (nines 6) (float_room 6) (whole_room 6) (record_room 6) refl)

-- The second level lists the rows sent up in another order. Seeds then fall on other rows, and the third level lists 1 and 4 in place
-- of 0 and 3. Every other field holds of these lists.
pub not-out-of-order : Demand3 (on_line 4 2) six (in-six (0 ∷ 1 ∷ 2 ∷ 3 ∷ 4 ∷ 5 ∷ 1 ∷ 0 ∷ 4 ∷ 3 ∷ 1 ∷ 4 ∷ [])) → ⊥
unfolding all-open
not-out-of-order h = let e : ◌≡◌ {A = ℕ} 1 0 = ap (λ (x : List ℕ). get_or x 0 9) (h.each_fine 0 (omega arith)).next_order in omega arith

-- ---- three rows at one place, with leaf 1: each row has a leaf, behind an empty one

abbrev nested : List Float
nested = line (5 ∷ 5 ∷ 5 ∷ [])

-- the leaf of row 0 borrows rows 1 and 2; these are what the leaves of rows 1 and 2 borrow
abbrev in-nested : List ℕ → List ℕ → Handed
in-nested of-1 of-2 =
    let v = length of-1 in
    let w = length of-2 in
    record {
      lists = record {
        level_points = 0 ∷ 1 ∷ 2 ∷ 0 ∷ 1 ∷ replicate 7 9;
        internals = 0 ∷ 1 ∷ 2 ∷ 0 ∷ 1 ∷ replicate 7 9;
        domains =
            0 ∷ 0 ∷ 0 ∷ 0 ∷ 2 ∷ 0 ∷ 1 ∷ 0 ∷ 2 ∷ 2 ∷ 1 ∷ 0 ∷ 2 ∷ 0 ∷ 3 ∷ 1 ∷ 1 ∷ 2 ∷ v ∷ 3 ∷ 2 ∷ 0 ∷ (2 + v) ∷ 0 ∷ 3 ∷ 2 ∷ 1 ∷ (2 + v) ∷ w ∷ 3 ∷ 3 ∷ 2 ∷ (2 + v + w) ∷ 0 ∷ 0
            ∷ replicate 60 9;
        boxes = line (joined (replicate 5 (5 ∷ 5 ∷ 0 ∷ [])) ++ 5 ∷ 5 ∷ []) ++ plus_infinity ∷ line (0 ∷ 0 ∷ 0 ∷ replicate 36 9);
        borrowed = 1 ∷ 2 ∷ of-1 ++ of-2 ++ replicate (34 - v - w) 9;
      };
      counts = counts 2 (3 ∷ 2 ∷ 0 ∷ 0 ∷ []) (6 ∷ 1 ∷ 0 ∷ 0 ∷ []);
    }

-- each row takes itself first, and then the lower of the others
is-nested : handed_back (on_line 1 2) nested (nines 3) (float_room 3) (whole_room 3) (record_room 3) ≡ in-nested (0 ∷ []) (0 ∷ [])
unfolding all-open
is-nested = refl

pub nested-has-it : Demand3 (on_line 1 2) nested (in-nested (0 ∷ []) (0 ∷ []))
unfolding all-open
nested-has-it = subst (Demand3 (on_line 1 2) nested) is-nested (demand-3 (on_line 1 2) nested (nines 3) (float_room 3) (whole_room 3) (record_room 3) refl)

-- row 2 would take rows 0 and 1, and fall out of its own neighbourhood: the leaves of rows 1 and 2 borrow from each other. Every other
-- field holds of these lists.
pub not-lowest-first : Demand3 (on_line 1 2) nested (in-nested (0 ∷ 2 ∷ []) (0 ∷ 1 ∷ [])) → ⊥
unfolding all-open
not-lowest-first h = let e : ◌≡◌ {A = ℕ} 2 1 = ap length ((h.each_fine 0 (omega arith)).borrowed_are 3 (omega arith)) in omega arith

-- ---- covers, of leaves that send no row up, and of the coarse domain

-- +0 for a leaf that sends none of its rows; a number for one that sends all
pub not-covered-by-none : Demand3 set four (boxes-but (boxes_with plus_zero plus_zero coarse_floats)) → ⊥
unfolding all-open
not-covered-by-none h =
    let e : ◌≡◌ {A = ℕ} 0 0x7ff0000000000000 = ap (to_bits binary64) ((h.each_fine 0 (omega arith)).covers_are 2 (omega arith)) in
    omega arith

pub not-uncovered : Demand3 set four (boxes-but (boxes_with plus_infinity plus_infinity coarse_floats)) → ⊥
unfolding all-open
not-uncovered h =
    let e : ◌≡◌ {A = ℕ} 0x7ff0000000000000 0 = ap (to_bits binary64) ((h.each_fine 0 (omega arith)).covers_are 0 (omega arith)) in
    omega arith

pub not-coarse-covered : Demand3 set four (boxes-but (boxes_with plus_zero plus_infinity (line (0 ∷ 0 ∷ 1 ∷ [])))) → ⊥
unfolding all-open
not-coarse-covered h = let e : ◌≡◌ {A = ℕ} 0x3ff0000000000000 0 = ap (to_bits binary64) h.last_coarse.no_cover in omega arith

-- ---- shares

-- the same points with leaf 3: two leaves of two rows, these two rows on the second level, and these covers of the leaves
abbrev pair_with : ℕ → ℕ → ℕ → ℕ → Handed
pair_with x y left right =
    record {
      lists = record {
        level_points = 0 ∷ 1 ∷ 2 ∷ 3 ∷ x ∷ y ∷ replicate 10 9;
        internals = 0 ∷ 1 ∷ 2 ∷ 3 ∷ x ∷ y ∷ replicate 10 9;
        domains = 0 ∷ 2 ∷ 0 ∷ 1 ∷ 1 ∷ 2 ∷ 2 ∷ 1 ∷ 1 ∷ 1 ∷ 4 ∷ 2 ∷ 2 ∷ 0 ∷ 0 ∷ replicate 110 9;
        boxes = line (0 ∷ 3 ∷ left ∷ 3 ∷ 7 ∷ right ∷ 0 ∷ 0 ∷ 0 ∷ replicate 66 9);
        borrowed = 2 ∷ 1 ∷ replicate 46 9;
      };
      counts = counts 2 (4 ∷ 2 ∷ 0 ∷ 0 ∷ []) (2 ∷ 1 ∷ 0 ∷ 0 ∷ []);
    }

abbrev pair : ℕ → ℕ → Handed
pair x y = pair_with x y 1 4

-- S is 2, so each sends one
is-even : handed_back (on_line 3 2) four (nines 4) (float_room 4) (whole_room 4) (record_room 4) ≡ pair 0 2
unfolding all-open
is-even = refl

-- the second leaf's rows are at 3 and 7: the square of their distance in place of it
pub not-squared : Demand3 (on_line 3 2) four (pair_with 0 2 1 16) → ⊥
unfolding all-open
not-squared h =
    let e : ◌≡◌ {A = ℕ} 0x4030000000000000 0x4010000000000000 = ap (to_bits binary64) ((h.each_fine 0 (omega arith)).covers_are 1 (omega arith)) in
    omega arith

-- both come from the first leaf
pub not-uneven : Demand3 (on_line 3 2) four (pair 0 1) → ⊥
unfolding all-open
not-uneven h = let e : ◌≡◌ {A = ℕ} 0 1 = (h.each_fine 0 (omega arith)).sent_shows 0 (omega arith) 1 (omega arith) in omega arith

-- whoever sends q rows of a share of more than q + 1 sends too few
too_few : (q top bottom : ℕ) → WholePart q (record { top = top; bottom = bottom }) ⊎ OneMore q (record { top = top; bottom = bottom }) → (q + 1) * bottom ≤ top → ⊥
too_few q top bottom h m = ⊎_elim (λ w. omega (arith, w.no_less)) (λ w. omega (arith, w.one_more, w.is_part.no_less, ap (λ (k : ℕ). (k + 1) * bottom) w.one_more)) h

-- with c = 3 the second level lists three rows; these are the leaves' own rows on the first level, and the counts of the first leaf's
-- and the second's
abbrev trio : List ℕ → ℕ → ℕ → Handed
trio own v w =
    record {
      lists = record {
        level_points = 0 ∷ 1 ∷ 2 ∷ 3 ∷ 0 ∷ 1 ∷ 2 ∷ replicate 9 9;
        internals = own ++ 0 ∷ 1 ∷ 2 ∷ replicate 9 9;
        domains = 0 ∷ v ∷ 0 ∷ 1 ∷ 1 ∷ 2 ∷ w ∷ 1 ∷ 1 ∷ 1 ∷ 4 ∷ 3 ∷ 2 ∷ 0 ∷ 0 ∷ replicate 110 9;
        boxes = line (0 ∷ 3 ∷ 0 ∷ 3 ∷ 7 ∷ 4 ∷ 0 ∷ 0 ∷ 0 ∷ replicate 66 9);
        borrowed = 2 ∷ 1 ∷ replicate 46 9;
      };
      counts = counts 2 (4 ∷ 3 ∷ 0 ∷ 0 ∷ []) (2 ∷ 1 ∷ 0 ∷ 0 ∷ []);
    }

is-trio : handed_back (on_line 3 3) four (nines 4) (float_room 4) (whole_room 4) (record_room 4) ≡ trio (0 ∷ 1 ∷ 2 ∷ 3 ∷ []) 2 2
unfolding all-open
is-trio = refl

-- the first leaf holds row 1 twice, and of three rows sent up two are its own: the second of these is no row of its own
pub not-sent-by-none : Demand3 (on_line 3 3) four (trio (1 ∷ 1 ∷ 2 ∷ 3 ∷ []) 2 2) → ⊥
unfolding all-open
not-sent-by-none h = let e : 1 ≤ 0 = (h.each_fine 0 (omega arith)).sends_own 0 (omega arith) 0 in omega arith

-- The first leaf is said to hold six rows and the second none. Of three rows sent up of four, a leaf of six has a share of
-- ((4 - 1) + (3 - 1)(6 - 1)) / (4 - 1), 13 thirds, and it sends three.
pub not-shared-out : Demand3 (on_line 3 3) four (trio (0 ∷ 1 ∷ 2 ∷ 3 ∷ []) 6 0) → ⊥
unfolding all-open
not-shared-out h = too_few 3 13 3 ((h.each_fine 0 (omega arith)).sends_share 0 (omega arith) (omega arith)) (omega arith)

-- of a share of 5/2 come 2 or 3, and of a share of 4/2 only 2
abbrev Sends : ℕ → ℕ → Type 0
Sends q top = WholePart q (record { top = top; bottom = 2 }) ⊎ OneMore q (record { top = top; bottom = 2 })

pub not-one-too-few : Sends 1 5 → ⊥
not-one-too-few h = ⊎_elim (λ w. omega (arith, w.no_less)) (λ w. omega (arith, w.one_more, w.is_part.no_less)) h

pub not-two-more : Sends 4 5 → ⊥
not-two-more h = ⊎_elim (λ w. omega (arith, w.at_most)) (λ w. omega (arith, w.one_more, w.is_part.at_most)) h

pub not-more-than-whole : Sends 3 4 → ⊥
not-more-than-whole h = ⊎_elim (λ w. omega (arith, w.at_most)) (λ w. omega (arith, w.one_more, w.not_whole)) h

-- the share of a leaf of 5 rows, of 10 rows on 3 nonempty leaves: 1 + 1 * 4 / 7 for 4 seats, and 2 * 5 / 10 for 2
pub shares : (share_of 4 3 10 5 ≡ record { top = 11; bottom = 7 }) × (share_of 2 3 10 5 ≡ record { top = 10; bottom = 10 })
unfolding all-open
shares = (refl, refl)
