-- The outcome of a build from the verdict on it, for either build. Assumes nothing.
-- Holds: whole-lists, room-refused, room-accepted, written_is, lists-refused, lists-accepted, records-refused, records-accepted,
--   whole-records
use mathlib.Core.Path.{◌≡◌, refl}
use mathlib.Core.List.{List, map}
use Prim.Native.Nat.{ℕ}
use lib.ListN.{length}
use lib.Ieee.{Float}
use Rattle.lists.specs.Lists.{put}
use Rattle.lists.proofs.Put.{put-zero}
use Rattle.definition.specs.Tree.{Settings, Level}
use Rattle.definition.specs.Record.{whole_of, float_of, nodes_in, packed_cuts, packed_planes}
use Rattle.definition.specs.Packed.{packed_level_points, packed_internals, packed_domains, packed_boxes, packed_borrowed}
use Rattle.definition.specs.Refusals.{Refusal, Verdict, accepted, refused}
use Rattle.definition.specs.Outcome.{TreeLists, RecordLists, written, list_after, tree_lists_after, record_lists_after, RoomAfter}
use Rattle.tree_answer.specs.Answers.{lists_of}

-- ---- the lists one by one, and together
pub whole-lists : {p p' i i' d d' l l' : List ℕ} {b b' : List Float} → p ≡ p' → i ≡ i' → d ≡ d' → b ≡ b' → l ≡ l' → lists_of p i d b l ≡ lists_of p' i' d' b' l'
whole-lists e f g h k = rw (e, f, g, h, k)

-- ---- working room
pub room-refused : {A : Type 0} (v : Verdict) (r : Refusal) (l : List A) → v ≡ refused r → RoomAfter v l l
unfolding RoomAfter
room-refused v r l e = rw e refl

pub room-accepted : {A : Type 0} (v : Verdict) (old new : List A) → v ≡ accepted → length new ≡ length old → RoomAfter v old new
unfolding RoomAfter
room-accepted v old new e h = rw e h

-- ---- what an accepted call writes to the front of a list
pub written_is : {A : Type 0} (l xs : List A) → put l 0 xs ≡ list_after accepted xs l
unfolding list_after written
written_is l xs = put-zero l xs

module _ (v : Verdict) (tree : List Level) (old : TreeLists) where
  -- ---- a refused call: the lists as they were
  module _ (r : Refusal) (e : v ≡ refused r) where
    pub lists-refused : old ≡ tree_lists_after v tree old
    unfolding tree_lists_after list_after
    lists-refused = rw e

  -- ---- an accepted call: the tree's lists written over the fronts of the old ones
  module _ (e : v ≡ accepted) where
    pub lists-accepted :
        record {
          level_points = put old.level_points 0 (packed_level_points tree);
          internals = put old.internals 0 (packed_internals tree);
          domains = put old.domains 0 (packed_domains tree);
          boxes = put old.boxes 0 (packed_boxes tree);
          borrowed = put old.borrowed 0 (packed_borrowed tree);
        } ≡ tree_lists_after v tree old
    unfolding tree_lists_after
    lists-accepted =
        rw (
          e,
          ← written_is old.level_points (packed_level_points tree),
          ← written_is old.internals (packed_internals tree),
          ← written_is old.domains (packed_domains tree),
          ← written_is old.boxes (packed_boxes tree),
          ← written_is old.borrowed (packed_borrowed tree),
        )

-- ---- the two lists of the records
module _ (v : Verdict) (s : Settings) (cs : List Float) (tree : List Level) (old : RecordLists) where
  pub records-refused : (r : Refusal) → v ≡ refused r → old ≡ record_lists_after v s cs tree old
  unfolding record_lists_after list_after
  records-refused r e = rw e

  pub records-accepted : v ≡ accepted
      → record { cuts = put old.cuts 0 (map whole_of (nodes_in s cs tree)); planes = put old.planes 0 (map float_of (nodes_in s cs tree)) } ≡ record_lists_after v s cs tree old
  unfolding record_lists_after packed_cuts packed_planes
  records-accepted e =
      rw (e, ← written_is old.cuts (map whole_of (nodes_in s cs tree)), ← written_is old.planes (map float_of (nodes_in s cs tree)))

pub whole-records : {c c' : List ℕ} {p p' : List Float} → c ≡ c' → p ≡ p' → ◌≡◌ {A = RecordLists} (record { cuts = c; planes = p }) (record { cuts = c'; planes = p' })
whole-records e f = rw (e, f)
