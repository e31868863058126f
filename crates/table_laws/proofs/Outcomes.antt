-- What a verdict makes of a value, of a lent list and of the lists of the records, and what stands in a list that was written to at its
-- front. Assumes nothing.
-- Holds: accepted-or, value-accepted, value-refused, list-accepted, same_outcome, node_lists, by-nodes, node-lists-refused,
--   written-front, written-rest, length-written, get_d-written, written_same
use mathlib.Core.Path.{◌≡◌, refl, ap, ap₂, ◌∙◌}
use mathlib.Core.Logic.{◌⊎◌, inl, inr}
use mathlib.Core.List.{List, map}
use Prim.Native.Nat.{ℕ, ◌≤◌, ◌<◌}
use native.Mathlib.Omega.{arith}
use lib.ListN.{length, get_or, take, drop, length-append, length-drop, take-append-drop, get_or-append}
use lib.Ieee.{Float}
use lib.Seq.{length-take-le, take-append_seam, drop-append_seam}
use Rattle.definition.specs.Tree.{Settings, Level}
use Rattle.definition.specs.Record.{Node, whole_of, float_of, nodes_in, packed_cuts, packed_planes}
use Rattle.definition.specs.Refusals.{Verdict, accepted, refused, Refusal}
use Rattle.definition.specs.Outcome.{value_of, written, list_after, RecordLists, record_lists_after}

-- ---- a verdict is accepted, or a refusal
pub accepted-or : (v : Verdict) → (v ≡ accepted) ⊎ ((r : Refusal) × (v ≡ refused r))
accepted-or accepted = inl refl
accepted-or (refused r) = inr (r, refl)

module _ {A : Type 0} (v : Verdict) where
  pub value-accepted : (x y : A) → v ≡ accepted → value_of v x y ≡ x
  unfolding value_of
  value-accepted x y e = rw e

  pub value-refused : (x y : A) (r : Refusal) → v ≡ refused r → value_of v x y ≡ y
  unfolding value_of
  value-refused x y r e = rw e

  pub list-accepted : (xs old : List A) → v ≡ accepted → list_after v xs old ≡ written xs old
  unfolding list_after
  list-accepted xs old e = rw e

-- what is built counts only where the call is accepted
pub same_outcome : {A B : Type 0} (f : Verdict → B → A) → ((r : Refusal) (x y : B) → f (refused r) x ≡ f (refused r) y) → (v w : Verdict) (x y : B) → w ≡ v → (v ≡ accepted → y ≡ x) → f w y ≡ f v x
same_outcome f refuses accepted w x y e same = ap₂ f e (same refl)
same_outcome {B = B} f refuses (refused r) w x y e same = ap (λ (u : Verdict). f u y) e ∙ refuses r y x

-- ---- the two lists of the records: what becomes of them goes by the nodes
abbrev pub node_lists : Verdict → List Node → RecordLists → RecordLists
node_lists v ns old = record { cuts = list_after v (map whole_of ns) old.cuts; planes = list_after v (map float_of ns) old.planes }

pub by-nodes : (v : Verdict) (s : Settings) (cs : List Float) (tree : List Level) (old : RecordLists) → record_lists_after v s cs tree old ≡ node_lists v (nodes_in s cs tree) old
unfolding record_lists_after packed_cuts packed_planes
by-nodes v s cs tree old = refl

-- a refusal leaves them as found
pub node-lists-refused : (v : Verdict) (ns : List Node) (old : RecordLists) (r : Refusal) → v ≡ refused r → node_lists v ns old ≡ old
unfolding list_after
node-lists-refused v ns old r e = rw e

-- ---- a list with xs written to its front
module _ {A : Type 0} (xs old : List A) where
  pub written-front : take (length xs) (written xs old) ≡ xs
  unfolding written
  written-front = take-append_seam xs (drop (length xs) old)

  pub written-rest : drop (length xs) (written xs old) ≡ drop (length xs) old
  unfolding written
  written-rest = drop-append_seam xs (drop (length xs) old)

  pub length-written : length xs ≤ length old → length (written xs old) ≡ length old
  unfolding written
  length-written h = omega (arith, length-append xs (drop (length xs) old), length-drop (length xs) old)

  pub get_d-written : (i : ℕ) (z : A) → i < length xs → get_or (written xs old) i z ≡ get_or xs i z
  unfolding written
  get_d-written i z h = get_or-append xs (drop (length xs) old) z i h

-- what stood there already changes nothing
pub written_same : {A : Type 0} (k : ℕ) (l : List A) → k ≤ length l → written (take k l) l ≡ l
unfolding written
written_same k l h = rw (length-take-le k l h) (take-append-drop k l)
