-- A whole domain record that is fetched at a place of a file: what stands in it, and where. Assumes nothing.
-- Holds: Found, stands, found, length-floats-read, all_read, cover-read, row-back, own-fits, borrowed-fits, domain-written
use Rattle.std.specs.Prelude.{Option, Some, is_some}
use mathlib.Core.Path.{◌≡◌, refl, sym, ap, ap₂, ◌∙◌}
use mathlib.Core.Bool.{Bool, true, false, cond}
use mathlib.Core.List.{List, [], ◌∷◌, ◌++◌}
use Prim.Native.Nat.{ℕ, ◌+◌, ◌-◌, ◌*◌, ◌≤◌}
use native.Mathlib.Omega.{arith}
use lib.ListN.{length, drop, replicate, length-replicate, length-append}
use borrow.Rule.Slice.PartMut.{put_mid}
use lib.Ieee.{Float}
use Rattle.lists.specs.Lists.{put}
use Rattle.lists.proofs.Put.{put-next-at, put_whole, part-back}
use Rattle.lists.proofs.Joined.{joined-one}
use Rattle.definition.specs.Number.{plus_zero}
use Rattle.definition.specs.Points.{box_width_lem}
use Rattle.definition.specs.Tree.{Leaf}
use Rattle.definition.specs.Packed.{row_floats_lem, leaf_floats, stretches}
use Rattle.packed.specs.Reading.{Packed, packed}
use Rattle.packed.specs.Rows.{put_row_lem}
use Rattle.formats.specs.Bytes.{number_size, number_at, numbers_at, float_size, floats_at, whole}
use Rattle.stored.specs.File.{domain_mark}
use Rattle.stored.specs.Stored.{bounds_place, depth_place, leaf_in, leaf_size}
use Rattle.file_reader.specs.declared.Fetched.{Fetched}
use Rattle.file_reader.specs.Fetch.{record_floats_lem, IsFetched}
use Rattle.file_reader.proofs.Fetches.{number-here, parts_within}
use Rattle.file_reader.proofs.LastFloats.{depth-place, leaf-size, fine-floats, coarse-floats}
use Rattle.load_lists.specs.Places.{ahead, domain_at_lem, floats_read, Room, Written}
use Rattle.load_lists.specs.declared.Cursor.{Cursor}
use Rattle.bytes_in.proofs.Fields.{length-numbers-at, length-floats-at, numbers-here, floats-here}

-- ---- the domain at a cursor
pub record Found (d : ℕ) (coarse : Bool) (file : List ℕ) (c : Cursor) (r : Fetched) : Type 0 where
  pub own : numbers_at r.own r.own_at file ≡ (domain_at_lem d coarse c file).own
  pub borrowed : numbers_at r.borrowed r.borrowed_at file ≡ (domain_at_lem d coarse c file).borrowed
  pub floats : floats_read d coarse r.bounds_at file ≡ leaf_floats (domain_at_lem d coarse c file)
  pub depth : number_at r.depth_at file ≡ (domain_at_lem d coarse c file).depth
  pub own-many : r.own ≡ length (domain_at_lem d coarse c file).own
  pub borrowed-many : r.borrowed ≡ length (domain_at_lem d coarse c file).borrowed
  pub next : r.next ≡ c.at + leaf_size d coarse (ahead c file)
  pub own-within : r.own_at + number_size * r.own ≤ length file
  pub borrowed-within : r.borrowed_at + number_size * r.borrowed ≤ length file

-- the floats of a record, at a place of the file
floats-are : (d : ℕ) (coarse : Bool) (bs : List ℕ) → floats_read d coarse (bounds_place bs) bs ≡ leaf_floats (leaf_in d coarse bs)
floats-are d true bs = sym (coarse-floats d bs)
floats-are d false bs = sym (fine-floats d bs)

floats-there : (d : ℕ) (coarse : Bool) (file : List ℕ) (at k : ℕ) → floats_read d coarse (at + k) file ≡ floats_read d coarse k (drop at file)
floats-there d coarse file at k =
    ap₂ (λ (xs ys : List Float). cond coarse (replicate (box_width_lem d) plus_zero ++ xs) ys) (floats-here at file 1 k) (floats-here at file (row_floats_lem d) k)

-- where a domain stands whole, one is found
pub stands : (d : ℕ) (coarse : Bool) (file : List ℕ) (c : Cursor) (floats : ℕ) (o : Option Fetched) → floats ≡ record_floats_lem d coarse
    → IsFetched (ahead c file) c.at (float_size * floats) o → whole domain_mark (leaf_size d coarse (ahead c file)) (ahead c file) ≡ true → is_some o ≡ true
stands d coarse file c floats o e f w =
    let size : bounds_place (ahead c file) + float_size * floats + number_size ≡ leaf_size d coarse (ahead c file) = rw e (sym (leaf-size d coarse (ahead c file))) in
    f.stands ∙ rw size w

pub found : (d : ℕ) (coarse : Bool) (file : List ℕ) (c : Cursor) (floats : ℕ) (r : Fetched) → floats ≡ record_floats_lem d coarse
    → IsFetched (ahead c file) c.at (float_size * floats) (Some r) → Found d coarse file c r
unfolding leaf_in
found d coarse file c floats r e f =
    let bs = ahead c file in
    let size : bounds_place bs + float_size * floats + number_size ≡ leaf_size d coarse bs = rw e (sym (leaf-size d coarse bs)) in
    let p = f.parts in
    let place : r.depth_at ≡ c.at + depth_place d coarse bs = omega (arith, p.depth_at, e, depth-place d coarse bs) in
    let inside = parts_within file c.at (float_size * floats) r f in
    record {
      own = rw (p.own, p.own_at) (numbers-here c.at file _ _);
      borrowed = rw (p.borrowed, p.borrowed_at) (numbers-here c.at file _ _);
      floats = rw p.bounds_at (floats-there d coarse file c.at (bounds_place bs)) ∙ floats-are d coarse bs;
      depth = ap (λ (k : ℕ). number_at k file) place ∙ number-here c.at file (depth_place d coarse bs);
      own-many = p.own ∙ sym (length-numbers-at _ _ bs);
      borrowed-many = p.borrowed ∙ sym (length-numbers-at _ _ bs);
      next = p.next ∙ omega (arith, size);
      own-within = omega arith;
      borrowed-within = omega arith;
    }

-- ---- its floats
pub length-floats-read : (d : ℕ) (coarse : Bool) (at : ℕ) (file : List ℕ) → length (floats_read d coarse at file) ≡ row_floats_lem d
length-floats-read d true at file =
    length-append (replicate (box_width_lem d) plus_zero) (floats_at 1 at file)
    ∙ ap₂ (λ (i j : ℕ). i + j) (length-replicate (box_width_lem d) plus_zero) (length-floats-at 1 at file)
length-floats-read d false at file = length-floats-at (row_floats_lem d) at file

-- by what is read of them: all of a fine domain's row; behind zeros the coarse one's cover
module _ (d : ℕ) (coarse : Bool) (at : ℕ) (file : List ℕ) (B B₁ : List Float) (long : length B ≡ row_floats_lem d) where
  pub all_read : coarse ≡ false → B₁ ≡ floats_at (length B) at file → B₁ ≡ floats_read d coarse at file
  all_read e h = rw (e, ← long) h

  pub cover-read : (w : ℕ) (Z : List Float) → coarse ≡ true → w ≡ box_width_lem d → Z ≡ put B 0 (replicate w plus_zero)
      → B₁ ≡ put Z w (floats_at 1 at file) → B₁ ≡ floats_read d coarse at file
  cover-read w Z e ew z h =
      rw (e, ← ew)
      (h ∙ ap (λ (l : List Float). put l w (floats_at 1 at file)) z
      ∙ put-next-at B 0 (replicate w plus_zero) (floats_at 1 at file) w (omega arith) (omega (arith, length-replicate w plus_zero))
      ∙ put_whole B (replicate w plus_zero ++ floats_at 1 at file)
      (omega (arith, long, ew, length-append (replicate w plus_zero) (floats_at 1 at file), length-replicate w plus_zero, length-floats-at 1 at file)))

-- and they come back to their list
pub row-back : (d : ℕ) (coarse : Bool) (at : ℕ) (file : List ℕ) (boxes : List Float) (k n : ℕ) → n ≡ row_floats_lem d → {ys : List Float} → ys ≡ floats_read d coarse at file
    → put_mid k (k + n - k) boxes ys ≡ put boxes k (floats_read d coarse at file)
row-back d coarse at file boxes k n e {ys} h = part-back boxes k n ys (ap length h ∙ length-floats-read d coarse at file ∙ sym e) ∙ ap (put boxes k) h

-- ---- its rows and its floats in the lists
module _ {d : ℕ} {coarse : Bool} {file : List ℕ} {c : Cursor} {r : Fetched} (h : Found d coarse file c r) where
  abbrev this : Leaf
  this = domain_at_lem d coarse c file

  module _ {p : Packed} (m : Room (domain_at_lem d coarse c file ∷ []) c p) where
    pub own-fits : c.own + r.own ≤ length p.internals
    own-fits = omega (arith, h.own-many, m.internals, ap length (joined-one this.own))

    pub borrowed-fits : c.borrowed + r.borrowed ≤ length p.borrowed
    borrowed-fits = omega (arith, h.borrowed-many, m.borrowed, ap length (joined-one this.borrowed))

  pub domain-written : (I D : List ℕ) (B : List Float) (L I₁ D₁ : List ℕ) (B₁ : List Float) (L₁ : List ℕ) (e k : ℕ) → e ≡ number_at r.depth_at file → k ≡ row_floats_lem d * c.row
      → I₁ ≡ put I c.own (numbers_at r.own r.own_at file) → L₁ ≡ put L c.borrowed (numbers_at r.borrowed r.borrowed_at file)
      → D₁ ≡ put_row_lem D c.row (record { own_start = c.own; own_count = r.own; borrowed_start = c.borrowed; borrowed_count = r.borrowed; depth = e })
      → B₁ ≡ put B k (floats_read d coarse r.bounds_at file)
      → Written (domain_at_lem d coarse c file ∷ []) c (record { at = r.next; points = c.points; own = c.own + r.own; borrowed = c.borrowed + r.borrowed; row = c.row + 1 })
      (packed I D B L d) (packed I₁ D₁ B₁ L₁ d)
  unfolding stretches
  domain-written I D B L I₁ D₁ B₁ L₁ e k ee ek eI eL eD eB = record {
    own_end = rw (joined-one this.own, h.own-many);
    row_end = refl;
    borrowed_end = rw (joined-one this.borrowed, h.borrowed-many);
    internals = rw (joined-one this.own, ← h.own) eI;
    domains = rw (← h.own-many, ← h.borrowed-many, ← h.depth, ← ee) eD;
    boxes = rw (joined-one (leaf_floats this), ← h.floats, ← ek) eB;
    borrowed = rw (joined-one this.borrowed, ← h.borrowed) eL;
  }
