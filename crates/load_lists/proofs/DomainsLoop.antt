-- The loop over the domains of a level: those before the cursor are written. Assumes nothing.
-- Holds: Inv, domains-start, domains-end, domains-written, domain-stands, domain-room, domains-next
use mathlib.Core.Path.{◌≡◌, refl, sym, ap, ◌∙◌}
use mathlib.Core.Bool.{Bool, true, ◌&&◌}
use mathlib.Core.List.{List, [], ◌∷◌, ◌++◌, append_assoc, append-nil}
use Prim.Native.Nat.{ℕ, ◌+◌, ◌-◌, ◌<◌}
use native.Mathlib.Nat.{mul-zero}
use lib.ListN.{drop}
use lib.Seq.{drop-drop}
use Rattle.lists.specs.Lists.{joined}
use Rattle.lists.proofs.Tests.{and-fst, and-snd}
use Rattle.definition.specs.Tree.{Leaf}
use Rattle.definition.specs.Packed.{row_floats_lem}
use Rattle.packed.specs.Reading.{Packed}
use Rattle.formats.specs.Bytes.{whole}
use Rattle.stored.specs.File.{domain_mark}
use Rattle.stored.specs.Stored.{leaf_size, leaves_at_lem, after_leaves}
use Rattle.tree_tests.specs.Whole.{leaves_whole}
use Rattle.load_lists.specs.declared.Cursor.{Cursor}
use Rattle.load_lists.specs.Places.{ahead, domain_at_lem, domains_at, Room, Written}
use Rattle.load_lists.proofs.Ahead.{one-wide, leaves-first, whole-first, after_first}
use Rattle.load_lists.proofs.Writing.{Wide, wide-append, written_none, room-front, room_after, written-append}

-- ---- THE INVARIANT: c₀ and p are the cursor and the lists before the loop, c and q are now, and `left` domains stand ahead
pub record Inv (d : ℕ) (coarse : Bool) (m : ℕ) (file : List ℕ) (c₀ c : Cursor) (p q : Packed) (left : ℕ) : Type 0 where
  pub done : List Leaf
  pub all : done ++ domains_at d coarse left c file ≡ domains_at d coarse m c₀ file
  pub wide : Wide d done
  pub written : Written done c₀ c p q
  pub stand : leaves_whole d coarse left (ahead c file) ≡ true
  pub after : after_leaves d coarse left (ahead c file) ≡ after_leaves d coarse m (ahead c₀ file)
  pub points : c.points ≡ c₀.points

pub domains-start : (d : ℕ) (coarse : Bool) (m : ℕ) (file : List ℕ) (c : Cursor) (p : Packed) → leaves_whole d coarse m (ahead c file) ≡ true → Inv d coarse m file c c p p m
unfolding joined
domains-start d coarse m file c p h = record {
  done = [];
  all = refl;
  wide = sym (mul-zero (row_floats_lem d));
  written = written_none c p;
  stand = h;
  after = refl;
  points = refl;
}

module _ {d : ℕ} {coarse : Bool} {m : ℕ} {file : List ℕ} {c₀ c : Cursor} {p q : Packed} {left : ℕ} (v : Inv d coarse m file c₀ c p q left) where
  -- ---- none is left
  none_left : left ≡ 0 → (v.done ≡ domains_at d coarse m c₀ file) × (ahead c file ≡ after_leaves d coarse m (ahead c₀ file))
  unfolding leaves_at_lem after_leaves
  none_left e = (sym (append-nil v.done) ∙ rw e at v.all, rw e at v.after)

  pub domains-end : left ≡ 0 → (ahead c file ≡ after_leaves d coarse m (ahead c₀ file)) × (c.points ≡ c₀.points)
  domains-end e = ((none_left e).1, v.points)

  pub domains-written : left ≡ 0 → Written (domains_at d coarse m c₀ file) c₀ c p q
  domains-written e = rw (← (none_left e).0) v.written

  -- ---- one more
  module _ (same : q.dimension ≡ p.dimension) (axes : p.dimension ≡ d) (room : Room (domains_at d coarse m c₀ file) c₀ p) (some : 0 < left) where
    abbrev this : Leaf
    this = domain_at_lem d coarse c file

    abbrev rest : List Leaf
    rest = leaves_at_lem d coarse (left - 1) (drop (leaf_size d coarse (ahead c file)) (ahead c file))

    whole-both : (whole domain_mark (leaf_size d coarse (ahead c file)) (ahead c file) && leaves_whole d coarse (left - 1) (drop (leaf_size d coarse (ahead c file)) (ahead c file))) ≡ true
    whole-both = sym (whole-first d coarse left (ahead c file) some) ∙ v.stand

    pub domain-stands : whole domain_mark (leaf_size d coarse (ahead c file)) (ahead c file) ≡ true
    domain-stands = and-fst (whole domain_mark (leaf_size d coarse (ahead c file)) (ahead c file)) (leaves_whole d coarse (left - 1) (drop (leaf_size d coarse (ahead c file)) (ahead c file))) whole-both

    all-now : v.done ++ this ∷ rest ≡ domains_at d coarse m c₀ file
    all-now = ap (λ (fs : List Leaf). v.done ++ fs) (sym (leaves-first d coarse left (ahead c file) some)) ∙ v.all

    all-next : (v.done ++ this ∷ []) ++ rest ≡ domains_at d coarse m c₀ file
    all-next = append_assoc v.done (this ∷ []) rest ∙ all-now

    wide : Wide p.dimension v.done
    wide = rw axes v.wide

    room-now : Room (this ∷ rest) c q
    room-now = room_after v.done (this ∷ rest) same wide (rw all-now room) v.written

    pub domain-room : Room (domain_at_lem d coarse c file ∷ []) c q
    domain-room = room-front (this ∷ []) rest room-now

    pub domains-next : (r : Cursor) (t : Packed) → r.at ≡ c.at + leaf_size d coarse (ahead c file) → r.points ≡ c.points → Written (domain_at_lem d coarse c file ∷ []) c r q t
        → Inv d coarse m file c₀ r p t (left - 1)
    domains-next r t at points w =
        let there : ahead r file ≡ drop (leaf_size d coarse (ahead c file)) (ahead c file) =
        ap (λ (n : ℕ). drop n file) at ∙ sym (drop-drop (leaf_size d coarse (ahead c file)) c.at file) in
        record {
          done = v.done ++ this ∷ [];
          all = rw there all-next;
          wide = wide-append d v.done (this ∷ []) v.wide (one-wide d coarse (ahead c file));
          written = written-append v.done (this ∷ []) same wide (room-front (v.done ++ this ∷ []) rest (rw all-next room)) v.written w;
          stand = rw there (and-snd (whole domain_mark (leaf_size d coarse (ahead c file)) (ahead c file)) (leaves_whole d coarse (left - 1) (drop (leaf_size d coarse (ahead c file)) (ahead c file))) whole-both);
          after = rw there (sym (after_first d coarse left (ahead c file) some)) ∙ v.after;
          points = points ∙ v.points;
        }
