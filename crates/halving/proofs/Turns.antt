-- The turns of the loop that parts the rows in two, for any test. Assumes nothing.
-- Holds: Parted, parted-first, parted-end, parted-row, parted-left, parted-right
use mathlib.Core.Path.{◌≡◌, refl, sym, ap}
use Prim.Native.Nat.{ℕ, ◌+◌, ◌≤◌, ◌<◌}
use native.Mathlib.Omega.{arith}
use mathlib.Core.Bool.{Bool, true, false, not}
use mathlib.Core.List.{List}
use lib.ListN.{length, get_or, set, take, length-append}
use lib.Seq.{take-length}
use Rattle.lists.specs.Lists.{put, keep}
use Rattle.lists.specs.Ascends.{All}
use Rattle.lists.proofs.Count.{keep-yes, keep-no}
use Rattle.lists.proofs.Put.{put-nil, put-snoc, get_d-put-after}
use Rattle.lists.proofs.All.{all-at}

-- The rows that pass move to the front of their list, the others to the room: m and z are the rows l and the room s after i rows, of
-- which lo passed and hi did not.
pub record Parted (p : ℕ → Bool) (l s m z : List ℕ) (lo hi i : ℕ) : Type 0 where
  pub fit : length s ≡ length l
  pub most : i ≤ length l
  pub both : lo + hi ≡ i
  pub to-left : lo ≡ length (keep p (take i l))
  pub to-right : hi ≡ length (keep (λ x. not (p x)) (take i l))
  pub rows_are : m ≡ put l 0 (keep p (take i l))
  pub room-is : z ≡ put s 0 (keep (λ x. not (p x)) (take i l))

pub parted-first : (p : ℕ → Bool) (l s : List ℕ) → length s ≡ length l → Parted p l s l s 0 0 0
unfolding keep
parted-first p l s f = record {
  fit = f;
  most = omega arith;
  both = refl;
  to-left = refl;
  to-right = refl;
  rows_are = sym (put-nil l 0);
  room-is = sym (put-nil s 0);
}

module _ {p : ℕ → Bool} {l s m z : List ℕ} {lo hi i : ℕ} (t : Parted p l s m z lo hi i) where
  abbrev q : ℕ → Bool
  q x = not (p x)

  pub parted-end : length l ≤ i → (lo ≡ length (keep p l)) × ((m ≡ put l 0 (keep p l)) × (z ≡ put s 0 (keep q l)))
  parted-end h =
      let e : length l ≡ i = omega (arith, t.most) in
      let w : take i l ≡ l = rw (← e) (take-length l) in
      (rw w at t.to-left, (rw w at t.rows_are, rw w at t.room-is))

  module _ (h : i < length l) where
    abbrev v : ℕ
    v = get_or l i 0

    -- the next row is still where it was
    row_read : get_or m i 0 ≡ v
    row_read = rw t.rows_are (get_d-put-after l 0 (keep p (take i l)) i 0 (omega arith) (omega (arith, t.to-left, t.both)))

    -- what holds of the rows holds of the row that is read
    pub parted-row : (P : ℕ → Type 0) → All P l → P (get_or m i 0)
    parted-row P f = rw row_read (all-at P l i 0 f h)

    pub parted-left : p (get_or m i 0) ≡ true → Parted p l s (set m lo (get_or m i 0)) z (lo + 1) hi (i + 1)
    parted-left y =
        let e : p v ≡ true = rw row_read at y in
        let a = keep-yes p l i 0 h e in
        let b = keep-no q l i 0 h (ap not e) in
        record {
          fit = t.fit;
          most = omega arith;
          both = omega (arith, t.both);
          to-left = rw (a, length-append) (omega (arith, t.to-left));
          to-right = rw b t.to-right;
          rows_are =
              rw (row_read, t.rows_are, a)
              (put-snoc l 0 (keep p (take i l)) v lo (omega (arith, t.to-left)) (omega (arith, t.both)));
          room-is = rw b t.room-is;
        }

    pub parted-right : p (get_or m i 0) ≡ false → Parted p l s m (set z hi (get_or m i 0)) lo (hi + 1) (i + 1)
    parted-right y =
        let e : p v ≡ false = rw row_read at y in
        let a = keep-no p l i 0 h e in
        let b = keep-yes q l i 0 h (ap not e) in
        record {
          fit = t.fit;
          most = omega arith;
          both = omega (arith, t.both);
          to-left = rw a t.to-left;
          to-right = rw (b, length-append) (omega (arith, t.to-right));
          rows_are = rw a t.rows_are;
          room-is =
              rw (row_read, t.room-is, b)
              (put-snoc s 0 (keep q (take i l)) v hi (omega (arith, t.to-right)) (omega (arith, t.both, t.fit)));
        }
