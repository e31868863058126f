-- Bytes that a writer appends one part after the other. Assumes nothing.
-- Holds: nothing_yet, appended, spelt_as, takes_as, takes_first, takes_next, ◌▸◌, Left, all_left, left_as, takes_part, part_done,
--   nothing_left
use mathlib.Core.Path.{◌≡◌, refl, sym, ap, ◌∙◌}
use Prim.Native.Nat.{ℕ, ◌+◌, ◌≤◌}
use native.Mathlib.Nat.{add-zero, add_assoc}
use native.Mathlib.Omega.{arith}
use mathlib.Core.List.{List, [], ◌∷◌, ◌++◌, append_assoc, append-nil}
use lib.ListN.{length, length-append}
use Rattle.lists.specs.Lists.{joined, put}
use Rattle.lists.proofs.Joined.{joined-nil, joined-cons}
use Rattle.lists.proofs.Put.{put-nil, put-next-at, length-put}
use Rattle.bytes_out.specs.declared.writer.Writer.{Writer}
use Rattle.bytes_out.specs.Writing.{Takes, Appends}

infixl 10 ◌▸◌
pub nothing_yet : (w : Writer) → w.at ≤ length w.bytes.now → Appends w w []
nothing_yet w h = record { list = refl; long = refl; place = sym (add-zero w.at); within = h; same = sym (put-nil w.bytes.now w.at) }

-- by the list that the code wrote, and the place that it left
pub appended : (w v : Writer) (xs : List ℕ) → Takes w xs → v.bytes.ghost_name ≡ w.bytes.ghost_name → v.at ≡ w.at + length xs → v.bytes.now ≡ put w.bytes.now w.at xs → Appends w v xs
appended w v xs h list place same =
    let long : length v.bytes.now ≡ length w.bytes.now = ap length same ∙ length-put w.bytes.now w.at xs h.fits in
    record { list = list; long = long; place = place; within = omega (arith, h.fits); same = same }

-- the same bytes, spelt in another way
pub spelt_as : {w v : Writer} {xs ys : List ℕ} → xs ≡ ys → Appends w v xs → Appends w v ys
spelt_as e a = rw e at a

pub takes_as : {w : Writer} {xs ys : List ℕ} → xs ≡ ys → Takes w xs → Takes w ys
takes_as e h = rw e at h

-- room for both parts is room for the first, and for the second behind it
pub takes_first : {w : Writer} (xs ys : List ℕ) → Takes w (xs ++ ys) → Takes w xs
takes_first {w} xs ys h = record { fits = omega (arith, h.fits, length-append xs ys) }

pub takes_next : {w v : Writer} {xs ys : List ℕ} → Appends w v xs → Takes w (xs ++ ys) → Takes v ys
takes_next {w} {v} {xs} {ys} a h = record { fits = omega (arith, h.fits, a.place, a.long, length-append xs ys) }

-- one part after the other is both
pub ◌▸◌ : {w v u : Writer} {xs ys : List ℕ} → Appends w v xs → Appends v u ys → Appends w u (xs ++ ys)
◌▸◌ {w} {v} {u} {xs} {ys} a b =
    record {
      list = b.list ∙ a.list;
      long = b.long ∙ a.long;
      place = b.place ∙ rw (a.place, length-append xs ys, add_assoc);
      within = b.within;
      same = b.same ∙ ap (λ (z : List ℕ). put z v.at ys) a.same ∙ put-next-at w.bytes.now w.at xs ys v.at (omega (arith, a.long, a.place, a.within)) (sym a.place);
    }

-- ---- a loop that appends part by part
-- of the bytes `all`, to be appended to w, the parts `rest` are left where it has become v
pub record Left (w v : Writer) (all : List ℕ) (rest : List (List ℕ)) : Type 0 where
  pub done : List ℕ
  pub split : all ≡ done ++ joined rest
  pub wrote : Appends w v done
  pub room : Takes w all

pub all_left : {w : Writer} {all : List ℕ} (rest : List (List ℕ)) → all ≡ joined rest → Takes w all → Left w w all rest
all_left {w} rest e h = record { done = []; split = e; wrote = nothing_yet w (omega (arith, h.fits)); room = h }

-- the same rest by other parts
pub left_as : {w v : Writer} {all : List ℕ} {rest : List (List ℕ)} (parts : List (List ℕ)) → joined rest ≡ joined parts → Left w v all rest → Left w v all parts
left_as parts e l = record { done = l.done; split = l.split ∙ ap (λ (z : List ℕ). l.done ++ z) e; wrote = l.wrote; room = l.room }

module _ {w v : Writer} {all x : List ℕ} {rest : List (List ℕ)} (l : Left w v all (x ∷ rest)) where
  next_split : all ≡ l.done ++ x ++ joined rest
  next_split = l.split ∙ ap (λ (z : List ℕ). l.done ++ z) (joined-cons x rest) ∙ sym (append_assoc l.done x (joined rest))

  -- there is room for the next part
  pub takes_part : Takes v x
  takes_part = takes_next l.wrote (takes_first (l.done ++ x) (joined rest) (takes_as next_split l.room))

  -- and when it is appended
  pub part_done : {u : Writer} → Appends v u x → Left w u all rest
  part_done a = record { done = l.done ++ x; split = next_split; wrote = l.wrote ▸ a; room = l.room }

pub nothing_left : {w v : Writer} {all : List ℕ} → Left w v all [] → Appends w v all
nothing_left l = spelt_as (sym (l.split ∙ ap (λ (z : List ℕ). l.done ++ z) joined-nil ∙ append-nil l.done)) l.wrote
