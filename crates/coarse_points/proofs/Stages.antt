-- How the steps fit together: sizes, quotas, what each leaf sends, and the sorted rows behind the active ones. Assumes nothing.
-- Holds: counts_all, leaves-fit, sorted-up, covers_up, lent-good, lent-size, part-between, part-size, leaf_room, leaf-end,
--   leaf-list, all-sent
use mathlib.Core.Path.{◌≡◌, refl, sym, ap, ◌∙◌}
use mathlib.Core.List.{List, [], ◌++◌, map, zip_with, map-map}
use Prim.Native.Nat.{ℕ, ◌+◌, ◌-◌, ◌≤◌, ◌<◌}
use native.Mathlib.Nat.{zero-add}
use native.Mathlib.Omega.{arith}
use lib.ListN.{length, get_or, take, drop}
use lib.Seq.{take_at, drop_at}
use lib.Ieee.{Float}
use Rattle.lists.specs.Lists.{total, from, joined, keep, member, part, put}
use Rattle.lists.specs.Ascends.{All}
use Rattle.lists.proofs.All.{all-at, joined-all}
use Rattle.lists.proofs.Put.{length_part, part-lent, put_next, put_whole}
use Rattle.lists.proofs.From.{map-below-same, length-map-from, get_d-map-below}
use Rattle.lists.proofs.Joined.{length-joined}
use Rattle.lists.proofs.Sums.{sum-below-suc, sum-below-part, sum-below-at, total-index}
use Rattle.lists.specs.Times.{times, Once}
use Rattle.lists.proofs.Ascends.{ascends-once}
use Rattle.lists.specs.Same.{Same}
use Rattle.lists.proofs.Same.{same_length, same-each, same-times, same_once}
use Rattle.definition.specs.Quotas.{quotas, quotas_for}
use Rattle.definition.specs.Sampling.{sent_by}
use Rattle.definition.specs.Tree.{next_active}
use Rattle.definition.specs.Fair.{Fair}
use Rattle.definition.proofs.Fairness.{fair-for, quotas-held}
use Rattle.rows.specs.Rows.{GoodRow, GoodRows}
use Rattle.sort.specs.Order.{Sorted}
use Rattle.packed.specs.Reading.{own_start, own_count, own_at, read_own}
use Rattle.packed.proofs.OwnRows.{read_length, read_at}
use Rattle.coarse_points.specs.Sent.{sent_rows, sent_covers, counts_at, sent_at, covers_at, SendsUp, LeafFits, LeavesFit}
use Rattle.coarse_points.proofs.Sending.{sent-next, sent-zip, sent-many, sent-times, sorted-next}
use Rattle.coarse_points.proofs.Covering.{covers-zip}

module _ (d : ℕ) (cs : List Float) (active I D : List ℕ) (first m : ℕ) (s : SendsUp d cs active I D first m) where
  abbrev own : List (List ℕ)
  own = read_own I D first m

  abbrev counts : List ℕ
  counts = counts_at D first m

  -- ---- the leaves' sizes
  sizes-read : map length own ≡ counts
  unfolding read_own
  sizes-read =
      map-map length (λ l. own_at I D (first + l)) (from 0 m)
      ∙ map-below-same (λ l. length (own_at I D (first + l))) (λ l. own_count D (first + l)) m
      (λ l h. length_part I (own_start D (first + l)) (own_count D (first + l)) (s.leaves.inside l h))

  -- the leaves share out the active rows
  pub counts_all : total (counts_at D first m) ≡ length active
  counts_all = ap total (sym sizes-read) ∙ sym (length-joined own) ∙ same_length (joined own) active s.leaves.shared

  count-few : (l : ℕ) → l < m → own_count D (first + l) ≤ length active
  count-few l h = omega (arith, counts_all, sum-below-at l m (λ l. own_count D (first + l)) h)

  own-all : (P : ℕ → Type 0) → All P active → (l : ℕ) → l < m → All P (own_at I D (first + l))
  own-all P h l k =
      let a = joined-all P own (same-each P (joined own) active s.leaves.shared h) in
      rw (read_at I D first m l k) at (all-at (λ z. All P z) own l [] a (omega (arith, read_length I D first m)))

  own-good : (l : ℕ) → l < m → GoodRows d cs (own_at I D (first + l))
  own-good l h =
      record {
        ascends = s.ascend l h;
        each = own-all (GoodRow d cs) s.rows.each l h;
        few =
            omega (arith, count-few l h, s.rows.few, length_part I (own_start D (first + l)) (own_count D (first + l)) (s.leaves.inside l h));
      }

  own-once : Once (joined own)
  own-once = same_once (joined own) active s.leaves.shared (ascends-once active s.leaves.ascends)

  -- ---- `size` seats, shared out
  module _ (size : ℕ) (held : size ≤ length active) (shares : List ℕ) (e : shares ≡ quotas_for (counts_at D first m) size) where
    seats : size ≤ total counts
    seats = omega (arith, counts_all)

    fair : Fair counts size shares
    fair = rw e (fair-for counts size seats)

    many : length shares ≡ m
    many = fair.entries ∙ length-map-from (λ l. own_count D (first + l)) 0 m

    as-quotas : quotas counts size ≡ shares
    as-quotas = quotas-held counts size seats ∙ sym e

    within : (l : ℕ) → l < m → get_or shares l 0 ≤ own_count D (first + l)
    within l h = omega (arith, fair.within l, get_d-map-below (λ l. own_count D (first + l)) m l 0 h)

    sum : total (map (λ l. get_or shares l 0) (from 0 m)) ≡ size
    sum = ap (λ (k : ℕ). total (map (λ l. get_or shares l 0) (from 0 k))) (sym many) ∙ sym (total-index shares) ∙ fair.sum

    -- what sampling asks
    pub leaves-fit : (k : ℕ) → length active ≤ k → LeavesFit d cs I D first m shares size k
    leaves-fit k g = record {
      each = λ l h. record {
        axes = s.axes;
        row = omega (arith, s.leaves.rows);
        stretch = s.leaves.inside l h;
        rows = own-good l h;
        floats = omega (arith, count-few l h);
        within = within l h;
      };
      listed = many;
      fits = sum;
    }

    -- ---- what is sent, and what becomes of it
    abbrev sent : List ℕ
    sent = sent_at d cs I D first shares m

    as-defined : sent ≡ joined (zip_with (sent_by d cs) own shares)
    as-defined = sent-zip d cs I D first shares m many

    sent-some : (r : ℕ) → times r sent ≤ times r active
    sent-some r =
        let w : (i : ℕ) → i < length own → get_or shares i 0 ≤ get_or (map length own) i 0 = λ i l. rw sizes-read (fair.within i) in
        omega (arith, ap (times r) as-defined, sent-times d cs own shares w own-once r, same-times (joined own) active s.leaves.shared r)

    up_is : keep (λ i. member i sent) active ≡ sent_rows d cs active own size
    unfolding sent_rows next_active
    up_is = rw (as-defined, sizes-read, as-quotas)

    pub sorted-up : (ys : List ℕ) → Sorted (λ x y. x ≤ y) ys → Same ys (sent_at d cs I D first shares m) → ys ≡ sent_rows d cs active (read_own I D first m) size
    sorted-up ys o h = sorted-next active s.leaves.ascends sent sent-some ys o h ∙ up_is

    pub covers_up : (xs : List Float) → xs ≡ covers_at d cs I D first shares m → xs ≡ sent_covers d cs (read_own I D first m) size
    unfolding sent_covers
    covers_up xs h = h ∙ covers-zip d cs I D first shares m shares many (λ l b. refl) ∙ rw (sizes-read, as-quotas)

-- ---- one leaf's own rows, as they are lent
module _ (d : ℕ) (cs : List Float) (I D : List ℕ) (r quota k : ℕ) (f : LeafFits d cs I D r quota k) (rows : List ℕ) (e : rows ≡ own_at I D r) where
  pub lent-good : GoodRows d cs rows
  lent-good = rw e f.rows

  pub lent-size : length rows ≡ own_count D r
  lent-size = ap length e ∙ length_part I (own_start D r) (own_count D r) f.stretch

-- ---- what stands between two parts
pub part-between : (front mid back : List Float) (a m : ℕ) → length front ≡ a → length mid ≡ m → part (front ++ (mid ++ back)) a m ≡ mid
unfolding part
part-between front mid back a m e n = ap (take m) (drop_at front (mid ++ back) a e) ∙ take_at mid back m n

-- ---- the part of a list that takes n rows
pub part-size : (out : List ℕ) (start n : ℕ) → start + n ≤ length out → length (take (start + n - start) (drop start out)) ≡ n
part-size out start n h = ap length (part-lent out start n) ∙ length_part out start n h

-- ---- the turn of the loop over the leaves
module _ (d : ℕ) (cs : List Float) (I D : List ℕ) (first m : ℕ) (shares : List ℕ) (n k : ℕ) (f : LeavesFit d cs I D first m shares n k) where
  pub leaf_room : (l : ℕ) → l < m → length (sent_at d cs I D first shares l) + get_or shares l 0 ≤ n
  leaf_room l h =
      omega (arith, sent-many d cs I D first shares l, sum-below-suc l (λ l. get_or shares l 0), sum-below-part (l + 1) m (λ l. get_or shares l 0) (omega arith), f.fits)

  pub leaf-end : (l : ℕ) → length (sent_at d cs I D first shares (l + 1)) ≡ length (sent_at d cs I D first shares l) + get_or shares l 0
  leaf-end l = omega (arith, sent-many d cs I D first shares l, sent-many d cs I D first shares (l + 1), sum-below-suc l (λ l. get_or shares l 0))

  pub leaf-list : (out : List ℕ) (l e : ℕ) (now : List ℕ) → length out ≡ n → l < m → e ≡ length (sent_at d cs I D first shares l)
      → now ≡ put out 0 (sent_at d cs I D first shares l)
      → put now e (sent_by d cs (own_at I D (first + l)) (get_or shares l 0)) ≡ put out 0 (sent_at d cs I D first shares (l + 1))
  leaf-list out l e now w h q g =
      let before = sent_at d cs I D first shares l in
      rw (g, q)
      (ap (λ (i : ℕ). put (put out 0 before) i (sent_by d cs (own_at I D (first + l)) (get_or shares l 0))) (sym (zero-add (length before)))
      ∙ put_next out 0 before (sent_by d cs (own_at I D (first + l)) (get_or shares l 0)) (omega (arith, w, leaf_room l h))
      ∙ ap (put out 0) (sym (sent-next d cs I D first shares l)))

  -- all that is sent fills the list
  pub all-sent : (out now : List ℕ) → length out ≡ n → now ≡ put out 0 (sent_at d cs I D first shares m) → now ≡ sent_at d cs I D first shares m
  all-sent out now w g = g ∙ put_whole out (sent_at d cs I D first shares m) (omega (arith, w, sent-many d cs I D first shares m, f.fits))
