-- The rounds of sampling: from the seed on, one chosen row more in each. Assumes nothing.
-- Holds: reach, Entry, entry_kept, Choosing, choosing-start, choosing-kept, choosing-open, choosing-more, choosing-end,
--   choosing-all, choosing-worst
use mathlib.Core.Path.{◌≡◌, refl, sym, ap, ◌∙◌, subst}
use mathlib.Core.Logic.{inl, inr}
use mathlib.Core.Bool.{Bool, true, false, not}
use mathlib.Core.List.{List, [], ◌∷◌, ◌++◌, map, Memᴰ}
use Prim.Native.Nat.{ℕ, suc, ◌+◌, ◌-◌, ◌≤◌, ◌<◌}
use native.Mathlib.Nat.{not-suc-le-zero}
use native.Mathlib.Decide.{ℕ_discrete}
use native.Mathlib.Omega.{arith}
use borrow.Author.Tests.{not-true}
use lib.ListN.{length, get_or, set, length-append, length-set}
use lib.Seq.{set-set}
use lib.Ieee.{Float, nan, inf, lt}
use Rattle.lists.specs.Lists.{keep, member, any_of, best, put}
use Rattle.lists.proofs.Tests.{clash}
use Rattle.lists.proofs.Map.{map_snoc}
use Rattle.lists.proofs.Best.{best-snoc}
use Rattle.lists.proofs.Put.{set-put, put-snoc, put_whole}
use Rattle.lists.proofs.Members.{mem-at, keep_at, member-last, member-other}
use Rattle.lists.specs.Times.{times}
use Rattle.lists.proofs.Times.{times-nil, mem-times, times-mem, others-count, member-zero, times_more}
use Rattle.lists.proofs.Ascends.{ascends-differ}
use Rattle.definition.specs.Number.{plus_zero, square_root_lem}
use Rattle.definition.specs.Points.{distance, rows_sq, rows_apart, least_of}
use Rattle.definition.specs.Sampling.{gap, pick, cover_of, sample_more, sample}
use Rattle.root_laws.specs.Sorts.{good}
use Rattle.root_laws.proofs.Values.{root-good}
use Rattle.rows.specs.Rows.{GoodRows}
use Rattle.rows.proofs.Good.{good-at, good-mem, good-once}
use Rattle.definition_laws.proofs.Finite.{rows-apart-good}
use Rattle.sampling_rounds.specs.Rounds.{lesser, minus_one, KeptSquare, lessened, Chosen, Worst}
use Rattle.sampling_rounds.proofs.Orders.{one-not-good, lesser-one, lesser-inf}
use Rattle.sampling_rounds.proofs.Passes.{pair-good}
use Rattle.sampling_rounds.proofs.Alike.{Alike, alike-inf, alike-lt, alike-lesser}
use Rattle.sampling_rounds.proofs.Picking.{pick_is}
use Rattle.sampling_rounds.proofs.Covering.{cover_is, cover-none}

module _ (d : ℕ) (cs : List Float) where
  -- row i's least distance to the chosen rows, and infinity where none is chosen
  unfoldable pub reach : List ℕ → ℕ → Float
  reach chosen i = best lt (inf false) (map (λ c. rows_apart d cs c i) chosen)

  reach-snoc : (chosen : List ℕ) (c i : ℕ) → reach (chosen ++ c ∷ []) i ≡ lesser (rows_apart d cs c i) (reach chosen i)
  unfolding reach
  reach-snoc chosen c i =
      ap (best lt (inf false)) (map_snoc (λ c. rows_apart d cs c i) chosen c)
      ∙ best-snoc lt (inf false) (map (λ c. rows_apart d cs c i) chosen) (rows_apart d cs c i)

  reach-gap : (chosen : List ℕ) (i : ℕ) → 0 < length chosen → ((c : ℕ) → Memᴰ c chosen → good (rows_apart d cs c i) ≡ true) → reach chosen i ≡ gap d cs chosen i
  unfolding reach gap least_of best
  reach-gap [] i h g = absurd (not-suc-le-zero h)
  reach-gap (c ∷ chosen) i h g =
      ap (λ (x : Float). best lt x (map (λ c. rows_apart d cs c i) chosen)) (lesser-inf (rows_apart d cs c i) (g c (Memᴰ.head refl)))

  -- what is kept for a row: -1 where it is chosen, and otherwise a square whose root counts as the distance l
  abbrev pub Entry : Bool → Float → Float → Type 0
  Entry true m l = m ≡ minus_one
  Entry false m l = Alike m l

  pub entry_kept : (t : Bool) (m l : Float) → Entry t m l → KeptSquare m
  entry_kept true m l e = inl e
  entry_kept false m l a = inr a.good-m

  -- a square more is taken in
  entry-lesser : (t : Bool) (x m l : Float) → good x ≡ true → Entry t m l → Entry t (lesser x m) (lesser (square_root_lem x) l)
  entry-lesser true x m l g e = rw e (lesser-one x g)
  entry-lesser false x m l g a = alike-lesser x m l g a

  entry_free : (t : Bool) (m l : Float) → Entry t m l → good m ≡ true → t ≡ false
  entry_free true m l e g = clash g (ap good e ∙ one-not-good)
  entry_free false m l a g = refl

  -- ---- the state between two rounds
  module _ (rows : List ℕ) where
    abbrev row : ℕ → ℕ
    row i = get_or rows i 0

    -- k rows are chosen, the last of them at the place `last`; the least squares are those to the chosen rows but the last
    pub record Choosing (wanted seed : ℕ) (o out : List ℕ) (floats : List Float) (last k : ℕ) : Type 0 where
      pub prior : List ℕ
      pub many : length prior + 1 ≡ k
      pub within : last < length rows
      pub written : out ≡ put o 0 (prior ++ row last ∷ [])
      pub ahead : sample_more d cs rows (wanted - k) (prior ++ row last ∷ []) ≡ sample d cs rows wanted seed
      pub entries : (i : ℕ) → i < length rows → Entry (member (row i) (prior ++ row last ∷ [])) (get_or floats i nan) (reach prior (row i))
      pub own : (r : ℕ) → times r (prior ++ row last ∷ []) ≤ times r rows

    module _ (g : GoodRows d cs rows) where
      -- the row at p is chosen, and the other values are those that hold for the rows chosen before it
      marked : (chosen : List ℕ) (p : ℕ) (v : ℕ → Float) (l : List Float) → p < length rows
          → ((i : ℕ) → i < length rows → Entry (member (row i) chosen) (v i) (reach chosen (row i)))
          → get_or l p nan ≡ minus_one → ((i : ℕ) → i < length rows → (i ≡ p → ⊥) → get_or l i nan ≡ v i)
          → (i : ℕ) → i < length rows → Entry (member (row i) (chosen ++ row p ∷ [])) (get_or l i nan) (reach chosen (row i))
      marked chosen p v l h e m s i b = elim (ℕ_discrete i p) [
        | yes q ↦ subst (λ (t : Bool). Entry t (get_or l i nan) (reach chosen (row i)))
            (sym (ap (λ (j : ℕ). member (row j) (chosen ++ row p ∷ [])) q ∙ member-last chosen (row p))) (rw q m)
        | no n ↦ subst (λ (t : Bool). Entry t (get_or l i nan) (reach chosen (row i)))
            (sym (member-other (row i) chosen (row p) (λ q. ascends-differ rows i p g.ascends b h n (sym q)))) (rw (s i b n) (e i b))
      ]

      row-times : (i : ℕ) → i < length rows → 0 < times (row i) rows
      row-times i h = mem-times rows (row i) (mem-at rows i 0 h)

      -- the seed at the place p is chosen
      pub choosing-start : (wanted : ℕ) (o : List ℕ) (p : ℕ) (l : List Float) → 0 < length o → p < length rows → get_or l p nan ≡ minus_one
          → ((i : ℕ) → i < length rows → (i ≡ p → ⊥) → get_or l i nan ≡ inf false) → Choosing wanted (row p) (set o 0 (row p)) (set o 0 (row p)) l p 1
      unfolding sample reach best member any_of
      choosing-start wanted o p l h b m s =
          record {
            prior = [];
            many = refl;
            within = b;
            written = sym (set-set o 0 (row p) (row p)) ∙ set-put (set o 0 (row p)) 0 (row p) (rw (length-set o 0 (row p)) h);
            ahead = refl;
            entries = marked [] p (λ i. inf false) l b (λ i q. alike-inf) m s;
            own = times_more rows [] (row p) (λ r. omega (arith, times-nil r)) (row-times p b) (times-nil (row p));
          }

      module _ (wanted seed : ℕ) (o out : List ℕ) (floats : List Float) (last k : ℕ) (c : Choosing wanted seed o out floats last k) where
        chosen : List ℕ
        chosen = c.prior ++ row last ∷ []

        chosen-length : length chosen ≡ k
        unfolding chosen
        chosen-length = omega (arith, length-append c.prior (row last ∷ []), c.many)

        pub choosing-kept : (i : ℕ) → i < length rows → KeptSquare (get_or floats i nan)
        choosing-kept i h = entry_kept (member (row i) (c.prior ++ row last ∷ [])) (get_or floats i nan) (reach c.prior (row i)) (c.entries i h)

        -- a row is left
        pub choosing-open : k < length rows → (i : ℕ) × ((i < length rows) × (good (get_or floats i nan) ≡ true))
        unfolding chosen
        choosing-open h =
            let n : 0 < length (keep (λ i. not (member i chosen)) rows) = omega (arith, others-count rows (good-once rows g) chosen c.own, chosen-length) in
            let r = keep_at (λ i. not (member i chosen)) rows 0 0 n in
            let a : Alike (get_or floats r.0 nan) (reach c.prior (row r.0)) =
            subst (λ (t : Bool). Entry t (get_or floats r.0 nan) (reach c.prior (row r.0))) (not-true (member (row r.0) chosen) r.3) (c.entries r.0 r.1) in
            (r.0, (r.1, a.good-m))

        -- the least squares with the last row taken in
        value : ℕ → Float
        value i = lessened d cs rows last floats i

        values : (i : ℕ) → i < length rows → Entry (member (row i) chosen) (value i) (reach chosen (row i))
        unfolding chosen value lessened rows_apart distance rows_sq
        values i h =
            rw (reach-snoc c.prior (row last) (row i))
            (entry-lesser (member (row i) chosen) (rows_sq d cs (row last) (row i)) (get_or floats i nan) (reach c.prior (row i))
            (pair-good d cs rows last floats g c.within i h) (c.entries i h))

        reach-is : (i : ℕ) → i < length rows → reach chosen (row i) ≡ gap d cs chosen (row i)
        unfolding chosen
        reach-is i h =
            reach-gap chosen (row i) (omega (arith, chosen-length, c.many))
            (λ x m. rows-apart-good d cs x (row i)
            (good-mem rows g x (times-mem rows x (omega (arith, mem-times chosen x m, c.own x)))).finite_row
            (good-at rows g i h).finite_row)

        -- two rows that are not chosen compare by their roots
        compared : (i j : ℕ) → i < length rows → j < length rows → member (row i) chosen ≡ false → member (row j) chosen ≡ false
            → lt (gap d cs chosen (row i)) (gap d cs chosen (row j)) ≡ lt (square_root_lem (value i)) (square_root_lem (value j))
        compared i j h b e f =
            rw (← reach-is i h, ← reach-is j b)
            (sym (alike-lt (value i) (reach chosen (row i)) (value j) (reach chosen (row j))
            (subst (λ (t : Bool). Entry t (value i) (reach chosen (row i))) e (values i h))
            (subst (λ (t : Bool). Entry t (value j) (reach chosen (row j))) f (values j b))))

        free-value : (i : ℕ) → i < length rows → member (row i) chosen ≡ false → good (value i) ≡ true
        free-value i h e = (subst (λ (t : Bool). Entry t (value i) (reach chosen (row i))) e (values i h)).good-m

        -- the first place with the greatest root has the row that is due
        due : (r : ℕ) (l : List Float) → Chosen (lessened d cs rows last floats) (length rows) r l → (member (row r) chosen ≡ false) × (pick d cs rows chosen ≡ row r)
        unfolding value
        due r l h =
            let f = entry_free (member (row r) chosen) (value r) (reach chosen (row r)) (values r h.inside) h.free in (
              f,
              pick_is d cs rows chosen r h.inside f
                  (λ j b e. let b' : j < length rows = omega (arith, h.inside) in compared j r b' h.inside e f ∙ h.first j b (free-value j b' e))
                  (λ j b e. compared r j h.inside b f e ∙ h.farthest j b (free-value j b e)),
            )

        more-ahead : (r : ℕ) → k < wanted → pick d cs rows chosen ≡ row r → sample_more d cs rows (wanted - (k + 1)) (chosen ++ row r ∷ []) ≡ sample d cs rows wanted seed
        unfolding sample_more chosen
        more-ahead r h e =
            let n : wanted - k ≡ suc (wanted - (k + 1)) = omega arith in
            ap (λ (x : ℕ). sample_more d cs rows (wanted - (k + 1)) (chosen ++ x ∷ [])) (sym e)
            ∙ sym (ap (λ (m : ℕ). sample_more d cs rows m chosen) n)
            ∙ c.ahead

        pub choosing-more : (r : ℕ) (l : List Float) → k < wanted → k < length o → Chosen (lessened d cs rows last floats) (length rows) r l
            → Choosing wanted seed o (set out k (row r)) l r (k + 1)
        unfolding chosen value
        choosing-more r l b q h =
            let u = due r l h in
            record {
              prior = chosen;
              many = omega (arith, chosen-length);
              within = h.inside;
              written = ap (λ (x : List ℕ). set x k (row r)) c.written ∙ put-snoc o 0 chosen (row r) k (omega (arith, chosen-length)) q;
              ahead = more-ahead r b u.1;
              entries = marked chosen r value l h.inside values h.marked h.others;
              own = times_more rows chosen (row r) c.own (row-times r h.inside) (member-zero (row r) chosen u.0);
            }

        -- ---- the end: as many are chosen as are wanted
        done : wanted ≡ k → chosen ≡ sample d cs rows wanted seed
        unfolding sample_more chosen
        done w = let n : wanted - k ≡ 0 = omega arith in sym (ap (λ (m : ℕ). sample_more d cs rows m chosen) n) ∙ c.ahead

        -- the list is filled
        pub choosing-end : length o ≡ k → wanted ≡ k → out ≡ sample d cs rows wanted seed
        unfolding chosen
        choosing-end n w = c.written ∙ put_whole o chosen (omega (arith, n, chosen-length)) ∙ done w

        -- the cover where all rows are chosen
        pub choosing-all : wanted ≡ k → k ≡ length rows → plus_zero ≡ cover_of d cs rows (sample d cs rows wanted seed)
        unfolding chosen
        choosing-all w e =
            cover-none d cs rows chosen (omega (arith, others-count rows (good-once rows g) chosen c.own, chosen-length))
            ∙ ap (cover_of d cs rows) (done w)

        -- the least distance of an unchosen row
        gap-root : (i : ℕ) → i < length rows → member (row i) chosen ≡ false → gap d cs chosen (row i) ≡ square_root_lem (value i)
        gap-root i h e = sym (reach-is i h) ∙ (subst (λ (t : Bool). Entry t (value i) (reach chosen (row i))) e (values i h)).rooted

        -- and where one is left
        pub choosing-worst : (x : Float) → wanted ≡ k → Worst (lessened d cs rows last floats) (length rows) x → x ≡ cover_of d cs rows (sample d cs rows wanted seed)
        unfolding value
        choosing-worst x w h =
            let f = entry_free (member (row h.place) chosen) (value h.place) (reach chosen (row h.place)) (values h.place h.inside) h.free in
            let e : x ≡ gap d cs chosen (row h.place) = h.here ∙ sym (gap-root h.place h.inside f) in
            e
            ∙ sym (cover_is d cs rows chosen h.place h.inside f (λ j b n.
            let v = free-value j b n in
            let q = gap-root j b n in
            (rw q (root-good (value j) v), rw (← e, q) (h.greatest j b v))))
            ∙ ap (cover_of d cs rows) (done w)
