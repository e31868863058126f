-- What leaves send up: leaf after leaf, as many as the quotas say, own rows only; and that sorted they are the next active rows.
-- Assumes nothing.
-- Holds: sent-none, sent-some, sent-first, sent-next, sent-many, sent-zip, sent-times, sorted-next, up-many
use mathlib.Core.Path.{◌≡◌, refl, sym, ap, ◌∙◌}
use mathlib.Core.List.{List, [], ◌++◌, map, zip_with, map-map, map-id}
use Prim.Native.Nat.{ℕ, zero, suc, ◌+◌, ◌≤◌, ◌<◌}
use native.Mathlib.Omega.{arith}
use lib.ListN.{length, get_or, length-map}
use lib.Ieee.{Float}
use Rattle.lists.specs.Lists.{total, from, joined, keep, member}
use Rattle.lists.specs.Ascends.{Ascends}
use Rattle.lists.proofs.From.{map-below-suc, map-from-nil, zip-from-at}
use Rattle.lists.proofs.Joined.{joined-nil, joined_snoc, length-joined}
use Rattle.lists.proofs.Sums.{sum-below-same}
use Rattle.lists.specs.Times.{times, Once}
use Rattle.lists.proofs.Times.{members-length, members-times}
use Rattle.lists.proofs.Ascends.{ascends-keep, ascends-once, ascends-unique-count, once-ascends}
use Rattle.lists.specs.Same.{Same}
use Rattle.lists.proofs.Same.{same-times, same_once}
use Rattle.lists.proofs.Map.{zip-map}
use Rattle.definition.specs.Sampling.{seed_of, sample, sent_by}
use Rattle.definition.specs.Cut.{Domain}
use Rattle.definition.proofs.Cuts.{rows_of, domain_sizes}
use Rattle.definition.proofs.Sampling.{sent-length}
use Rattle.definition.proofs.Next.{sents, sents-times}
use Rattle.sort.specs.Order.{Sorted}
use Rattle.packed.specs.Reading.{own_at, read_own}
use Rattle.packed.proofs.OwnRows.{read_length, read_at}
use Rattle.coarse_points.specs.Sent.{sent_at}

-- ---- one leaf
module _ (d : ℕ) (cs : List Float) (rows : List ℕ) where
  pub sent-none : (quota : ℕ) → quota < 1 → sent_by d cs rows quota ≡ []
  unfolding sent_by
  sent-none zero h = refl
  sent-none (suc more) h = absurd (omega arith)

  pub sent-some : (quota : ℕ) → 1 ≤ quota → sent_by d cs rows quota ≡ sample d cs rows quota (seed_of d cs rows)
  unfolding sent_by
  sent-some zero h = absurd (omega arith)
  sent-some (suc more) h = refl

-- ---- leaf after leaf
module _ (d : ℕ) (cs : List Float) (I D : List ℕ) (first : ℕ) (shares : List ℕ) where
  abbrev sends : ℕ → List ℕ
  sends l = sent_by d cs (own_at I D (first + l)) (get_or shares l 0)

  pub sent-first : sent_at d cs I D first shares 0 ≡ []
  sent-first = ap joined (map-from-nil sends 0) ∙ joined-nil

  pub sent-next : (l : ℕ) → sent_at d cs I D first shares (l + 1) ≡ sent_at d cs I D first shares l ++ sent_by d cs (own_at I D (first + l)) (get_or shares l 0)
  sent-next l = ap joined (map-below-suc sends l) ∙ joined_snoc (map sends (from 0 l)) (sends l)

  -- as many as the quotas so far add up to
  pub sent-many : (n : ℕ) → length (sent_at d cs I D first shares n) ≡ total (map (λ l. get_or shares l 0) (from 0 n))
  sent-many n =
      length-joined (map sends (from 0 n)) ∙ ap total (map-map length sends (from 0 n))
      ∙ sum-below-same n (λ l. length (sends l)) (λ l. get_or shares l 0) (λ l _. sent-length d cs (own_at I D (first + l)) (get_or shares l 0))

  -- the same as the definition has it, quota by quota
  pub sent-zip : (m : ℕ) → length shares ≡ m → sent_at d cs I D first shares m ≡ joined (zip_with (sent_by d cs) (read_own I D first m) shares)
  sent-zip m e =
      ap joined
      (ap (λ (k : ℕ). map sends (from 0 k)) (sym (read_length I D first m))
      ∙ zip-from-at sends (sent_by d cs) [] 0 (read_own I D first m) shares 0 (e ∙ sym (read_length I D first m))
      (λ i l. each i (omega (arith, read_length I D first m))))
    where
      each : (i : ℕ) → i < m → sends (0 + i) ≡ sent_by d cs (get_or (read_own I D first m) i []) (get_or shares i 0)
      each i l = let z : 0 + i ≡ i = omega arith in rw (z, read_at I D first m i l)

-- ---- own rows as the rows of domains
abbrev wrap : List ℕ → Domain
wrap l = record { rows = l; box = []; depth = 0 }

wrapped : (own : List (List ℕ)) → map (λ q. q.rows) (map wrap own) ≡ own
wrapped own = map-map (λ (q : Domain). q.rows) wrap own ∙ map-id own

module _ (d : ℕ) (cs : List Float) where
  as-sents : (own : List (List ℕ)) (ws : List ℕ) → zip_with (sent_by d cs) own ws ≡ sents d cs (map wrap own) ws
  as-sents own ws = zip-map (λ (q : Domain) (w : ℕ). sent_by d cs q.rows w) wrap own ws

  -- quotas within the leaves' sizes: own rows, none twice
  module _ (own : List (List ℕ)) (ws : List ℕ) (within : (i : ℕ) → i < length own → get_or ws i 0 ≤ get_or (map length own) i 0) where
    pub sent-times : Once (joined own) → (r : ℕ) → times r (joined (zip_with (sent_by d cs) own ws)) ≤ times r (joined own)
    sent-times o r =
        let e : rows_of (map wrap own) ≡ joined own = ap joined (wrapped own) in
        let s : domain_sizes (map wrap own) ≡ map length own = map-map (λ (q : Domain). length q.rows) wrap own in
        let k = sents-times d cs (map wrap own) ws (λ z. rw e (o z)) (λ i l. rw s (within i (omega (arith, length-map own wrap)))) r in
        rw (as-sents own ws) (omega (arith, ap (times r) e))

-- ---- sorted, they are the active rows that were sent
module _ (active : List ℕ) (up : Ascends active) (sent : List ℕ) (some : (r : ℕ) → times r sent ≤ times r active) where
  once : Once sent
  once r = omega (arith, some r, ascends-once active up r)

  pub sorted-next : (ys : List ℕ) → Sorted (λ x y. x ≤ y) ys → Same ys sent → ys ≡ keep (λ i. member i sent) active
  sorted-next ys s e =
      ascends-unique-count ys (keep (λ i. member i sent) active)
      (once-ascends ys (same_once ys sent e once) s)
      (ascends-keep (λ i. member i sent) active up)
      (λ r. same-times ys sent e r ∙ sym (members-times active (ascends-once active up) sent some r))

  pub up-many : length (keep (λ i. member i sent) active) ≡ length sent
  up-many = members-length active (ascends-once active up) sent some
