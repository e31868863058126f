-- What the leaves of a level send up, at quotas that deal the seats out within the leaves' sizes, and the next active rows: as many as
-- the seats, each sent up. Assumes nothing.
-- Holds: Dealt, no_domain, rows-cons, rows_at, sents, sents-times, sents-at, sents-length, own-once, next-sent, next-length,
--   next-at
use mathlib.Core.Path.{◌≡◌, refl, ap, ◌∙◌}
use mathlib.Core.List.{List, [], ◌∷◌, map, zip_with}
use Prim.Native.Nat.{ℕ, zero, suc, ◌+◌, ◌≤◌, ◌<◌}
use native.Mathlib.Omega.{arith}
use lib.ListN.{length, get_or, length-append, length-map}
use lib.Ieee.{Float}
use Rattle.lists.specs.Lists.{total, joined}
use Rattle.lists.specs.Times.{times, Once}
use Rattle.lists.proofs.Times.{times-nil, times-append, members-length, members-times}
use Rattle.lists.proofs.Joined.{joined-nil, joined-cons}
use Rattle.definition.specs.Quotas.{quotas}
use Rattle.definition.specs.Sampling.{sent_by}
use Rattle.definition.specs.Cut.{Domain, leaves_of}
use Rattle.definition.specs.Tree.{sent_lists, next_active}
use Rattle.definition.proofs.Cuts.{Good, rows_of, domain_sizes, leaves-times}
use Rattle.definition.proofs.Sampling.{sent-length, sent-own}

-- quotas for the leaves: as many as leaves, each within its leaf's size, and adding up to the seats
pub record Dealt (sizes : List ℕ) (seats : ℕ) (ws : List ℕ) : Type 0 where
  pub as_many : length ws ≡ length sizes
  pub adds-up : total ws ≡ seats
  pub within : (i : ℕ) → i < length sizes → get_or ws i 0 ≤ get_or sizes i 0

-- what stands past the domains
abbrev pub no_domain : Domain
no_domain = record { rows = []; box = []; depth = 0 }

pub rows-cons : (q : Domain) (qs : List Domain) (r : ℕ) → times r (rows_of (q ∷ qs)) ≡ times r q.rows + times r (rows_of qs)
rows-cons q qs r = ap (times r) (joined-cons q.rows (map (λ q. q.rows) qs)) ∙ times-append r q.rows (rows_of qs)

pub rows_at : (qs : List Domain) (i r : ℕ) → i < length qs → times r (get_or qs i no_domain).rows ≤ times r (rows_of qs)
rows_at [] i r l = absurd (omega arith)
rows_at (q ∷ qs) zero r l = omega (arith, rows-cons q qs r)
rows_at (q ∷ qs) (suc i) r l = omega (arith, rows-cons q qs r, rows_at qs i r (omega arith))

module _ (d : ℕ) (cs : List Float) where
  -- ---- what the domains send up, at the quotas ws
  abbrev pub sents : List Domain → List ℕ → List (List ℕ)
  sents qs ws = zip_with (λ q w. sent_by d cs q.rows w) qs ws

  none-sent : (r : ℕ) → times r (joined []) ≡ 0
  none-sent r = ap (times r) joined-nil ∙ times-nil r

  sents-cons : (q : Domain) (qs : List Domain) (w : ℕ) (ws : List ℕ) (r : ℕ)
      → times r (joined (sents (q ∷ qs) (w ∷ ws))) ≡ times r (sent_by d cs q.rows w) + times r (joined (sents qs ws))
  unfolding zip_with
  sents-cons q qs w ws r =
      ap (times r) (joined-cons (sent_by d cs q.rows w) (sents qs ws)) ∙ times-append r (sent_by d cs q.rows w) (joined (sents qs ws))

  -- own rows, none twice
  pub sents-times : (qs : List Domain) (ws : List ℕ) → Once (rows_of qs) → ((i : ℕ) → i < length qs → get_or ws i 0 ≤ get_or (domain_sizes qs) i 0)
      → (r : ℕ) → times r (joined (sents qs ws)) ≤ times r (rows_of qs)
  unfolding zip_with
  sents-times [] [] o h r = omega arith
  sents-times [] (w ∷ ws) o h r = omega arith
  sents-times (q ∷ qs) [] o h r = omega (arith, none-sent r)
  sents-times (q ∷ qs) (w ∷ ws) o h r =
      let own : Once q.rows = λ r. omega (arith, o r, rows-cons q qs r) in
      let rest = sents-times qs ws (λ r. omega (arith, o r, rows-cons q qs r)) (λ i l. h (suc i) (omega arith)) r in
      let one = sent-own d cs q.rows own w (h 0 (omega arith)) r in
      omega (arith, sents-cons q qs w ws r, rows-cons q qs r)

  -- of a row that the domain at i owns, only that domain sends any up
  pub sents-at : (qs : List Domain) (ws : List ℕ) → Once (rows_of qs) → ((i : ℕ) → i < length qs → get_or ws i 0 ≤ get_or (domain_sizes qs) i 0) → length ws ≡ length qs
      → (i r : ℕ) → i < length qs → 0 < times r (get_or qs i no_domain).rows
      → times r (joined (sents qs ws)) ≡ times r (sent_by d cs (get_or qs i no_domain).rows (get_or ws i 0))
  unfolding zip_with
  sents-at [] [] o h e i r l m = absurd (omega arith)
  sents-at [] (w ∷ ws) o h e i r l m = absurd (omega arith)
  sents-at (q ∷ qs) [] o h e i r l m = absurd (omega arith)
  sents-at (q ∷ qs) (w ∷ ws) o h e zero r l m =
      let rest = sents-times qs ws (λ r. omega (arith, o r, rows-cons q qs r)) (λ i l. h (suc i) (omega arith)) r in
      omega (arith, sents-cons q qs w ws r, rows-cons q qs r, o r)
  sents-at (q ∷ qs) (w ∷ ws) o h e (suc i) r l m =
      let own : Once q.rows = λ r. omega (arith, o r, rows-cons q qs r) in
      let one = sent-own d cs q.rows own w (h 0 (omega arith)) r in
      let rest = sents-at qs ws (λ r. omega (arith, o r, rows-cons q qs r)) (λ i l. h (suc i) (omega arith)) (omega arith) i r (omega arith) m in
      omega (arith, sents-cons q qs w ws r, rows-cons q qs r, o r, rows_at qs i r (omega arith))

  -- as many as the quotas add up to
  pub sents-length : (qs : List Domain) (ws : List ℕ) → length ws ≡ length qs → length (joined (sents qs ws)) ≡ total ws
  unfolding zip_with joined total
  sents-length [] [] h = refl
  sents-length [] (w ∷ ws) h = absurd (omega arith)
  sents-length (q ∷ qs) [] h = absurd (omega arith)
  sents-length (q ∷ qs) (w ∷ ws) h =
      omega (arith, length-append (sent_by d cs q.rows w) (joined (sents qs ws)), sent-length d cs q.rows w, sents-length qs ws (omega arith))

  -- ---- a level over good active rows, of which `size` are sent up
  module _ (pos : 0 < d) (leaf : ℕ) (lp : 1 ≤ leaf) (active : List ℕ) (good : Good d cs active) (some : 1 ≤ length active) (size : ℕ)
      (dealt : Dealt (domain_sizes (leaves_of d cs leaf active)) size (quotas (domain_sizes (leaves_of d cs leaf active)) size)) where
    abbrev qs : List Domain
    qs = leaves_of d cs leaf active

    abbrev ws : List ℕ
    ws = quotas (domain_sizes qs) size

    many : length (domain_sizes qs) ≡ length qs
    many = length-map qs (λ q. length q.rows)

    -- the leaves share the active rows out
    pub own-once : Once (rows_of (leaves_of d cs leaf active))
    own-once r = omega (arith, leaves-times d cs pos leaf lp active good some r, good.once r)

    sent-le : (r : ℕ) → times r (joined (sents qs ws)) ≤ times r active
    sent-le r = omega (arith, sents-times qs ws own-once (λ i l. dealt.within i (omega (arith, many))) r, leaves-times d cs pos leaf lp active good some r)

    -- THE LAWS: the next active rows are the rows sent up, each once, `size` in all
    pub next-sent : (r : ℕ) → times r (next_active active (sent_lists d cs (leaves_of d cs leaf active) size)) ≡ times r (joined (sent_lists d cs (leaves_of d cs leaf active) size))
    unfolding next_active sent_lists
    next-sent r = members-times active good.once (joined (sents qs ws)) sent-le r

    pub next-length : length (next_active active (sent_lists d cs (leaves_of d cs leaf active) size)) ≡ size
    unfolding next_active sent_lists
    next-length = members-length active good.once (joined (sents qs ws)) sent-le ∙ sents-length qs ws (dealt.as_many ∙ many) ∙ dealt.adds-up

    -- a row that the leaf at i owns goes up where that leaf samples it, and only there
    pub next-at : (i r : ℕ) → i < length (leaves_of d cs leaf active) → 0 < times r (get_or (leaves_of d cs leaf active) i no_domain).rows
        → times r (next_active active (sent_lists d cs (leaves_of d cs leaf active) size))
        ≡ times r (sent_by d cs (get_or (leaves_of d cs leaf active) i no_domain).rows (get_or (quotas (domain_sizes (leaves_of d cs leaf active)) size) i 0))
    unfolding sent_lists
    next-at i r l m = next-sent r ∙ sents-at qs ws own-once (λ i l. dealt.within i (omega (arith, many))) (dealt.as_many ∙ many) i r l m
