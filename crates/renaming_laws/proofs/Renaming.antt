-- A tree does not depend on what its rows are called: renamed in their order and with their coordinates, they give the same tree, renamed. No
-- rule of document 01 reads more of a row than its place in the order and its coordinates. Assumes nothing.
-- Holds: sents-renamed, fine-renamed, next-renamed, coarse-renamed, from-renamed, levels-renamed
use mathlib.Core.Path.{◌≡◌, refl, sym, ap, ap₂, ◌∙◌}
use mathlib.Core.Logic.{⊎_elim}
use mathlib.Core.List.{List, [], ◌∷◌, map, map-map, map-id, zip_with}
use Prim.Native.Nat.{ℕ, zero, suc, ◌≤◌, ◌<◌}
use native.Mathlib.Omega.{arith}
use lib.ListN.{length, get_or, length-map}
use lib.Ieee.{Float}
use Rattle.lists.specs.Lists.{member, joined}
use Rattle.lists.specs.Ascends.{All}
use Rattle.lists.specs.Times.{times, Once}
use Rattle.lists.proofs.Tests.{le-or-lt}
use Rattle.lists.proofs.All.{all-mem, all-at, all-of, all-by-index, all-joined}
use Rattle.lists.proofs.Map.{map_same, map-joined, get_d-map-in, zip-at}
use Rattle.lists.proofs.Members.{mem-member}
use Rattle.definition.specs.Levels.{threshold, reductions, level_size_lem}
use Rattle.definition.specs.Quotas.{quotas}
use Rattle.definition.specs.Sampling.{sent_by}
use Rattle.definition.specs.Cut.{Domain, leaves_of}
use Rattle.definition.specs.Tree.{Settings, Leaf, Level, coarse_level_lem, fine_leaf, fine_level_lem, sent_lists, next_active, reductions_left, most_fine, levels_from, levels_over}
use Rattle.definition.proofs.Cuts.{domain_sizes}
use Rattle.definition.proofs.Fairness.{fair}
use Rattle.definition.proofs.FineLeaves.{sent-many}
use Rattle.definition.proofs.Levels.{next-times}
use Rattle.definition.proofs.Next.{no_domain}
use Rattle.definition.proofs.Sampling.{sent-own}
use Rattle.definition.proofs.Steps.{fine_of, size_from, sent_from, next_of, levels-end, levels-more}
use Rattle.renaming_laws.specs.Renaming.{Renames, renamed_leaf, renamed_level}
use Rattle.renaming_laws.proofs.RenamedLists.{keep-image, zip-image}
use Rattle.renaming_laws.proofs.RenamedKeys.{In, member-kept}
use Rattle.renaming_laws.proofs.RenamedPoints.{part_in}
use Rattle.renaming_laws.proofs.RenamedCuts.{renamed_domain, leaves_kept, leaf-part}
use Rattle.renaming_laws.proofs.RenamedOverlaps.{borrowed-renamed}
use Rattle.renaming_laws.proofs.RenamedSamples.{sent-kept, cover-kept}

module _ (d : ℕ) (cs cs' : List Float) (all : List ℕ) (f : ℕ → ℕ) (r : Renames d cs cs' all f) where
  -- ---- one level: leaves that each hold a part of the active rows
  module _ (active : List ℕ) (h : All (In all) active) (once : Once active)
      (qs : List Domain) (parts : All (λ (q : Domain). (r : ℕ) → times r q.rows ≤ times r active) qs) where
    own-part : (i : ℕ) → i < length qs → (r : ℕ) → times r (get_or qs i no_domain).rows ≤ times r active
    own-part i l = all-at (λ (q : Domain). (r : ℕ) → times r q.rows ≤ times r active) qs i no_domain parts l

    own_in : (i : ℕ) → i < length qs → All (In all) (get_or qs i no_domain).rows
    own_in i l = part_in all active (get_or qs i no_domain).rows h (own-part i l)

    own-once : (i : ℕ) → i < length qs → Once (get_or qs i no_domain).rows
    own-once i l r = omega (arith, own-part i l r, once r)

    -- sizes, so quotas, which are within the leaves' sizes
    sizes-kept : domain_sizes (map (renamed_domain f) qs) ≡ domain_sizes qs
    sizes-kept =
        map-map (λ (q : Domain). length q.rows) (renamed_domain f) qs
        ∙ map_same (λ (q : Domain). length (map f q.rows)) (λ q. length q.rows) qs (λ q m. length-map q.rows f)

    module _ (size : ℕ) where
      abbrev ws : List ℕ
      ws = quotas (domain_sizes qs) size

      within : (i : ℕ) → i < length qs → get_or ws i 0 ≤ length (get_or qs i no_domain).rows
      within i l = omega (arith, (fair (domain_sizes qs) size).within i, get_d-map-in (λ (q : Domain). length q.rows) qs i no_domain 0 l)

      -- what the leaves send up
      pub sents-renamed : sent_lists d cs' (map (renamed_domain f) qs) size ≡ map (map f) (sent_lists d cs qs size)
      unfolding sent_lists
      sents-renamed =
          ap (λ (sizes : List ℕ). zip_with (λ (q : Domain) (w : ℕ). sent_by d cs' q.rows w) (map (renamed_domain f) qs) (quotas sizes size)) sizes-kept
          ∙ ap (zip_with (λ (q : Domain) (w : ℕ). sent_by d cs' q.rows w) (map (renamed_domain f) qs)) (sym (map-id ws))
          ∙ zip-image (λ (q : Domain) (w : ℕ). sent_by d cs q.rows w) (λ (q : Domain) (w : ℕ). sent_by d cs' q.rows w) (renamed_domain f) (λ (w : ℕ). w) (map f) no_domain 0 qs ws
          (λ i l m. sent-kept d cs cs' all f r (get_or qs i no_domain).rows (own_in i l) (own-once i l) (get_or ws i 0) (within i l))

      sent-in : All (λ (l : List ℕ). All (In all) l) (sent_lists d cs qs size)
      unfolding sent_lists
      sent-in =
          all-by-index (λ (l : List ℕ). All (In all) l) (sent_lists d cs qs size) []
          (λ i l. let m : i < length qs = omega (arith, sent-many d cs qs size) in
          rw (zip-at (λ (q : Domain) (w : ℕ). sent_by d cs q.rows w) qs ws (many m) i no_domain 0 [] m)
          (part_in all (get_or qs i no_domain).rows (sent_by d cs (get_or qs i no_domain).rows (get_or ws i 0)) (own_in i m) (sent-own d cs (get_or qs i no_domain).rows (own-once i m) (get_or ws i 0) (within i m))))
        where
          many : {i : ℕ} → i < length qs → length ws ≡ length qs
          many m = (fair (domain_sizes qs) size).entries ∙ length-map qs (λ (q : Domain). length q.rows)

    -- the level itself, with lists of renamed rows sent up
    pub fine-renamed : (neighbours : ℕ) (sent : List (List ℕ)) → All (λ (l : List ℕ). All (In all) l) sent
        → fine_level_lem d cs' neighbours (map f active) (map (renamed_domain f) qs) (map (map f) sent) ≡ renamed_level f (fine_level_lem d cs neighbours active qs sent)
    unfolding fine_level_lem
    fine-renamed neighbours sent g =
        ap (λ (leaves : List Leaf). record { points = map f active; leaves = leaves })
        (zip-image (fine_leaf d cs neighbours active) (fine_leaf d cs' neighbours (map f active)) (renamed_domain f) (map f) (renamed_leaf f) no_domain [] qs sent
        (λ i l m. let q = get_or qs i no_domain in
        let p = own_in i l in
        ap₂ (λ (borrowed : List ℕ) (cover : Float). record { own = map f q.rows; borrowed = borrowed; box = q.box; cover = cover; depth = q.depth })
        (borrowed-renamed d cs cs' all f r neighbours active h q.rows p)
        (cover-kept d cs cs' all f r q.rows (get_or sent i []) p (all-at (λ (l : List ℕ). All (In all) l) sent i [] g m))))

    -- the next active rows
    pub next-renamed : (sent : List (List ℕ)) → All (λ (l : List ℕ). All (In all) l) sent → next_active (map f active) (map (map f) sent) ≡ map f (next_active active sent)
    unfolding next_active
    next-renamed sent g =
        keep-image f (λ i. member i (joined sent)) (λ i. member i (joined (map (map f) sent))) active
        (λ i m. ap (member (f i)) (sym (map-joined f sent)) ∙ member-kept all f r.order i (joined sent) (all-mem (In all) active h i m) (all-joined (In all) sent g))

-- the coarse level
pub coarse-renamed : (d : ℕ) (f : ℕ → ℕ) (active : List ℕ) → coarse_level_lem d (map f active) ≡ renamed_level f (coarse_level_lem d active)
unfolding coarse_level_lem
coarse-renamed d f active = refl

-- ---- all levels
module _ (s : Settings) (cs cs' : List Float) (all : List ℕ) (f : ℕ → ℕ) (r : Renames s.dimension cs cs' all f) (pos : 0 < s.dimension) (c k : ℕ) where
  abbrev d : ℕ
  d = s.dimension

  module _ (active : List ℕ) (h : All (In all) active) (once : Once active) (built : ℕ) where
    abbrev qs : List Domain
    qs = leaves_of d cs s.leaf active

    abbrev size : ℕ
    size = size_from c k built active

    parts : All (λ (q : Domain). (r : ℕ) → times r q.rows ≤ times r active) qs
    parts = leaf-part d cs s.leaf active

    cut-kept : leaves_of d cs' s.leaf (map f active) ≡ map (renamed_domain f) qs
    cut-kept = leaves_kept d cs cs' all f r pos s.leaf active h

    size-kept : size_from c k built (map f active) ≡ size
    size-kept = ap (λ (n : ℕ). level_size_lem n c (reductions_left k built)) (length-map active f)

    sent-all : sent_from s cs' c k built (map f active) ≡ map (map f) (sent_from s cs c k built active)
    sent-all = ap₂ (sent_lists d cs') cut-kept size-kept ∙ sents-renamed d cs cs' all f r active h once qs parts size

    inside : All (λ (l : List ℕ). All (In all) l) (sent_from s cs c k built active)
    inside = sent-in d cs cs' all f r active h once qs parts size

    level-kept : fine_of s cs' (size_from c k built (map f active)) (map f active) ≡ renamed_level f (fine_of s cs size active)
    level-kept = ap₂ (fine_level_lem d cs' s.neighbours (map f active)) cut-kept sent-all ∙ fine-renamed d cs cs' all f r active h once qs parts s.neighbours (sent_from s cs c k built active) inside

    next-kept : next_of s cs' c k built (map f active) ≡ map f (next_of s cs c k built active)
    next-kept = ap (next_active (map f active)) sent-all ∙ next-renamed d cs cs' all f r active h once qs parts (sent_from s cs c k built active) inside

  pub from-renamed : (fuel built : ℕ) (active : List ℕ) → All (In all) active → Once active
      → levels_from s cs' c k fuel built (map f active) ≡ map (renamed_level f) (levels_from s cs c k fuel built active)
  unfolding levels_from
  from-renamed zero built active h once = ap (λ (l : Level). l ∷ []) (coarse-renamed d f active)
  from-renamed (suc fuel) built active h once =
      ⊎_elim
      (λ (few : length active ≤ c).
      levels-end s cs' c k fuel built (map f active) (omega (arith, length-map active f))
      ∙ ap (λ (l : Level). l ∷ []) (coarse-renamed d f active)
      ∙ ap (map (renamed_level f)) (sym (levels-end s cs c k fuel built active few)))
      (λ (many : c < length active).
      let next = next_of s cs c k built active in
      let less = next-times active (sent_from s cs c k built active) in
      levels-more s cs' c k fuel built (map f active) (omega (arith, length-map active f))
      ∙ ap₂ (λ (l : Level) (ls : List Level). l ∷ ls) (level-kept active h once built)
      (ap (levels_from s cs' c k fuel (suc built)) (next-kept active h once built)
      ∙ from-renamed fuel (suc built) next (part_in all active next h less) (λ r. omega (arith, less r, once r)))
      ∙ ap (map (renamed_level f)) (sym (levels-more s cs c k fuel built active many)))
      (le-or-lt (length active) c)

-- THE LAW
pub levels-renamed : (s : Settings) (cs cs' : List Float) (rows : List ℕ) (f : ℕ → ℕ) → 0 < s.dimension → Once rows
    → Renames s.dimension cs cs' rows f → levels_over s cs' (map f rows) ≡ map (renamed_level f) (levels_over s cs rows)
unfolding levels_over
levels-renamed s cs cs' rows f pos once r =
    ap (λ (n : ℕ). levels_from s cs' (threshold s.policy n) (reductions n (threshold s.policy n) s.factor) most_fine 0 (map f rows)) (length-map rows f)
    ∙ from-renamed s cs cs' rows f r pos (threshold s.policy (length rows)) (reductions (length rows) (threshold s.policy (length rows)) s.factor) most_fine 0 rows
    (all-of (In rows) rows (λ i m. mem-member rows i m)) once
