-- Lists of numbers, one block for each leaf: they ascend, their members, their rows, and where each block starts. Assumes nothing.
-- Holds: block-range, codes-above, codes-ascend, codes-mem, mem-codes, rows-codes, length-codes, drop-codes
use mathlib.Core.Path.{◌≡◌, refl, sym, ap, ap₂, ◌∙◌, subst}
use mathlib.Core.Logic.{⊎_elim}
use mathlib.Core.List.Memᴰ
use mathlib.Core.List.{List, [], ◌∷◌, ◌++◌, map, map-map, Memᴰ, map-append}
use Prim.Native.Nat.{ℕ, zero, suc, ◌+◌, ◌*◌, ◌%◌, ◌≤◌, ◌<◌}
use native.Mathlib.Omega.{arith}
use native.Mathlib.Nat.{not-suc-le-zero, add-zero}
use lib.ListN.{length, get_or, take, drop, length-append, length-map}
use lib.Seq.{drop-append-add}
use Rattle.lists.specs.Lists.{total, joined}
use Rattle.lists.specs.Ascends.{All, Ascends}
use Rattle.lists.proofs.All.{all_append, all-imp, all_map, all-mem}
use Rattle.lists.proofs.Members.{mem-left, mem-right, mem-map, map-mem}
use Rattle.lists.proofs.Map.{map_same}
use Rattle.lists.proofs.Ascends.{ascends-append, ascends-map}
use Rattle.rows.specs.Rows.{most_leaves}
use Rattle.overlap_pairs.specs.Pairs.{code}
use Rattle.overlaps.specs.Codes.{codes_from, coded_rows}

abbrev Small : List (List ℕ) → Type 0
Small ls = All (λ l. All (λ q. q < most_leaves) l) ls

-- ---- the numbers of one leaf, and those from a leaf on
pub block-range : (l : ℕ) (ps : List ℕ) → All (λ q. q < most_leaves) ps → All (λ c. (l * most_leaves ≤ c) × (c < suc l * most_leaves)) (map (code l) ps)
block-range l ps h =
    all_map (λ c. (l * most_leaves ≤ c) × (c < suc l * most_leaves)) (code l) ps
    (all-imp (λ q. q < most_leaves) (λ q. (l * most_leaves ≤ code l q) × (code l q < suc l * most_leaves)) ps (λ q g. (omega arith, omega arith)) h)

pub codes-above : (l : ℕ) (ls : List (List ℕ)) → Small ls → All (λ c. l * most_leaves ≤ c) (codes_from l ls)
unfolding codes_from All
codes-above l [] h = tt
codes-above l (ps ∷ ls) h =
    all_append (λ c. l * most_leaves ≤ c) (map (code l) ps) (codes_from (suc l) ls)
    (all-imp (λ c. (l * most_leaves ≤ c) × (c < suc l * most_leaves)) (λ c. l * most_leaves ≤ c) (map (code l) ps) (λ c g. g.0) (block-range l ps h.0))
    (all-imp (λ c. suc l * most_leaves ≤ c) (λ c. l * most_leaves ≤ c) (codes_from (suc l) ls) (λ c g. omega arith) (codes-above (suc l) ls h.1))

pub codes-ascend : (l : ℕ) (ls : List (List ℕ)) → Small ls → All Ascends ls → Ascends (codes_from l ls)
unfolding codes_from All Ascends
codes-ascend l [] h up = tt
codes-ascend l (ps ∷ ls) h up =
    ascends-append (map (code l) ps) (codes_from (suc l) ls)
    (ascends-map (code l) ps (λ a b i j g. omega arith) up.0) (codes-ascend (suc l) ls h.1 up.1)
    (all-imp (λ c. (l * most_leaves ≤ c) × (c < suc l * most_leaves)) (λ x. All (λ y. x < y) (codes_from (suc l) ls)) (map (code l) ps)
    (λ c g. all-imp (λ y. suc l * most_leaves ≤ y) (λ y. c < y) (codes_from (suc l) ls) (λ y k. omega (arith, g.1)) (codes-above (suc l) ls h.1)) (block-range l ps h.0))

-- ---- members
pub codes-mem : (l : ℕ) (ls : List (List ℕ)) (z : ℕ) → Memᴰ z (codes_from l ls) → (i : ℕ) × (q : ℕ) × (i < length ls) × Memᴰ q (get_or ls i []) × (z ≡ code (l + i) q)
unfolding codes_from
codes-mem l [] z m = absurd (Memᴰ.not-nil m)
codes-mem l (ps ∷ ls) z m =
    ⊎_elim
    (λ i. let r = map-mem (code l) ps i in (0, r.0, omega arith, r.1, r.2 ∙ ap (λ (k : ℕ). code k r.0) (sym (add-zero l))))
    (λ i. let r = codes-mem (suc l) ls z i in (suc r.0, r.1, omega (arith, r.2), r.3, r.4 ∙ ap (λ (k : ℕ). code k r.1) (shifted l r.0)))
    (Memᴰ.append_cases (map (code l) ps) m)
  where
    shifted : (l i : ℕ) → suc l + i ≡ l + suc i
    shifted l i = omega arith

pub mem-codes : (l : ℕ) (ls : List (List ℕ)) (i q : ℕ) → i < length ls → Memᴰ q (get_or ls i []) → Memᴰ (code (l + i) q) (codes_from l ls)
unfolding codes_from
mem-codes l [] i q h m = absurd (not-suc-le-zero h)
mem-codes l (ps ∷ ls) zero q h m =
    mem-left (map (code l) ps) (codes_from (suc l) ls) (subst (λ (k : ℕ). Memᴰ (code k q) (map (code l) ps)) (sym (add-zero l)) (mem-map (code l) ps m))
mem-codes l (ps ∷ ls) (suc i) q h m =
    mem-right (map (code l) ps) (codes_from (suc l) ls) (subst (λ (k : ℕ). Memᴰ (code k q) (codes_from (suc l) ls)) (shifted l i) (mem-codes (suc l) ls i q (omega arith) m))
  where
    shifted : (l i : ℕ) → suc l + i ≡ l + suc i
    shifted l i = omega arith

-- ---- rows and lengths
pub rows-codes : (active : List ℕ) (l : ℕ) (ls : List (List ℕ)) → Small ls → coded_rows active (codes_from l ls) ≡ joined (map (map (λ q. get_or active q 0)) ls)
unfolding codes_from coded_rows joined All
rows-codes active l [] h = refl
rows-codes active l (ps ∷ ls) h =
    let f : ℕ → ℕ = λ c. get_or active (c % most_leaves) 0 in
    map-append f (map (code l) ps) (codes_from (suc l) ls)
    ∙ ap₂ (λ (x y : List ℕ). x ++ y)
    (map-map f (code l) ps ∙ map_same (λ q. f (code l q)) (λ q. get_or active q 0) ps
    (λ q i. let g = all-mem (λ q. q < most_leaves) ps h.0 q i in let e : code l q % most_leaves ≡ q = omega arith in ap (λ (k : ℕ). get_or active k 0) e))
    (rows-codes active (suc l) ls h.1)

pub length-codes : (l : ℕ) (ls : List (List ℕ)) → length (codes_from l ls) ≡ length (joined ls)
unfolding codes_from joined
length-codes l [] = refl
length-codes l (ps ∷ ls) =
    length-append (map (code l) ps) (codes_from (suc l) ls) ∙ ap₂ (λ (a b : ℕ). a + b) (length-map ps (code l)) (length-codes (suc l) ls) ∙ sym (length-append ps (joined ls))

-- ---- where the numbers of the k-th leaf start
pub drop-codes : (l : ℕ) (ls : List (List ℕ)) (k : ℕ) → k ≤ length ls → drop (total (map length (take k ls))) (codes_from l ls) ≡ codes_from (l + k) (drop k ls)
unfolding codes_from total
drop-codes l ls zero h = ap (λ (j : ℕ). codes_from j ls) (sym (add-zero l))
drop-codes l [] (suc k) h = absurd (not-suc-le-zero h)
drop-codes l (ps ∷ ls) (suc k) h =
    let e : length ps ≡ length (map (code l) ps) = sym (length-map ps (code l)) in
    ap (λ (j : ℕ). drop (j + total (map length (take k ls))) (map (code l) ps ++ codes_from (suc l) ls)) e
    ∙ drop-append-add (map (code l) ps) (codes_from (suc l) ls) (total (map length (take k ls)))
    ∙ drop-codes (suc l) ls k (omega arith) ∙ ap (λ (j : ℕ). codes_from j (drop k ls)) (shifted l k)
  where
    shifted : (l i : ℕ) → suc l + i ≡ l + suc i
    shifted l i = omega arith
