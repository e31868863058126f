-- The turns of the loop that writes rows. Assumes nothing.
-- Holds: length-coded, coded_none, coded-more, coded-end
use mathlib.Core.Path.{◌≡◌, sym, ap, ◌∙◌}
use mathlib.Core.List.{List, [], ◌∷◌, ◌++◌}
use Prim.Native.Nat.{ℕ, suc, ◌+◌, ◌%◌, ◌≤◌, ◌<◌}
use native.Mathlib.Omega.{arith}
use native.Mathlib.Numerals.{add-one}
use lib.ListN.{length, get_or, set, take, length-map}
use lib.Seq.{take-suc, length-take-le, take-length}
use Rattle.lists.specs.Lists.{put}
use Rattle.lists.proofs.Put.{put-nil, put-snoc}
use Rattle.lists.proofs.Map.{map_snoc}
use Rattle.rows.specs.Rows.{most_leaves}
use Rattle.overlaps.specs.Codes.{coded_rows}

pub length-coded : (active codes : List ℕ) → length (coded_rows active codes) ≡ length codes
unfolding coded_rows
length-coded active codes = length-map codes (λ c. get_or active (c % most_leaves) 0)

module _ (codes active out : List ℕ) (at : ℕ) (room : at + length codes ≤ length out) where
  pub coded_none : out ≡ put out at (coded_rows active (take 0 codes))
  unfolding coded_rows
  coded_none = sym (put-nil out at)

  coded-snoc : (k : ℕ) → k < length codes → coded_rows active (take k codes) ++ (get_or active (get_or codes k 0 % most_leaves) 0) ∷ [] ≡ coded_rows active (take (suc k) codes)
  unfolding coded_rows
  coded-snoc k h = rw (take-suc codes k 0 h) (sym (map_snoc (λ c. get_or active (c % most_leaves) 0) (take k codes) (get_or codes k 0)))

  pub coded-more : (new : List ℕ) (k : ℕ) → k < length codes → new ≡ put out at (coded_rows active (take k codes))
      → set new (at + k) (get_or active (get_or codes k 0 % most_leaves) 0) ≡ put out at (coded_rows active (take (k + 1) codes))
  coded-more new k h e =
      let z = length-coded active (take k codes) ∙ length-take-le k codes (omega arith) in
      rw (e, add-one) (put-snoc out at (coded_rows active (take k codes)) (get_or active (get_or codes k 0 % most_leaves) 0) (at + k) (omega arith) (omega arith)
      ∙ ap (put out at) (coded-snoc k h))

  pub coded-end : (new : List ℕ) (k : ℕ) → k ≤ length codes → length codes ≤ k → new ≡ put out at (coded_rows active (take k codes)) → new ≡ put out at (coded_rows active codes)
  coded-end new k h g e =
      let q : k ≡ length codes = omega arith in
      e ∙ ap (λ (l : List ℕ). put out at (coded_rows active l)) (ap (λ (n : ℕ). take n codes) q ∙ take-length codes)
