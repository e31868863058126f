-- The first number of a list, from an index on, that is no less than a limit. Assumes nothing.
use Rattle.std.proofs.Common.{◌≡◌, refl, ap, ◌∙◌, ℕ, ◌+◌, ◌-◌, ◌<◌, ◌≤◌, Bool, true, false, not, cond, List, length, get_or, take, drop, length-drop, Option, Some, None, position, nat_lt, nat_le, arith}
use Rattle.std.specs.List.{position_or_len}
use Rattle.std.specs.Option.{unwrap_or}
use Rattle.std.proofs.lemmas.Bool.Decides.{nat_tests}
use Rattle.std.proofs.lemmas.List.Sums.{prefix_len-le-length, fails_before_first, passes_at_first}
use lib.Seq.{take_all, get_or-drop}
use Rattle.overlaps.specs.Codes.{Reached}

-- what `position` finds, and otherwise the length, is the first that passes
found-or : (t : ℕ → Bool) (l : List ℕ) → unwrap_or (position t l) (length l) ≡ position_or_len t l
found-or t l = go (nat_lt (position_or_len t l) (length l)) refl
  where
    go : (b : Bool) → nat_lt (position_or_len t l) (length l) ≡ b → unwrap_or (cond b (Some (position_or_len t l)) None) (length l) ≡ position_or_len t l
    go true h = refl
    go false h = grind (arith, nat_tests, prefix_len-le-length (λ x. not (t x)) l)

no-less : (limit x : ℕ) → nat_le limit x ≡ false → x < limit
no-less limit x h = grind (arith, nat_tests, h)

less-or : (limit x : ℕ) → nat_le limit x ≡ true → limit ≤ x
less-or limit x h = grind (arith, nat_tests, h)

pub reached : (l : List ℕ) (from limit : ℕ) (found : Option ℕ) → from ≤ length l → found ≡ position (nat_le limit) (take (length l - from) (drop from l))
    → Reached l from limit (from + unwrap_or found (length (take (length l - from) (drop from l))))
reached l from limit found h e =
    let t = nat_le limit in
    let rest = drop from l in
    let long : length rest ≡ length l - from = length-drop from l in
    let whole : take (length l - from) rest ≡ rest = take_all (length l - from) rest (omega (arith, long)) in
    let k = position_or_len t rest in
    let is : unwrap_or found (length (take (length l - from) rest)) ≡ k = rw (e, whole) (found-or t rest) in
    let few : k ≤ length rest = prefix_len-le-length (λ x. not (t x)) rest in
    rw is
    (record {
      start = omega arith;
      inside = omega (arith, h, few, long);
      under = λ j a b.
          let i = j - from in
          let at : from + i ≡ j = omega (arith, a) in
          let less : t (get_or rest i 0) ≡ false = fails_before_first t rest i 0 (omega (arith, a, b)) in
          let here : get_or rest i 0 ≡ get_or l j 0 = get_or-drop from l i 0 ∙ ap (λ (n : ℕ). get_or l n 0) at in
          rw (← here) (no-less limit (get_or rest i 0) less);
      stop = λ b. rw (← get_or-drop from l k 0) (less-or limit (get_or rest k 0) (passes_at_first t rest 0 (omega (arith, b, long))));
    })
