-- The entries of a list, compared by their bits with what a record says. Assumes nothing.
use mathlib.Core.Path.{◌≡◌, sym, ap, ◌∙◌}
use Prim.Native.Nat.{ℕ, ◌+◌, ◌*◌, min, ◌≤◌, ◌<◌}
use native.Mathlib.Omega.{arith}
use mathlib.Core.Bool.{Bool}
use mathlib.Core.List.{List, map}
use borrow.Author.Tests.{lt-ltb, le-ltb}
use lib.ListN.{length, get_or, take, drop}
use Rattle.std.specs.Prelude.{cond}
use Rattle.std.proofs.lemmas.List.{map_more}
use Rattle.formats.specs.Bytes.{field, number_at, number_size}
use Rattle.lists.specs.Lists.{from}
use Rattle.lists.proofs.From.{map-below-suc}
use Rattle.call_records.specs.Reads.{entry_bits, bits_wanted}

-- the entries of the list agree with what is wanted, and one more does
pub same_more : {A : Type 0} (f : A → ℕ) (g : ℕ → ℕ) (xs : List A) (i : ℕ) (x : A) → i < length xs → x ≡ get_or xs i x → f x ≡ g i
    → map f (take i xs) ≡ map g (from 0 i) → map f (take (i + 1) xs) ≡ map g (from 0 (i + 1))
same_more f g xs i x h is e p = rw (map_more f xs i x h, map-below-suc g i, p, sym is, e)

-- ---- the bits that are wanted of the i-th entry, where w bytes are an entry, and those before i and the count were read
module _ (w nine i count : ℕ) (bs : List ℕ) (c : count ≡ number_at 0 bs) where
  pub wanted_entry : (old : List ℕ) (n : ℕ) → old ≡ drop (number_size + w * min i count) bs → i < count → n ≡ field w 0 old → n ≡ bits_wanted w nine bs i
  wanted_entry old n e h value =
      let here : min i count ≡ i = omega arith in
      let front : n ≡ entry_bits w bs i = value ∙ ap (field w 0) (rw here at e) in
      front ∙ sym (ap (λ (b : Bool). cond b (entry_bits w bs i) nine) (lt-ltb i (number_at 0 bs) (rw c at h)))

  pub wanted_past : count ≤ i → nine ≡ bits_wanted w nine bs i
  wanted_past h = sym (ap (λ (b : Bool). cond b (entry_bits w bs i) nine) (le-ltb i (number_at 0 bs) (rw c at h)))
